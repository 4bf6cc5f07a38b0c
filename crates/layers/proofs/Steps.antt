-- One call on a strike list against the reference.
use Rattle.std.proofs.Common.{◌≡◌, ℕ, ◌<◌, Bool, true, false, cond, ltb, leb, List, length, Ok, Err, Result, is_ok, sym, refl, ap, ◌∙◌, subst, ⊎_elim, arith}
use mathlib.Core.Path.{fun_ext}
use Rattle.std.proofs.lemmas.Bool.{cond-true, cases_Bool, cases_eq, eq-eqb, ne_eqb, ltb-true, false≢true}
use Rattle.indexes.specs.Meaning.{Meaning}
use Rattle.indexes.specs.declared.decline.Decline.{Decline}
use Rattle.indexes.specs.declared.decline.Decline.TheVariants.{NoSuchRow, AlreadySo}
use Rattle.layers.specs.declared.calls.Call.{Call}
use Rattle.layers.specs.declared.calls.Call.TheVariants as call
use Rattle.layers.specs.declared.calls.Answer.TheVariants as answer
use Rattle.layers.specs.Table.{Ascending, has, under, Within, number_answer, strike_answer, restore_answer, with_number, without_number}
use Rattle.layers.specs.Sight.{out_below}
use Rattle.layers.specs.declared.strike_list.StrikeList.{StrikeList}
use Rattle.layers.specs.Reference.{reply, set_after, fed, as_answer, counted, Reply, Step}
use Rattle.layers.proofs.Sights.{out_under}
use Rattle.layers.proofs.Ascending.{stands_at}
use Rattle.layers.proofs.Members.{has_inserted, has_removed, under_all}

err_ok : (d : Decline) (u : Unit {0}) → ◌≡◌ {A = Result (Unit {0}) Decline} (Ok u) (Err d) → ⊥
err_ok d u e = let z : ◌≡◌ {A = ℕ} 0 1 = cc in omega arith

-- a row number that is answered is inside
inside : (n row : ℕ) (u : Unit {0}) → Ok u ≡ number_answer n row → ltb row n ≡ true
inside n row u e =
    ⊎_elim (λ t. t) (λ (f : ltb row n ≡ false). absurd (err_ok NoSuchRow u (e ∙ rw f refl))) (cases_Bool (ltb row n))

-- where the row number is one, the table's answer is the call's
pub answered : (n row : ℕ) (u : Unit {0}) {r a : Result (Unit {0}) Decline} → Ok u ≡ number_answer n row → r ≡ a → r ≡ cond (ltb row n) a (Err NoSuchRow)
answered n row u is e = e ∙ sym (cond-true _ _ _ (inside n row u is))

-- what an accepted call shows of its row
pub record Accepts (n : ℕ) (l : List ℕ) (row : ℕ) (there : Bool) : Type 0 where
  pub inside : row < n
  pub known : has l row ≡ there

strike_accepts : (n : ℕ) (l : List ℕ) (row : ℕ) (u : Unit {0}) → Ok u ≡ strike_answer n l row → Accepts n l row false
strike_accepts n l row u e =
    ⊎_elim
    (λ (inside : ltb row n ≡ true). ⊎_elim
    (λ (there : has l row ≡ true). absurd (err_ok AlreadySo u (e ∙ rw (inside, there) refl)))
    (λ (absent : has l row ≡ false). record { inside = ltb-true row n inside; known = absent })
    (cases_Bool (has l row)))
    (λ (outside : ltb row n ≡ false). absurd (err_ok NoSuchRow u (e ∙ rw outside refl)))
    (cases_Bool (ltb row n))

restore_accepts : (n : ℕ) (l : List ℕ) (row : ℕ) (u : Unit {0}) → Ok u ≡ restore_answer n l row → Accepts n l row true
restore_accepts n l row u e =
    ⊎_elim
    (λ (inside : ltb row n ≡ true). ⊎_elim
    (λ (there : has l row ≡ true). record { inside = ltb-true row n inside; known = there })
    (λ (absent : has l row ≡ false). absurd (err_ok AlreadySo u (e ∙ rw (inside, absent) refl)))
    (cases_Bool (has l row)))
    (λ (outside : ltb row n ≡ false). absurd (err_ok NoSuchRow u (e ∙ rw outside refl)))
    (cases_Bool (ltb row n))

-- the numbers stay below the length of the rows
pub with_within : (n : ℕ) (l : List ℕ) (row : ℕ) (res : Result (Unit {0}) Decline) → res ≡ strike_answer n l row → Within l n → Within (with_number res l row) n
with_within n l row (Err d) e w r h = w r h
with_within n l row (Ok u) e w r h =
    ⊎_elim
    (λ same. let i = (strike_accepts n l row u e).inside in omega arith)
    (λ ne. w r (sym (has_inserted l (under l row) row r ∙ ap (λ b. cond b true (has l r)) (ne_eqb r row ne)) ∙ h))
    (cases_eq r row)

pub without_within : (n : ℕ) (l : List ℕ) (row : ℕ) → Ascending l → (res : Result (Unit {0}) Decline) → res ≡ restore_answer n l row → Within l n → Within (without_number res l row) n
without_within n l row asc (Err d) e w r h = w r h
without_within n l row asc (Ok u) e w r h =
    let st = stands_at l row asc (restore_accepts n l row u e).known in
    let gone = has_removed l (under l row) row r asc st.0 st.1 in
    ⊎_elim
    (λ same. absurd (false≢true (sym (gone ∙ ap (λ b. cond b false (has l r)) (eq-eqb r row same)) ∙ h)))
    (λ ne. w r (sym (gone ∙ ap (λ b. cond b false (has l r)) (ne_eqb r row ne)) ∙ h))
    (cases_eq r row)

module _ {K : Type 0} (before : K → K → Bool) (m : Meaning K) where
  kept : (out : ℕ → Bool) (c : Call K) (d : Decline) → Err d ≡ reply before m out c → out ≡ set_after before m out c
  kept out c d e = fun_ext (λ q. ap (λ a. cond (is_ok a) (fed out c q) (out q)) e)

  done : (out : ℕ → Bool) (c : Call K) → Ok answer.Done ≡ reply before m out c → fed out c ≡ set_after before m out c
  done out c e = fun_ext (λ q. ap (λ a. cond (is_ok a) (fed out c q) (out q)) e)

  -- a strike and a restore are answered as by the reference
  module _ (l : List ℕ) (asc : Ascending l) (w : Within l (length m.rows)) (row : ℕ) where
    told_strike : as_answer (strike_answer (length m.rows) l row) ≡ reply before m (has l) (call.Strike row)
    told_strike =
        let size : out_below (has l) (length m.rows) ≡ length l = out_under l asc (length m.rows) ∙ under_all l (length m.rows) w in
        ⊎_elim
        (λ (inside : ltb row (length m.rows) ≡ true). ⊎_elim
        (λ (there : has l row ≡ true). rw (inside, there) refl)
        (λ (absent : has l row ≡ false). ⊎_elim
        (λ (many : leb 64 (length l) ≡ true). rw (inside, absent, size, many) refl)
        (λ (few : leb 64 (length l) ≡ false). rw (inside, absent, size, few) refl)
        (cases_Bool (leb 64 (length l))))
        (cases_Bool (has l row)))
        (λ (outside : ltb row (length m.rows) ≡ false). rw outside refl)
        (cases_Bool (ltb row (length m.rows)))

    told_restore : as_answer (restore_answer (length m.rows) l row) ≡ reply before m (has l) (call.Restore row)
    told_restore =
        ⊎_elim
        (λ (inside : ltb row (length m.rows) ≡ true). ⊎_elim
        (λ (there : has l row ≡ true). rw (inside, there) refl)
        (λ (absent : has l row ≡ false). rw (inside, absent) refl)
        (cases_Bool (has l row)))
        (λ (outside : ltb row (length m.rows) ≡ false). rw outside refl)
        (cases_Bool (ltb row (length m.rows)))

    pub strike_told : (res : Result (Unit {0}) Decline) → res ≡ strike_answer (length m.rows) l row → as_answer res ≡ reply before m (has l) (call.Strike row)
    strike_told res e = ap as_answer e ∙ told_strike

    pub strike_leaves : (res : Result (Unit {0}) Decline) → res ≡ strike_answer (length m.rows) l row → has (with_number res l row) ≡ set_after before m (has l) (call.Strike row)
    strike_leaves (Err d) e = kept (has l) (call.Strike row) d (strike_told (Err d) e)
    strike_leaves (Ok u) e = fun_ext (λ q. has_inserted l (under l row) row q) ∙ done (has l) (call.Strike row) (strike_told (Ok u) e)

    pub restore_told : (res : Result (Unit {0}) Decline) → res ≡ restore_answer (length m.rows) l row → as_answer res ≡ reply before m (has l) (call.Restore row)
    restore_told res e = ap as_answer e ∙ told_restore

    pub restore_leaves : (res : Result (Unit {0}) Decline) → res ≡ restore_answer (length m.rows) l row → has (without_number res l row) ≡ set_after before m (has l) (call.Restore row)
    restore_leaves (Err d) e = kept (has l) (call.Restore row) d (restore_told (Err d) e)
    restore_leaves (Ok u) e =
        let st = stands_at l row asc (restore_accepts (length m.rows) l row u e).known in
        fun_ext (λ q. has_removed l (under l row) row q asc st.0 st.1) ∙ done (has l) (call.Restore row) (restore_told (Ok u) e)

  same_both : (b x : Bool) → x ≡ cond b x x
  same_both true x = refl
  same_both false x = refl

  -- a call that feeds the set nothing leaves it
  pub quiet : (out : ℕ → Bool) (c : Call K) → fed out c ≡ out → out ≡ set_after before m out c
  quiet out c f = fun_ext (λ q. same_both (is_ok (reply before m out c)) (out q) ∙ sym (ap (λ (s : ℕ → Bool). cond (is_ok (reply before m out c)) (s q) (out q)) f))

-- a step by the call that was matched
pub called : {K I : Type 0} {before : K → K → Bool} {means : I → Meaning K} {list left : StrikeList K I} {a : Reply K} {c c' : Call K} → c ≡ c' → Step before means list c' a left → Step before means list c a left
called {before = before} {means = means} {list = list} {left = left} {a = a} e h = subst (λ x. Step before means list x a left) (sym e) h

pub counted_is : {K : Type 0} {p p' n n' : ℕ} → p ≡ p' → n ≡ n' → ◌≡◌ {A = Reply K} (Ok (answer.Place (counted p n))) (Ok (answer.Place (counted p' n')))
counted_is {p' = p'} {n = n} e f = ap (λ m. Ok (answer.Place (counted m n))) e ∙ ap (λ m. Ok (answer.Place (counted p' m))) f
