-- Numbers that ascend: where a number ranks among them, whether it is there, and that edits keep them ascending.
use Rattle.std.proofs.Common.{◌≡◌, ℕ, zero, suc, ◌+◌, ◌-◌, ◌<◌, ◌≤◌, true, false, cond, eqb, List, [], ◌∷◌, length, get_or, Ok, Err, Result, sym, refl, ap, ◌∙◌, subst, ⊎_elim, arith}
use Rattle.std.proofs.lemmas.Bool.{lt-ltb, le-ltb, eq-eqb, ne_eqb, cases_order, cases_eq, cases_lt, cases_Bool, or_left, or_right, false≢true}
use Rattle.std.proofs.lemmas.List.Edits.{length-insert, get_or-insert_below, get_or-insert_at, get_or-insert_above, length-remove, get_or-remove_below, get_or-remove_above}
use Rattle.std.specs.List.{insert, remove}
use Rattle.indexes.specs.declared.decline.Decline.{Decline}
use Rattle.indexes.specs.declared.decline.Decline.TheVariants.{AlreadySo}
use Rattle.layers.specs.Table.{Ascending, has, under, search_answer, position_answer, gap_answer}

-- the first `at` numbers are below row, and the others are not
pub record Ranked (l : List ℕ) (row at : ℕ) : Type 0 where
  pub within : at ≤ length l
  pub below : (k : ℕ) → k < at → get_or l k 0 < row
  pub above : (k : ℕ) → at ≤ k → k < length l → row ≤ get_or l k 0

rank_by : (l : List ℕ) (row at : ℕ) → at ≤ length l → ((k : ℕ) → k < at → get_or l k 0 < row) → ((k : ℕ) → at ≤ k → k < length l → row ≤ get_or l k 0) → at ≡ under l row
rank_by [] row at le below above = omega arith
rank_by (x ∷ xs) row zero le below above =
    let h : row ≤ x = above 0 (omega arith) (omega arith) in
    let ih : 0 ≡ under xs row = rank_by xs row 0 (omega arith) (λ k l. absurd (omega arith)) (λ k _ l. above (suc k) (omega arith) (omega arith)) in
    simp (le-ltb x row h) (omega arith)
rank_by (x ∷ xs) row (suc at) le below above =
    let h : x < row = below 0 (omega arith) in
    let ih : at ≡ under xs row = rank_by xs row at (omega arith) (λ k l. below (suc k) (omega arith)) (λ k g l. above (suc k) (omega arith) (omega arith)) in
    simp (lt-ltb x row h) (omega arith)

-- a rank is a count
pub rank_is : {l : List ℕ} {row at : ℕ} → Ranked l row at → at ≡ under l row
rank_is {l} {row} {at} r = rank_by l row at r.within r.below r.above

-- where some number is not below row, no later one is
pub above_from : (l : List ℕ) (row at : ℕ) → Ascending l → at < length l → row ≤ get_or l at 0 → (k : ℕ) → at ≤ k → k < length l → row ≤ get_or l k 0
above_from l row at asc lt here k g kl =
    ⊎_elim
    (λ e. subst (λ i. row ≤ get_or l i 0) (sym e) here)
    (λ ne. let a = asc at k (omega arith) kl in omega arith)
    (cases_eq k at)

-- and a count is a rank, where the numbers ascend
pub ranked : (l : List ℕ) (row : ℕ) → Ascending l → Ranked l row (under l row)
ranked [] row asc = record { within = omega arith; below = λ k h. absurd (omega arith); above = λ k g h. absurd (omega arith) }
ranked (x ∷ xs) row asc = ⊎_elim
    (λ (h : x < row).
    let ih = ranked xs row (λ i j ij jl. asc (suc i) (suc j) (omega arith) (omega arith)) in
    let w = ih.within in
    simp (lt-ltb x row h) (subst (Ranked (x ∷ xs) row) (omega arith) (first h ih)))
    (λ (h : row ≤ x).
    let all : (k : ℕ) → 0 ≤ k → k < length (x ∷ xs) → row ≤ get_or (x ∷ xs) k 0 = above_from (x ∷ xs) row 0 asc (omega arith) h in
    let r : Ranked (x ∷ xs) row 0 = record { within = omega arith; below = λ k l. absurd (omega arith); above = all } in
    subst (Ranked (x ∷ xs) row) (rank_is r) r)
    (cases_lt x row)
  where
    first : x < row → Ranked xs row (under xs row) → Ranked (x ∷ xs) row (suc (under xs row))
    first h ih = record { within = (let w = ih.within in omega arith); below = low; above = high }
      where
        low : (k : ℕ) → k < suc (under xs row) → get_or (x ∷ xs) k 0 < row
        low zero l = h
        low (suc k) l = ih.below k (omega arith)

        high : (k : ℕ) → suc (under xs row) ≤ k → k < length (x ∷ xs) → row ≤ get_or (x ∷ xs) k 0
        high zero g l = absurd (omega arith)
        high (suc k) g l = ih.above k (omega arith) (omega arith)

pub has_at : (l : List ℕ) (i row : ℕ) → i < length l → get_or l i 0 ≡ row → has l row ≡ true
has_at [] i row lt e = absurd (omega arith)
has_at (x ∷ xs) zero row lt e = or_left (eqb x row) (has xs row) (eq-eqb x row e)
has_at (x ∷ xs) (suc i) row lt e = or_right (eqb x row) (has xs row) (has_at xs i row (omega arith) e)

pub has_none : (l : List ℕ) (row : ℕ) → ((k : ℕ) → k < length l → get_or l k 0 ≡ row → ⊥) → has l row ≡ false
has_none [] row h = refl
has_none (x ∷ xs) row h =
    let a : eqb x row ≡ false = ne_eqb x row (h 0 (omega arith)) in
    let b : has xs row ≡ false = has_none xs row (λ k l. h (suc k) (omega arith)) in
    rw (a, b) refl

-- a number is among those that ascend exactly where it stands at its rank
pub has_ranked : {l : List ℕ} {row at : ℕ} → Ascending l → Ranked l row at → at < length l → eqb (get_or l at 0) row ≡ has l row
has_ranked {l} {row} {at} asc r lt =
    ⊎_elim
    (λ e. eq-eqb (get_or l at 0) row e ∙ sym (has_at l at row lt e))
    (λ ne. ne_eqb (get_or l at 0) row ne ∙ sym (has_none l row (λ k kl e. ⊎_elim
    (λ same. ne (ap (λ i. get_or l i 0) (sym same) ∙ e))
    (λ o. ⊎_elim (λ b. let f = r.below k b in omega arith) (λ gt. let f = asc at k gt kl in let h = r.above at (omega arith) lt in omega arith) o)
    (cases_order k at))))
    (cases_eq (get_or l at 0) row)

pub lacks : {l : List ℕ} {row at : ℕ} → Ranked l row at → length l ≤ at → has l row ≡ false
lacks {l} {row} {at} r le = has_none l row (λ k kl e. let b = r.below k (omega arith) in omega arith)

-- a number that is there stands at its rank
pub stands_at : (l : List ℕ) (row : ℕ) → Ascending l → has l row ≡ true → (under l row < length l) × (get_or l (under l row) 0 ≡ row)
stands_at l row asc h =
    let r = ranked l row asc in
    ⊎_elim
    (λ (lt : under l row < length l). (lt, eqb_is (get_or l (under l row) 0) row (has_ranked asc r lt ∙ h)))
    (λ ge. absurd (false≢true (sym (lacks r ge) ∙ h)))
    (cases_lt (under l row) (length l))
  where
    eqb_is : (a b : ℕ) → eqb a b ≡ true → a ≡ b
    eqb_is a b e = ⊎_elim (λ s. s) (λ ne. absurd (false≢true (sym (ne_eqb a b ne) ∙ e))) (cases_eq a b)

-- a number that is not there is below those that are not below it
strictly : {l : List ℕ} {row at : ℕ} → Ranked l row at → has l row ≡ false → (k : ℕ) → at ≤ k → k < length l → row < get_or l k 0
strictly {l} {row} {at} r gone k g kl =
    ⊎_elim
    (λ e. absurd (false≢true (sym gone ∙ has_at l k row kl e)))
    (λ ne. let a = r.above k g kl in omega arith)
    (cases_eq (get_or l k 0) row)

-- a new number goes in at its rank
pub ascending_inserted : (l : List ℕ) (row at : ℕ) → Ascending l → Ranked l row at → has l row ≡ false → Ascending (insert l at row)
ascending_inserted l row at asc r gone i j ij jl =
    let w = r.within in
    let long = length-insert l at row w in
    let here = get_or-insert_at l at row 0 w in
    let low : (k : ℕ) → k < at → get_or (insert l at row) k 0 ≡ get_or l k 0 = λ k b. get_or-insert_below l at row 0 k b w in
    let high : (k : ℕ) → at < k → get_or (insert l at row) k 0 ≡ get_or l (k - 1) 0 = λ k g.
    (let back : (k - 1) + 1 ≡ k = omega arith in ap (λ n. get_or (insert l at row) n 0) (sym back) ∙ get_or-insert_above l at row 0 (k - 1) (omega arith) w) in
    ⊎_elim
    (λ ie. let hj = high j (omega arith) in let ab = strictly r gone (j - 1) (omega arith) (omega arith) in let hi : get_or (insert l at row) i 0 ≡ row = ap (λ k. get_or (insert l at row) k 0) ie ∙ here in omega arith)
    (λ o. ⊎_elim
    (λ il. let hi = low i il in ⊎_elim
    (λ je. let hj : get_or (insert l at row) j 0 ≡ row = ap (λ k. get_or (insert l at row) k 0) je ∙ here in let b = r.below i il in omega arith)
    (λ p. ⊎_elim
    (λ jlt. let hj = low j jlt in let a = asc i j ij (omega arith) in omega arith)
    (λ jgt. let hj = high j jgt in let a = asc i (j - 1) (omega arith) (omega arith) in omega arith) p)
    (cases_order j at))
    (λ ig. let hi = high i ig in let hj = high j (omega arith) in let a = asc (i - 1) (j - 1) (omega arith) (omega arith) in omega arith) o)
    (cases_order i at)

pub ascending_removed : (l : List ℕ) (at : ℕ) → Ascending l → at < length l → Ascending (remove l at)
ascending_removed l at asc lt i j ij jl =
    let long = length-remove l at lt in
    ⊎_elim
    (λ il. let hi = get_or-remove_below l at 0 i il lt in ⊎_elim
    (λ jlt. let hj = get_or-remove_below l at 0 j jlt lt in let a = asc i j ij (omega arith) in omega arith)
    (λ jge. let hj = get_or-remove_above l at 0 j jge lt in let a = asc i (j + 1) (omega arith) (omega arith) in omega arith)
    (cases_lt j at))
    (λ ig. let hi = get_or-remove_above l at 0 i ig lt in let hj = get_or-remove_above l at 0 j (omega arith) lt in let a = asc (i + 1) (j + 1) (omega arith) (omega arith) in omega arith)
    (cases_lt i at)

-- a number stands at its rank
rank_at : (l : List ℕ) (row at : ℕ) → Ascending l → at < length l → get_or l at 0 ≡ row → at ≡ under l row
rank_at l row at asc lt is = rank_is (record {
  within = omega arith;
  below = λ k h. omega (arith, asc k at h lt);
  above = above_from l row at asc lt (omega arith);
})

-- a search that ends at a number of the list, or at the gap for it, is the rank
pub found_is : (l : List ℕ) (row at : ℕ) → Ascending l → at < length l → get_or l at 0 ≡ row → Ok at ≡ search_answer l row
found_is l row at asc lt is = rw (has_at l at row lt is) (ap Ok (rank_at l row at asc lt is))

pub gap_is : (l : List ℕ) (row at : ℕ) → at ≤ length l → ((k : ℕ) → k < at → get_or l k 0 < row) → ((k : ℕ) → at ≤ k → k < length l → row < get_or l k 0) → Err at ≡ search_answer l row
gap_is l row at le below above =
    let gone : has l row ≡ false = has_none l row (λ k h e. ⊎_elim (λ lt. omega (arith, below k lt)) (λ ge. omega (arith, above k ge h)) (cases_lt k at)) in
    rw gone (ap Err (rank_is (record { within = le; below = below; above = λ k g h. omega (arith, above k g h) })))

ok_same : (x y : ℕ) → ◌≡◌ {A = Result ℕ Decline} (Ok x) (Ok y) → x ≡ y
ok_same x y e = cc

ok_err : (x : ℕ) (d : Decline) → ◌≡◌ {A = Result ℕ Decline} (Ok x) (Err d) → ⊥
ok_err x d e = let z : ◌≡◌ {A = ℕ} 0 1 = cc in omega arith

-- what such an answer shows: the number is there, at its rank
pub record Stands (l : List ℕ) (row at : ℕ) : Type 0 where
  pub there : has l row ≡ true
  pub rank : at ≡ under l row
  pub within : at < length l

pub stands : (l : List ℕ) (row at : ℕ) → Ascending l → Ok at ≡ position_answer l row → Stands l row at
stands l row at asc e = ⊎_elim
    (λ (t : has l row ≡ true).
    let r : at ≡ under l row = ok_same at (under l row) (e ∙ ap (λ b. cond b (Ok (under l row)) (Err AlreadySo)) t) in
    record { there = t; rank = r; within = omega (arith, (stands_at l row asc t).0) })
    (λ (f : has l row ≡ false). absurd (ok_err at AlreadySo (e ∙ ap (λ b. cond b (Ok (under l row)) (Err AlreadySo)) f)))
    (cases_Bool (has l row))

-- or it is not there, and has its gap
pub record Fits (l : List ℕ) (row at : ℕ) : Type 0 where
  pub absent : has l row ≡ false
  pub rank : at ≡ under l row
  pub ranked : Ranked l row at

pub fits : (l : List ℕ) (row at : ℕ) → Ascending l → Ok at ≡ gap_answer l row → Fits l row at
fits l row at asc e = ⊎_elim
    (λ (t : has l row ≡ true). absurd (ok_err at AlreadySo (e ∙ ap (λ b. cond b (Err AlreadySo) (Ok (under l row))) t)))
    (λ (f : has l row ≡ false).
    let r : at ≡ under l row = ok_same at (under l row) (e ∙ ap (λ b. cond b (Err AlreadySo) (Ok (under l row))) f) in
    record { absent = f; rank = r; ranked = subst (Ranked l row) (sym r) (ranked l row asc) })
    (cases_Bool (has l row))
