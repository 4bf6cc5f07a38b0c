-- The fields that are left, one by one: as many turns as there are bytes are enough, so none need be counted. Assumes nothing.
use Rattle.std.proofs.Common.{◌≡◌, ℕ, zero, suc, ◌<◌, ◌≤◌, List, [], ◌∷◌, length, is_some, Some, None, Option, unwrap_or, sym, refl, ap, ◌∙◌, arith}
use Rattle.std.specs.Option.{option_map}
use Rattle.sheets.specs.declared.reader.Stage.{Stage}
use Rattle.sheets.specs.declared.reader.Stage.TheVariants as stage
use Rattle.sheets.specs.Fields.{Piece}
use Rattle.sheets.specs.Grammar.{step_at, step, bind, Step, State, pieces, left, turns, handed, ended}
use Rattle.std.proofs.lemmas.Option.{same_Some, none-some}
use Rattle.sheets.proofs.Options.{bind_parts, bind_same}
use Rattle.sheets.proofs.Steps.{taken, shorter}

-- a field, and then those that are left after it
abbrev after_step : Option Step → Option (List Piece)
after_step o = bind o (λ t. bind (left t.then) (λ fs. Some (t.read ∷ fs)))

-- any two numbers of turns that are enough give the same
enough : (n m : ℕ) (s : Stage) (z : ℕ) (bs : List ℕ) → length bs ≤ n → length bs ≤ m → pieces n s z bs ≡ pieces m s z bs
enough n m s z [] h k = refl
enough zero m s z (b ∷ bs) h k = absurd (omega arith)
enough (suc n) zero s z (b ∷ bs) h k = absurd (omega arith)
enough (suc n) (suc m) s z (b ∷ bs) h k =
    bind_same (step_at s z (b ∷ bs)) _ _ (λ t e.
    let less = shorter (taken s z (b ∷ bs) t e) in
    ap (λ o. bind o (λ fs. Some (t.read ∷ fs))) (enough n m t.then.stage t.then.whole t.then.rest (omega arith) (omega arith)))

more_at : (s : Stage) (z : ℕ) (bs : List ℕ) → 0 < length bs → pieces (length bs) s z bs ≡ after_step (step_at s z bs)
more_at s z [] h = absurd (omega arith)
more_at s z (b ∷ bs) h =
    bind_same (step_at s z (b ∷ bs)) _ _ (λ t e.
    let less = shorter (taken s z (b ∷ bs) t e) in
    ap (λ o. bind o (λ fs. Some (t.read ∷ fs))) (enough (length bs) (length t.then.rest) t.then.stage t.then.whole t.then.rest (omega arith) (omega arith)))

-- a field is taken: it comes before those that are left then
pub left_step : (q : State) (t : Step) → Some t ≡ step q → left q ≡ bind (left t.then) (λ fs. Some (t.read ∷ fs))
left_step q t e =
    let less = shorter (taken q.stage q.whole q.rest t (sym e)) in
    more_at q.stage q.whole q.rest (omega arith) ∙ ap after_step (sym e)

some_bind : (f : Piece) (o : Option (List Piece)) → is_some o ≡ is_some (bind o (λ fs. Some (f ∷ fs)))
some_bind f None = refl
some_bind f (Some fs) = refl

-- so there are fields to the end before it exactly if there are after it
pub some_step : (q : State) (t : Step) → Some t ≡ step q → is_some (left t.then) ≡ is_some (left q)
some_step q t e = some_bind t.read (left t.then) ∙ ap is_some (sym (left_step q t e))

stop_at : (s : Stage) (z : ℕ) (bs : List ℕ) → None ≡ step_at s z bs → ended s ≡ None → pieces (length bs) s z bs ≡ None
stop_at s z [] e h = h
stop_at s z (b ∷ bs) e h = more_at s z (b ∷ bs) (omega arith) ∙ ap after_step (sym e)

-- no field is taken where the sheet may not end: there are none to the end
pub left_stop : (q : State) → None ≡ step q → ended q.stage ≡ None → left q ≡ None
left_stop q e h = stop_at q.stage q.whole q.rest e h

-- nothing is left at the end
pub ended_nil : (s : Stage) (fs : List Piece) → ended s ≡ Some fs → fs ≡ []
ended_nil stage.Start fs e = absurd (none-some fs e)
ended_nil stage.Chosen fs e = absurd (none-some fs e)
ended_nil stage.Accounts fs e = sym (same_Some _ _ e)
ended_nil stage.Labels fs e = sym (same_Some _ _ e)

-- fields to the end come in as many turns
turns_left : (n : ℕ) (s : Stage) (z : ℕ) (bs : List ℕ) (fs : List Piece) → pieces n s z bs ≡ Some fs → turns n (record { stage = s; whole = z; rest = bs }) ≡ fs
turns_left zero s z [] fs e = sym (ended_nil s fs e)
turns_left (suc n) s z [] fs e = sym (ended_nil s fs e)
turns_left zero s z (b ∷ bs) fs e = absurd (none-some fs e)
turns_left (suc n) s z (b ∷ bs) fs e =
    let t = bind_parts (step_at s z (b ∷ bs)) _ fs e in
    let q = t.0.then in
    let gs = bind_parts (pieces n q.stage q.whole q.rest) _ fs t.2 in
    ap (λ o. unwrap_or (option_map (λ u. u.read ∷ turns n u.then) o) []) t.1
    ∙ ap (λ hs. t.0.read ∷ hs) (turns_left n q.stage q.whole q.rest gs.0 gs.1)
    ∙ same_Some _ fs gs.2

-- a reader with fields to the end hands on these
pub handed_left : (q : State) (fs : List Piece) → left q ≡ Some fs → handed q ≡ fs
handed_left q fs e = turns_left (length q.rest) q.stage q.whole q.rest fs e
