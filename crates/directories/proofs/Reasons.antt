-- Reasons to decline, one after the other: where none fits, and where one more may.
use Rattle.std.proofs.Common.{◌≡◌, ℕ, ◌≤◌, Bool, true, false, cond, not, List, [], ◌∷◌, ◌++◌, length, Ok, Err, Result, sym, refl, arith}
use Rattle.std.proofs.lemmas.Bool.{ltb-false, eqb-true}
use Rattle.indexes.specs.declared.decline.Decline.{Decline}
use Rattle.indexes.specs.declared.layout.Layout.{Layout}
use Rattle.indexes.specs.Meaning.{Ordered}
use Rattle.shapes.specs.Layouts.{allowed, shape_under, slots_in}
use Rattle.directories.specs.Opening.{in_order, first_fit, building}
use Rattle.directories.proofs.Columns.{ordered_from_test}

-- where no reason fits, one reason more decides
pub one_more : (rs : List (Bool × Decline)) (b : Bool) (d : Decline) → first_fit rs ≡ Ok tt → first_fit (rs ++ (b, d) ∷ []) ≡ cond b (Err d) (Ok tt)
one_more [] b d e = refl
one_more (r ∷ rs) b d e = by r.0 (one_more rs b d) e
  where
    by : (f : Bool) → (first_fit rs ≡ Ok tt → first_fit (rs ++ (b, d) ∷ []) ≡ cond b (Err d) (Ok tt))
        → cond f (Err r.1) (first_fit rs) ≡ Ok tt → cond f (Err r.1) (first_fit (rs ++ (b, d) ∷ [])) ≡ cond b (Err d) (Ok tt)
    by true rest e = let z : ◌≡◌ {A = ℕ} 0 1 = cc in absurd (omega arith)
    by false rest e = rest e

-- where one fits, one reason more changes nothing
pub one_more_declined : (rs : List (Bool × Decline)) (b : Bool) (d why : Decline) → first_fit rs ≡ Err why → first_fit (rs ++ (b, d) ∷ []) ≡ Err why
one_more_declined [] b d why e = let z : ◌≡◌ {A = ℕ} 0 1 = cc in absurd (omega arith)
one_more_declined (r ∷ rs) b d why e = by r.0 (one_more_declined rs b d why) e
  where
    by : (f : Bool) → (first_fit rs ≡ Err why → first_fit (rs ++ (b, d) ∷ []) ≡ Err why)
        → cond f (Err r.1) (first_fit rs) ≡ Err why → cond f (Err r.1) (first_fit (rs ++ (b, d) ∷ [])) ≡ Err why
    by true rest e = e
    by false rest e = rest e

unfit : (b : Bool) (d : Decline) (rest : Result Unit Decline) → cond b (Err d) rest ≡ Ok tt → (b ≡ false) × (rest ≡ Ok tt)
unfit true d rest e = let z : ◌≡◌ {A = ℕ} 0 1 = cc in absurd (omega arith)
unfit false d rest e = (refl, e)

not-false : (b : Bool) → not b ≡ false → b ≡ true
not-false true e = refl
not-false false e = sym e

-- a column and a number of slots that no reason declines
pub record Fit {K : Type 0} (before : K → K → Bool) (layout : Layout) (column : List K) (slots : ℕ) : Type 0 where
  pub fine : allowed layout ≡ true
  pub few : length column ≤ 1048576
  pub ordered : Ordered before column
  pub counted : slots ≡ slots_in (shape_under layout (length column))

pub fit : {K : Type 0} (before : K → K → Bool) (layout : Layout) (column : List K) (slots : ℕ) → building before layout column slots ≡ Ok tt → Fit before layout column slots
fit before layout column slots e =
    let a = unfit _ _ _ e in
    let b = unfit _ _ _ a.1 in
    let c = unfit _ _ _ b.1 in
    let d = unfit _ _ _ c.1 in
    record {
      fine = not-false (allowed layout) a.0;
      few = ltb-false 1048576 (length column) b.0;
      ordered = ordered_from_test before column (not-false (in_order before column) c.0);
      counted = eqb-true _ _ (not-false _ d.0);
    }
