-- Which columns and slots are declined, and why. Assumes nothing.
use Rattle.std.specs.Prelude.{ℕ, Bool, true, cond, not, ◌&&◌, List, [], ◌∷◌, ◌++◌, length, Ok, Err, Result, ◌==◌, nat_lt}
use Rattle.indexes.specs.declared.decline.Decline.{Decline}
use Rattle.indexes.specs.declared.decline.Decline.TheVariants.{NodeSize, TooManyRows, OutOfOrder, SlotCount, SlotDiffers}
use Rattle.indexes.specs.declared.layout.Layout.{Layout}
use Rattle.shapes.specs.Layouts.{allowed, shape_under, slots_in}
use Rattle.directories.specs.Slots.{slots_under, agree}

-- does no row come before its predecessor?
abbrev pub in_order : {K : Type 0} → (K → K → Bool) → List K → Bool
in_order before [] = true
in_order before (x ∷ []) = true
in_order before (x ∷ (y ∷ ys)) = not (before y x) && in_order before (y ∷ ys)

-- declined by the first reason that fits
abbrev pub first_fit : List (Bool × Decline) → Result Unit Decline
first_fit [] = Ok tt
first_fit (reason ∷ rest) = cond reason.0 (Err reason.1) (first_fit rest)

-- why a directory of so many slots may not be built over a column
abbrev pub reasons : {K : Type 0} → (K → K → Bool) → Layout → List K → ℕ → List (Bool × Decline)
reasons before layout column slots =
    (not (allowed layout), NodeSize)
    ∷ (nat_lt 1048576 (length column), TooManyRows)
    ∷ (not (in_order before column), OutOfOrder)
    ∷ (not (slots == slots_in (shape_under layout (length column))), SlotCount)
    ∷ []

-- what building answers
abbrev pub building : {K : Type 0} → (K → K → Bool) → Layout → List K → ℕ → Result Unit Decline
building before layout column slots = first_fit (reasons before layout column slots)

-- what opening answers: a slot may differ, too
abbrev pub opening : {K : Type 0} → (K → K → Bool) → Layout → List K → List K → Result Unit Decline
opening before layout column slots =
    first_fit (reasons before layout column (length slots) ++ (not (agree before slots (slots_under layout column)), SlotDiffers) ∷ [])

-- what opening a bare column answers: there is no node size and no slot to decline
abbrev pub bare_opening : {K : Type 0} → (K → K → Bool) → List K → Result Unit Decline
bare_opening before column =
    cond (nat_lt 1048576 (length column)) (Err TooManyRows)
    (cond (in_order before column) (Ok tt) (Err OutOfOrder))

-- what was there, where a call was declined, and otherwise what it puts there
abbrev pub kept_or : {X : Type 0} → Result Unit Decline → X → X → X
kept_or (Ok x) had new = new
kept_or (Err e) had new = had
