-- What is built over a column opens: slots agree with themselves, and there are as many as are wanted.
use Rattle.std.proofs.Common.{◌≡◌, ℕ, zero, suc, ◌+◌, Bool, true, cond, not, ◌&&◌, List, [], ◌∷◌, length, get_or, Ok, Err, sym, refl, ap, ◌∙◌, zero-mul, arith}
use native.Mathlib.Nat.{div-eq_of_lt}
use Rattle.std.proofs.lemmas.List.FromFn.{length-map-range_with_len}
use Rattle.keys.specs.Order.{Lawful}
use Rattle.keys.specs.Orders.{laws}
use Rattle.indexes.specs.declared.decline.Decline.TheVariants.{SlotDiffers}
use Rattle.indexes.specs.declared.layout.Layout.{Layout}
use Rattle.indexes.specs.declared.layout.Layout.TheVariants.{Bare, Full, Level}
use Rattle.shapes.specs.Numbers.{chunks_of, shape}
use Rattle.shapes.specs.Layouts.{shape_under, slots_in}
use Rattle.directories.specs.Opening.{reasons, building, opening}
use Rattle.directories.specs.Slots.{row_of_slot, slots_under, agree}
use Rattle.directories.proofs.Reasons.{fit, one_more}

pub agree_self : {K : Type 0} {before : K → K → Bool} → Lawful before → (xs : List K) → agree before xs xs ≡ true
agree_self lawful [] = refl
agree_self lawful (x ∷ xs) = λ j. (laws lawful).equivalent_reflexive x j && agree_self lawful xs j

pub no_chunks : (m : ℕ) → chunks_of 0 m ≡ 0
no_chunks zero = refl
no_chunks (suc m) = div-eq_of_lt (omega arith)

empty_shape : (m w : ℕ) → slots_in (shape 0 m w) ≡ 0
unfolding shape
empty_shape m w = rw no_chunks (zero-mul m)

-- a directory over no rows has no slots
pub no_slots : (layout : Layout) → slots_in (shape_under layout 0) ≡ 0
no_slots Bare = refl
no_slots (Full m) = empty_shape m (m + 1)
no_slots (Level m) = empty_shape m m

-- there are as many slots as are counted
pub slots_counted : {K : Type 0} (layout : Layout) (rows : List K) → length (slots_under layout rows) ≡ slots_in (shape_under layout (length rows))
slots_counted layout [] = sym (no_slots layout)
slots_counted layout (x ∷ xs) = length-map-range_with_len (λ j. get_or (x ∷ xs) (row_of_slot (shape_under layout (length (x ∷ xs))) j) x) 0 (slots_in (shape_under layout (length (x ∷ xs))))

-- what is built opens, with the slots that building writes
pub built_opens : {K : Type 0} {before : K → K → Bool} → Lawful before → (layout : Layout) (rows : List K) (n : ℕ)
    → building before layout rows n ≡ Ok tt → opening before layout rows (slots_under layout rows) ≡ Ok tt
built_opens {before = before} lawful layout rows n e =
    let slots = slots_under layout rows in
    one_more (reasons before layout rows (length slots)) (not (agree before slots slots)) SlotDiffers
    (ap (building before layout rows) (slots_counted layout rows ∙ sym (fit before layout rows n e).counted) ∙ e)
    ∙ ap (λ b. cond (not b) (Err SlotDiffers) (Ok tt)) (agree_self lawful slots)
