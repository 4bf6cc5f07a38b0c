-- An opening, declined or accepted: what it comes to.
use Rattle.std.proofs.Common.{◌≡◌, ℕ, Bool, true, false, cond, not, List, [], ◌∷◌, map, length, get_or, Ok, Err, Result, ◌==◌, nat_lt, sym, refl, ap, ◌∙◌, subst, zero-mul, arith}
use Rattle.std.specs.List.{range_with_len}
use Rattle.keys.specs.Order.{Lawful}
use Rattle.indexes.specs.declared.decline.Decline.{Decline}
use Rattle.indexes.specs.declared.decline.Decline.TheVariants.{TooManyRows, OutOfOrder, SlotCount, SlotDiffers}
use Rattle.indexes.specs.declared.layout.Layout.{Layout}
use Rattle.indexes.specs.declared.layout.Layout.TheVariants.{Bare}
use Rattle.indexes.specs.Meaning.{Ordered}
use Rattle.shapes.specs.Numbers.{one_chunk}
use Rattle.directories.specs.declared.column.Column.{Column}
use Rattle.directories.specs.declared.frozen.FrozenIndex.{FrozenIndex}
use Rattle.directories.specs.Frozen.{column_of, layout_of, Open, Opens}
use Rattle.directories.specs.Opening.{in_order, reasons, building, opening, bare_opening, kept_or}
use Rattle.directories.specs.Slots.{row_of_slot, slot_keys, slots_under, agree}
use Rattle.directories.proofs.Models.{column_shaped, opened, any_layout}
use Rattle.directories.proofs.Reasons.{fit, one_more, one_more_declined}

-- a bare column with no slots
bare_slots : {K : Type 0} (column : List K) → slots_under Bare column ≡ []
bare_slots [] = refl
bare_slots (x ∷ xs) = ap (λ n. map (λ j. get_or (x ∷ xs) (row_of_slot (one_chunk (length (x ∷ xs))) j) x) (range_with_len 0 n)) (zero-mul (length (x ∷ xs)))

ordered_or : (b : Bool) → ◌≡◌ {A = Result Unit Decline} (cond (not b) (Err OutOfOrder) (Ok tt)) (cond b (Ok tt) (Err OutOfOrder))
ordered_or true = refl
ordered_or false = refl

bare_opens : {K : Type 0} (before : K → K → Bool) (column : List K) → opening before Bare column [] ≡ bare_opening before column
bare_opens before column =
    let n = length column in
    (λ j. cond (nat_lt 1048576 n) (Err TooManyRows)
    (cond (not (in_order before column)) (Err OutOfOrder)
    (cond (not (0 == zero-mul n j)) (Err SlotCount)
    (cond (not (agree before [] (bare_slots column j))) (Err SlotDiffers) (Ok tt)))))
    ∙ ap (cond (nat_lt 1048576 n) (Err TooManyRows)) (ordered_or (in_order before column))

module _ {K : Type 0} (before : K → K → Bool) (layout : Layout) (column slots : List K) where
  pub bare_answers : (r : Result Unit Decline) → r ≡ opening before layout column slots → layout ≡ Bare → slots ≡ [] → r ≡ bare_opening before column
  bare_answers r e bare none = e ∙ (λ j. opening before (bare j) column (none j)) ∙ bare_opens before column

  -- a reason against the column, or against the number of slots
  pub unfit_opening : (why : Decline) → building before layout column (length slots) ≡ Err why → opening before layout column slots ≡ Err why
  unfit_opening why e = one_more_declined (reasons before layout column (length slots)) (not (agree before slots (slots_under layout column))) SlotDiffers why e

  -- declined, and left as it was
  pub declined : (x x' : FrozenIndex K) (r : Result Unit Decline) (why : Decline) → r ≡ Err why → opening before layout column slots ≡ Err why → x' ≡ x
      → Opens before layout column slots x x' r
  declined x x' r why is e same =
      record {
        answers = is ∙ sym e;
        holds = ap column_of same ∙ ap (λ o. kept_or o (column_of x) column) (sym is);
        under = ap layout_of same ∙ ap (λ o. kept_or o (layout_of x) layout) (sym is);
        leaves = λ _ _. same;
        opened = λ ok. (let z : ◌≡◌ {A = ℕ} 0 1 = cc in absurd (omega arith));
        stays = λ o. subst (Open before) (sym same) o;
        bare_answers = bare_answers r (is ∙ sym e);
        any = λ ok. (let z : ◌≡◌ {A = ℕ} 0 1 = cc in absurd (omega arith));
      }

  -- or only against a slot
  pub decided_opening : (c : Column K) → building before layout column (length slots) ≡ Ok tt → c.tree.layout ≡ layout → c.rows.now ≡ column
      → (ok : Bool) → ok ≡ agree before slots (slot_keys c.tree.shape c.rows.now) → opening before layout column slots ≡ cond (not ok) (Err SlotDiffers) (Ok tt)
  decided_opening c e under holds ok agrees =
      one_more (reasons before layout column (length slots)) (not (agree before slots (slots_under layout column))) SlotDiffers e
      ∙ ap (λ y. cond (not y) (Err SlotDiffers) (Ok tt))
      ((λ j. agree before slots (slots_under (sym under j) (sym holds j))) ∙ ap (λ s. agree before slots (slot_keys s c.rows.now)) (sym (column_shaped c)) ∙ sym agrees)

pub accepted : {K : Type 0} (before : K → K → Bool) → Lawful before → (layout : Layout) (column : List K) (x x' : FrozenIndex K)
    → building before layout column (length x'.slots.now) ≡ Ok tt → layout_of x' ≡ layout → column_of x' ≡ column
    → true ≡ agree before x'.slots.now (slot_keys x'.column.tree.shape (column_of x')) → Opens before layout column x'.slots.now x x' (Ok tt)
accepted before lawful layout column x x' e under holds agrees =
    let ordered = (fit before layout column (length x'.slots.now) e).ordered in
    let open' : Open before x' = opened before x' (subst (Ordered before) (sym holds) ordered) (sym agrees) in
    let answers = sym (decided_opening before layout column x'.slots.now x'.column e under holds true agrees) in
    record {
      answers = answers;
      holds = holds;
      under = under;
      leaves = λ why bad. (let z : ◌≡◌ {A = ℕ} 0 1 = cc in absurd (omega arith));
      opened = λ _. open';
      stays = λ _. open';
      bare_answers = bare_answers before layout column x'.slots.now (Ok tt) answers;
      any = λ _. any_layout before lawful column ordered;
    }
