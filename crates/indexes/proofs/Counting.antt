-- Where a search over a column in order ends: at the place that counting over all rows gives.
use Rattle.std.proofs.Common.{◌≡◌, ℕ, zero, suc, ◌+◌, ◌-◌, ◌/◌, ◌<◌, ◌≤◌, Bool, true, false, List, [], ◌∷◌, length, get_or, sym, ap, ◌∙◌, arith}
use Rattle.std.proofs.lemmas.List.Sorted.{sorted_far}
use Rattle.std.proofs.lemmas.List.{get_or_read}
use Rattle.std.proofs.lemmas.Bool.{not-true, not_from_false}
use Rattle.keys.specs.Order.{Lawful}
use Rattle.keys.specs.Orders.{laws}
use Rattle.indexes.specs.declared.index.Side.{Side}
use Rattle.indexes.specs.declared.index.Side.TheVariants.{At, After}
use Rattle.indexes.specs.Meaning.{count, passed, place_of, Ordered}
use Rattle.indexes.specs.Seeking.{Sought, middle, one_more, halving, passed_at, sought, bits, Cut}
use Rattle.indexes.proofs.Halving.{halving_up, halving_down, search_boundary, boundary_cut, rounds_le, under_bits}

-- a list that a test cuts has as many that pass as stand before the cut
pub count_cut : {K : Type 0} (p : K → Bool) (d : K) (xs : List K) (r : ℕ) → Cut (λ i. p (get_or xs i d)) (length xs) r → count p xs ≡ r
count_cut p d [] r cut = omega (arith, cut.within)
count_cut p d (x ∷ xs) zero cut =
    rw (cut.above 0 (omega arith) (omega arith)) (
    let rest = count_cut p d xs 0 (record { within = omega arith; below = λ i h. absurd (omega arith); above = λ i h k. cut.above (suc i) (omega arith) (omega arith) }) in
    omega arith)
count_cut p d (x ∷ xs) (suc r) cut =
    rw (cut.below 0 (omega arith)) (
    let w = cut.within in
    let rest = count_cut p d xs r (record { within = omega arith; below = λ i h. cut.below (suc i) (omega arith); above = λ i h k. cut.above (suc i) (omega arith) (omega arith) }) in
    omega arith)

module _ {K : Type 0} (before : K → K → Bool) (lawful : Lawful before) where
  pub far : (rows : List K) → Ordered before rows → (i j : ℕ) (d : K) → i ≤ j → j < length rows → before (get_or rows j d) (get_or rows i d) ≡ false
  far rows up = sorted_far before (record { one_way = lawful.one_way; chain = (laws lawful).chain }) rows (λ k d l h. up k d h)

  -- a row before one that is passed is passed
  pub passes_first : (rows : List K) → Ordered before rows → (key : K) (side : Side) (i j : ℕ) → i ≤ j → j < length rows → passed_at before rows key side j ≡ true → passed_at before rows key side i ≡ true
  passes_first rows up key At i j le in' e = (laws lawful).earlier_before (get_or rows i key) (get_or rows j key) key (far rows up i j key le in') e
  passes_first rows up key After i j le in' e =
      not_from_false _ ((laws lawful).chain key (get_or rows j key) (get_or rows i key) (not-true _ e) (far rows up i j key le in'))

  -- the node search over rows in order cuts them at the place
  pub sought_cut : (rows : List K) → Ordered before rows → (key : K) (side : Side) → Cut (passed_at before rows key side) (length rows) (sought before rows key side).place
  sought_cut rows up key side =
      boundary_cut (passed_at before rows key side) (length rows) _ (passes_first rows up key side) (search_boundary (passed_at before rows key side) (length rows))

  pub sought_place : (rows : List K) → Ordered before rows → (key : K) (side : Side) → (sought before rows key side).place ≡ place_of before rows key side
  sought_place rows up key side = sym (count_cut (passed before key side) key rows _ (sought_cut rows up key side))

pub sought_rounds : {K : Type 0} (before : K → K → Bool) (rows : List K) (key : K) (side : Side) → (sought before rows key side).rounds ≤ bits (length rows)
sought_rounds before rows key side = rounds_le (passed_at before rows key side) (length rows) (bits (length rows)) 0 (length rows) (omega (arith, under_bits (length rows)))

-- A round over a slice of keys, as the code takes it
module _ {K : Type 0} (before : K → K → Bool) (rows : List K) (key : K) (side : Side) (lo hi : ℕ) (row : K) where
  abbrev pub searched : ℕ → ℕ → Sought
  searched a b = halving (passed_at before rows key side) (length rows) a b

  pub round_up : lo < hi → hi ≤ length rows → row ≡ get_or rows (lo + (hi - lo) / 2) row → true ≡ passed before key side row → searched lo hi ≡ one_more (searched (lo + (hi - lo) / 2 + 1) hi)
  round_up lt le is yes' =
      let m : lo + (hi - lo) / 2 ≡ middle lo hi = omega arith in
      let at_key : row ≡ get_or rows (lo + (hi - lo) / 2) key = get_or_read rows (lo + (hi - lo) / 2) row (omega arith) is key in
      rw m (halving_up (passed_at before rows key side) (length rows) lo hi lt le (sym (yes' ∙ ap (passed before key side) (at_key ∙ ap (λ i. get_or rows i key) m))))

  pub round_down : lo < hi → hi ≤ length rows → row ≡ get_or rows (lo + (hi - lo) / 2) row → false ≡ passed before key side row → searched lo hi ≡ one_more (searched lo (lo + (hi - lo) / 2))
  round_down lt le is no' =
      let m : lo + (hi - lo) / 2 ≡ middle lo hi = omega arith in
      let at_key : row ≡ get_or rows (lo + (hi - lo) / 2) key = get_or_read rows (lo + (hi - lo) / 2) row (omega arith) is key in
      rw m (halving_down (passed_at before rows key side) (length rows) lo hi lt le (sym (no' ∙ ap (passed before key side) (at_key ∙ ap (λ i. get_or rows i key) m))))
