-- Rows hidden leave a lawful meaning: those in sight are fewer, and in order. Assumes nothing.
use Rattle.std.specs.Prelude.{◌≡◌, ℕ, zero, suc, ◌+◌, ◌<◌, Bool, true, false, cond, List, [], ◌∷◌, length, slice_index_or, refl}
use Rattle.std.proofs.Common.{subst, add-one, arith}
use Rattle.std.proofs.ByRecursion.{All-weaker, All-get_or}
use Rattle.std.specs.List.{AllByRecursion}
use Rattle.keys.specs.Order.{Lawful}
use Rattle.keys.specs.Orders.{laws}
use Rattle.indexes.specs.Meaning.{Ordered, Meaning, Meant}
use Rattle.layers.specs.Sight.{sighted, out_below, hidden}

-- the rows in sight and those out of sight are all rows
pub length_sighted : {K : Type 0} (out : ℕ → Bool) (xs : List K) → length (sighted out xs) + out_below out (length xs) ≡ length xs
length_sighted out [] = refl
length_sighted out (x ∷ xs) =
    let rest = λ (i : ℕ). out (suc i) in
    let ih : length (sighted rest xs) + out_below rest (length xs) ≡ length xs = length_sighted rest xs in
    elim (out 0) as (λ b. length (cond b (sighted rest xs) (x ∷ sighted rest xs)) + (cond b 1 0 + out_below rest (length xs)) ≡ suc (length xs)) [ true ↦ omega arith | false ↦ omega arith ]

-- no row comes before an earlier one
abbrev pub Sorted : {K : Type 0} → (K → K → Bool) → List K → Type 0
Sorted before [] = Unit {0}
Sorted before (x ∷ xs) = AllByRecursion (λ y. before y x ≡ false) xs × Sorted before xs

module _ {K : Type 0} (before : K → K → Bool) (lawful : Lawful before) where
  pub sorted : (xs : List K) → Ordered before xs → Sorted before xs
  sorted [] o = tt
  sorted (x ∷ []) o = (tt, tt)
  sorted (x ∷ (y ∷ ys)) o =
      let rest : Sorted before (y ∷ ys) = sorted (y ∷ ys) (λ i d l. let e : suc i + 1 ≡ suc (i + 1) = omega arith in subst (λ n. before (slice_index_or (x ∷ (y ∷ ys)) n d) (slice_index_or (y ∷ ys) i d) ≡ false) e (o (suc i) d (omega arith))) in
      let first : before y x ≡ false = o 0 x (omega arith) in
      ((first, All-weaker (λ z. before z y ≡ false) (λ z. before z x ≡ false) (λ z h. (laws lawful).chain z y x h first) ys rest.0), rest)

  pub ordered : (xs : List K) → Sorted before xs → Ordered before xs
  ordered xs s i d l = rw add-one (next xs s i d (omega arith))
    where
      next : (xs : List K) → Sorted before xs → (i : ℕ) (d : K) → suc i < length xs → before (slice_index_or xs (suc i) d) (slice_index_or xs i d) ≡ false
      next [] s i d l = absurd (omega arith)
      next (x ∷ xs) s zero d l = All-get_or (λ y. before y x ≡ false) xs 0 d (omega arith) s.0
      next (x ∷ xs) s (suc i) d l = next xs s.1 i d (omega arith)

  all_sighted : (P : K → Type 0) (out : ℕ → Bool) (xs : List K) → AllByRecursion P xs → AllByRecursion P (sighted out xs)
  all_sighted P out [] a = tt
  all_sighted P out (x ∷ xs) a =
      let rest = λ (i : ℕ). out (suc i) in
      let ih = all_sighted P rest xs a.1 in
      elim (out 0) as (λ b. AllByRecursion P (cond b (sighted rest xs) (x ∷ sighted rest xs))) [ true ↦ ih | false ↦ (a.0, ih) ]

  pub sorted_sighted : (out : ℕ → Bool) (xs : List K) → Sorted before xs → Sorted before (sighted out xs)
  sorted_sighted out [] s = tt
  sorted_sighted out (x ∷ xs) s =
      let rest = λ (i : ℕ). out (suc i) in
      let ih = sorted_sighted rest xs s.1 in
      elim (out 0) as (λ b. Sorted before (cond b (sighted rest xs) (x ∷ sighted rest xs))) [ true ↦ ih | false ↦ (all_sighted (λ y. before y x ≡ false) rest xs s.0, ih) ]

module _ {K : Type 0} {before : K → K → Bool} (lawful : Lawful before) {m : Meaning K} (keeps : Meant before m) where
  pub meant_sighted : (out : ℕ → Bool) → Meant before (hidden out m)
  meant_sighted out = record {
    ordered = ordered before lawful (sighted out m.rows) (sorted_sighted before lawful out m.rows (sorted before lawful m.rows keeps.ordered));
    few = (let h = length_sighted out m.rows in let f = keeps.few in omega arith);
    capped = keeps.capped;
    modest = keeps.modest;
  }
