-- The first difference decides the order of labels, and that order is lawful: shown of any two rows of numbers v and w.
use Rattle.std.specs.Prelude.{◌≡◌, ℕ, zero, suc, ◌<◌, ◌≤◌, Bool, true, false, ◌&&◌, ◌≢◌, ◌⊎◌, Decides, nat_eq, nat_lt}
use Rattle.std.proofs.Math.Path.{refl}
use Rattle.std.proofs.Common.{sym, ◌∙◌, inl, inr, ⊎_elim, arith}
use Rattle.std.proofs.lemmas.Bool.Decides.{Decides-and, Decides-eqb, Decides-ltb, Decides-below_and, Decides-below_or}
use Rattle.std.proofs.lemmas.Bool.{cases_Bool, cases_eq, cases_lt, cases_order, lt-ltb, le-ltb}
use Rattle.keys.specs.Order.{Lawful}
use Rattle.keys.specs.Weights.{some_below, each_below, less_first, lighter, weight_at_lem}

-- v and w have the same below n
abbrev Same : ℕ → (ℕ → ℕ) → (ℕ → ℕ) → Type 0
Same n v w = (j : ℕ) → j < n → v j ≡ w j

-- v has less at i, and the same before it
abbrev Less : (ℕ → ℕ) → (ℕ → ℕ) → ℕ → Type 0
Less v w i = (v i < w i) × Same i v w

module _ (n : ℕ) (v w : ℕ → ℕ) where
  abbrev same : ℕ → Bool
  same i = each_below i (λ j. nat_eq (v j) (w j))

  abbrev less : ℕ → Bool
  less i = nat_lt (v i) (w i) && same i

  decides_same : (i : ℕ) → Decides (same i) (Same i v w)
  decides_same =
      Decides-below_and (λ j. nat_eq (v j) (w j)) (λ j. v j ≡ w j) same (λ j. Decides-eqb (v j) (w j)) refl (λ _. refl)

  -- the test says what its words say
  decides_less : Decides (less_first n v w) ((i : ℕ) × (i < n) × Less v w i)
  unfolding less_first
  decides_less =
      Decides-below_or less (Less v w) (λ m. some_below m less)
      (λ i. Decides-and (nat_lt (v i) (w i)) (same i) (Decides-ltb (v i) (w i)) (decides_same i)) refl (λ _. refl) n

  never_less : ((i : ℕ) → i < n → Less v w i → ⊥) → less_first n v w ≡ false
  never_less none =
      ⊎_elim (λ t. let at : (i : ℕ) × (i < n) × Less v w i = decides_less.0 t in absurd (none at.0 at.1 at.2))
      (λ f. f) (cases_Bool (less_first n v w))

  pub no_difference : Same n v w → less_first n v w ≡ false
  no_difference like = never_less (λ i h at. omega (arith, like i h, at.0))

  module _ (i : ℕ) (h : i < n) (differs : v i ≢ w i) (like : Same i v w) where
    -- where v has more at the first difference, it has less at no place whose predecessors are the same
    not_elsewhere : w i ≤ v i → (k : ℕ) → k < n → Less v w k → ⊥
    not_elsewhere le k _ at =
        ⊎_elim (λ e. omega (arith, rw (← e) at at.0))
        (⊎_elim (λ lt. differs (at.1 i lt)) (λ gt. omega (arith, like k gt, at.0))) (cases_order i k)

    pub at_difference : less_first n v w ≡ nat_lt (v i) (w i)
    at_difference =
        ⊎_elim (λ lt. decides_less.1 (i, h, (lt, like)) ∙ sym (lt-ltb (v i) (w i) lt))
        (λ le. never_less (not_elsewhere le) ∙ sym (le-ltb (v i) (w i) le)) (cases_lt (v i) (w i))

-- two rows are the same below n, or have a first difference there
first_or_same : (n : ℕ) (v w : ℕ → ℕ) → Same n v w ⊎ ((i : ℕ) × (i < n) × (v i ≢ w i) × Same i v w)
first_or_same zero v w = inl (λ j h. absurd (omega arith))
first_or_same (suc n) v w =
    elim (first_or_same n v w) [
      | inr at ↦ inr (at.0, omega (arith, at.1), at.2, at.3)
      | inl same ↦
          ⊎_elim
          (λ e. inl (λ j h. ⊎_elim (same j) (λ le. let m : n ≡ j = omega arith in rw (← m) e) (cases_lt j n)))
          (λ ne. inr (n, omega arith, ne, same)) (cases_eq (v n) (w n))
    ]

-- v comes before w by the place i, so every u comes after v or before w
module _ (n : ℕ) (v w u : ℕ → ℕ) (i : ℕ) (h : i < n) (less-there : v i < w i) (like : Same i v w) where
  -- u comes before w where it has no more than v at k, and less before i
  below : (k : ℕ) → k < suc i → u k ≤ v k → (k < i → u k < v k) → Same k v u → less_first n u w ≡ true
  below k lt le early alike =
      let under : u k < w k =
      ⊎_elim (λ (m : k < i). omega (arith, like k m, early m))
      (λ (m : i ≤ k). let e : i ≡ k = omega arith in omega (arith, rw e at less-there)) (cases_lt k i) in
      (decides_less n u w).1 (k, omega arith, (under, λ j m. sym (alike j m) ∙ like j (omega arith)))

  splits : (less_first n v u ≡ true) ⊎ (less_first n u w ≡ true)
  splits =
      elim (first_or_same (suc i) v u) [
        | inl alike ↦
            inr (below i (omega arith) (omega (arith, alike i (omega arith))) (λ m. absurd (omega arith)) (λ j m. alike j (omega arith)))
        | inr at ↦
            ⊎_elim (λ lt. inl ((decides_less n v u).1 (at.0, omega (arith, at.1), (lt, at.3))))
            (λ le. inr (below at.0 at.1 le (λ m. omega (arith, at.2)) at.3)) (cases_lt (v at.0) (u at.0))
      ]

pub lawful_lighter : Lawful lighter
lawful_lighter =
    record {
      one_way = λ a b t.
          let v = weight_at_lem a in
          let w = weight_at_lem b in
          let at : (i : ℕ) × (i < 16) × Less v w i = (decides_less 16 v w).0 t in
          at_difference 16 w v at.0 at.1 (λ e. omega (arith, e, at.2.0)) (λ j h. sym (at.2.1 j h))
          ∙ le-ltb (w at.0) (v at.0) (omega (arith, at.2.0));
      splits = λ a b c t.
          let v = weight_at_lem a in
          let w = weight_at_lem b in
          let at : (i : ℕ) × (i < 16) × Less v w i = (decides_less 16 v w).0 t in
          splits 16 v w (weight_at_lem c) at.0 at.1 at.2.0 at.2.1;
    }
