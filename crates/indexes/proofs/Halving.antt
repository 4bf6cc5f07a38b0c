-- The rounds of halving: how they go on, where they end, and how many there can be.
use Rattle.std.proofs.Common.{◌≡◌, ℕ, zero, suc, ◌+◌, ◌-◌, ◌*◌, ◌^◌, ◌<◌, ◌≤◌, Bool, true, false, cond, ltb, sym, refl, ap, ◌∙◌, subst, inl, inr, pow-suc, arith, pow_mono, w64}
use lib.Count.{leading_length}
use Rattle.std.specs.Int.{leading_zeros}
use Rattle.std.specs.Int.Digits.{digits_of}
use Rattle.std.proofs.lemmas.Int.Digits.{number_lt, all_below_base_digits_of, number_digits_of, length-digits_of-le}
use Rattle.std.proofs.lemmas.Bool.{cases_lt, cases_Bool, cond-true, cond-false, lt-ltb, le-ltb, both_ways}
use Rattle.indexes.specs.Seeking.{middle, one_more, halving, bits, Boundary, Cut}

module _ (pass : ℕ → Bool) where
  -- turns to spare change nothing
  pub halving_turns : (f g lo hi : ℕ) → hi ≤ lo + f → hi ≤ lo + g → halving pass f lo hi ≡ halving pass g lo hi
  unfolding halving
  halving_turns zero zero lo hi p q = refl
  halving_turns zero (suc g) lo hi p q = sym (cond-false _ _ _ (le-ltb lo hi (omega arith)))
  halving_turns (suc f) zero lo hi p q = cond-false _ _ _ (le-ltb lo hi (omega arith))
  halving_turns (suc f) (suc g) lo hi p q =
      elim (cases_lt lo hi) [
        | inl lt ↦
            ap (λ x. cond (ltb lo hi) (one_more (cond (pass (middle lo hi)) x (halving pass f lo (middle lo hi)))) (record { place = lo; rounds = 0 }))
            (halving_turns f g (middle lo hi + 1) hi (omega arith) (omega arith))
            ∙ ap (λ x. cond (ltb lo hi) (one_more (cond (pass (middle lo hi)) (halving pass g (middle lo hi + 1) hi) x)) (record { place = lo; rounds = 0 }))
            (halving_turns f g lo (middle lo hi) (omega arith) (omega arith))
        | inr ge ↦ cond-false _ _ _ (le-ltb lo hi ge) ∙ sym (cond-false _ _ _ (le-ltb lo hi ge))
      ]

  pub halving_up : (n lo hi : ℕ) → lo < hi → hi ≤ n → pass (middle lo hi) ≡ true → halving pass n lo hi ≡ one_more (halving pass n (middle lo hi + 1) hi)
  unfolding halving
  halving_up zero lo hi lt le e = absurd (omega arith)
  halving_up (suc n) lo hi lt le e =
      cond-true _ _ _ (lt-ltb lo hi lt) ∙ ap one_more (cond-true _ _ _ e ∙ halving_turns n (suc n) (middle lo hi + 1) hi (omega arith) (omega arith))

  pub halving_down : (n lo hi : ℕ) → lo < hi → hi ≤ n → pass (middle lo hi) ≡ false → halving pass n lo hi ≡ one_more (halving pass n lo (middle lo hi))
  unfolding halving
  halving_down zero lo hi lt le e = absurd (omega arith)
  halving_down (suc n) lo hi lt le e =
      cond-true _ _ _ (lt-ltb lo hi lt) ∙ ap one_more (cond-false _ _ _ e ∙ halving_turns n (suc n) lo (middle lo hi) (omega arith) (omega arith))

  pub halving_end : (n lo hi : ℕ) → hi ≤ lo → halving pass n lo hi ≡ record { place = lo; rounds = 0 }
  unfolding halving
  halving_end zero lo hi le = refl
  halving_end (suc n) lo hi le = cond-false _ _ _ (le-ltb lo hi le)

  -- fewer than 2 ^ k places take at most k rounds
  pub rounds_le : (f k lo hi : ℕ) → hi < lo + 2 ^ k → (halving pass f lo hi).rounds ≤ k
  unfolding halving
  rounds_le zero k lo hi h = omega arith
  rounds_le (suc f) zero lo hi h = rw (cond-false (ltb lo hi) _ _ (le-ltb lo hi (omega arith))) (omega arith)
  rounds_le (suc f) (suc k) lo hi h =
      let d : 2 ^ suc k ≡ 2 ^ k * 2 = pow-suc 2 k in
      elim (cases_lt lo hi) [
        | inr ge ↦ rw (cond-false (ltb lo hi) _ _ (le-ltb lo hi ge)) (omega arith)
        | inl lt ↦ rw (cond-true (ltb lo hi) _ _ (lt-ltb lo hi lt)) (elim (cases_Bool (pass (middle lo hi))) [
          | inl e ↦ rw (cond-true (pass (middle lo hi)) _ _ e) (omega (arith, rounds_le f k (middle lo hi + 1) hi (omega arith)))
          | inr e ↦ rw (cond-false (pass (middle lo hi)) _ _ e) (omega (arith, rounds_le f k lo (middle lo hi) (omega arith)))
        ])
      ]

  -- a search ends at a boundary, whatever the test
  pub halving_boundary : (n f lo hi : ℕ) → hi ≤ lo + f → lo ≤ hi → hi ≤ n → (0 < lo → pass (lo - 1) ≡ true) → (hi < n → pass hi ≡ false) → Boundary pass n (halving pass f lo hi).place
  unfolding halving
  halving_boundary n zero lo hi h le in' low high =
      let e : lo ≡ hi = omega arith in
      record { within = omega arith; passed_below = low; not_at = subst (λ r. r < n → pass r ≡ false) (sym e) high }
  halving_boundary n (suc f) lo hi h le in' low high =
      elim (cases_lt lo hi) [
        | inr ge ↦ rw (cond-false (ltb lo hi) _ _ (le-ltb lo hi ge)) (
            let e : lo ≡ hi = omega arith in
            record { within = omega arith; passed_below = low; not_at = subst (λ r. r < n → pass r ≡ false) (sym e) high })
        | inl lt ↦ rw (cond-true (ltb lo hi) _ _ (lt-ltb lo hi lt)) (elim (cases_Bool (pass (middle lo hi))) [
          | inl e ↦ rw (cond-true (pass (middle lo hi)) _ _ e)
              (halving_boundary n f (middle lo hi + 1) hi (omega arith) (omega arith) in' (λ p. (let m : middle lo hi + 1 - 1 ≡ middle lo hi = omega arith in ap pass m ∙ e)) high)
          | inr e ↦ rw (cond-false (pass (middle lo hi)) _ _ e)
              (halving_boundary n f lo (middle lo hi) (omega arith) (omega arith) (omega arith) low (λ p. e))
        ])
      ]

  pub search_boundary : (n : ℕ) → Boundary pass n (halving pass n 0 n).place
  search_boundary n = halving_boundary n n 0 n (omega arith) (omega arith) (omega arith) (λ p. absurd (omega arith)) (λ p. absurd (omega arith))

  -- where each place before one that is passed is passed too, a boundary cuts the places in two
  pub boundary_cut : (n r : ℕ) → ((i j : ℕ) → i ≤ j → j < n → pass j ≡ true → pass i ≡ true) → Boundary pass n r → Cut pass n r
  boundary_cut n r up b =
      let within = b.within in
      record {
        within = b.within;
        below = λ i h. up i (r - 1) (omega arith) (omega arith) (b.passed_below (omega arith));
        above = λ i h k. elim (cases_Bool (pass i)) [ inr e ↦ e | inl e ↦ absurd (both_ways (pass r) (b.not_at (omega arith)) (up r i h k e)) ];
      }

-- the rounds depend on the places that they may look at, and on nothing else
pub halving_same : (p q : ℕ → Bool) (s f lo hi : ℕ) → hi ≤ s → ((i : ℕ) → i < s → p i ≡ q i) → halving p f lo hi ≡ halving q f lo hi
unfolding halving
halving_same p q s zero lo hi within same = refl
halving_same p q s (suc f) lo hi within same =
    elim (cases_lt lo hi) [
      | inr ge ↦ cond-false _ _ _ (le-ltb lo hi ge) ∙ sym (cond-false _ _ _ (le-ltb lo hi ge))
      | inl lt ↦
          ap (λ b. cond (ltb lo hi) (one_more (cond b (halving p f (middle lo hi + 1) hi) (halving p f lo (middle lo hi)))) (record { place = lo; rounds = 0 })) (same (middle lo hi) (omega arith))
          ∙ ap (λ x. cond (ltb lo hi) (one_more (cond (q (middle lo hi)) x (halving p f lo (middle lo hi)))) (record { place = lo; rounds = 0 })) (halving_same p q s f (middle lo hi + 1) hi within same)
          ∙ ap (λ x. cond (ltb lo hi) (one_more (cond (q (middle lo hi)) (halving q f (middle lo hi + 1) hi) x)) (record { place = lo; rounds = 0 })) (halving_same p q s f lo (middle lo hi) (omega arith) same)
    ]

pub under_bits : (n : ℕ) → n < 2 ^ bits n
unfolding bits
under_bits n = rw (number_digits_of 2 n (omega arith)) at (number_lt 2 (digits_of 2 n) (all_below_base_digits_of 2 n (omega arith)))

pub bits_le : (k n : ℕ) → n < 2 ^ k → bits n ≤ k
unfolding bits
bits_le k n h = length-digits_of-le 2 k n (omega arith) h

-- the number of digits is the one m with 2 ^ m between n and 2 * n + 1
pub bits_is : (n m : ℕ) → n < 2 ^ m → 2 ^ m ≤ 2 * n + 1 → m ≡ bits n
bits_is n m lt le =
    let upper : bits n ≤ m = bits_le m n lt in
    elim (cases_lt (bits n) m) [
      | inr ge ↦ omega arith
      | inl few ↦
          let u = under_bits n in
          let p : 2 ^ suc (bits n) ≤ 2 ^ m = pow_mono few in
          let d : 2 ^ suc (bits n) ≡ 2 ^ bits n * 2 = pow-suc 2 (bits n) in
          absurd (omega arith)
    ]

-- the leading zeros of a word of 64 digits, and the digits of its number, are 64
pub bits_beside_zeros : (n : ℕ) → n < 2 ^ 64 → leading_zeros w64 n + bits n ≡ 64
bits_beside_zeros n h =
    let l = leading_length 64 n h in
    let e = bits_is n l.0 l.2 l.3 in
    omega (arith, l.1)
