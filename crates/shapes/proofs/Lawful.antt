-- What holds of a directory's numbers, from the definitions of N, k, U, L, I and x.
use Rattle.std.proofs.Common.{◌≡◌, ℕ, zero, suc, ◌+◌, ◌-◌, ◌*◌, ◌/◌, ◌%◌, ◌^◌, ◌<◌, ◌≤◌, min, sym, refl, ap, ◌∙◌, inl, inr, mul-le-mul_right, mod-lt, mul-le-mul_left, pow-suc, arith}
use native.Mathlib.Nat.{pow-zero, lt_of_mul-lt-mul_left, mul-div_cancel_left, div-add-mod}
use Rattle.std.proofs.lemmas.Bool.{lt-ltb, le-ltb, le-leb, lt-leb, cases_lt}
use Rattle.shapes.specs.declared.shape.Shape.{Shape}
use Rattle.shapes.specs.Numbers.{shape, one_chunk, least, levels_of, chunks_of}

-- the number of the first node at depth d
unfoldable pub starts : (w d : ℕ) → ℕ
starts w zero = 0
starts w (suc d) = w * starts w d + 1

pub starts_pow : (v d : ℕ) → suc v ^ d ≡ v * starts (suc v) d + 1
unfolding starts
starts_pow v zero = rw pow-zero (omega arith)
starts_pow v (suc d) = rw (pow-suc, starts_pow v d) (omega arith)

pub starts_mono : (w d e : ℕ) → 1 ≤ w → d ≤ e → starts w d ≤ starts w e
unfolding starts
starts_mono w zero e h le = omega arith
starts_mono w (suc d) zero h le = omega arith
starts_mono w (suc d) (suc e) h le =
    let below : starts w d ≤ starts w e = starts_mono w d e h (omega arith) in omega (arith, mul-le-mul_left w below)

-- w ^ k passes k
pub pow_above : (w k : ℕ) → 2 ≤ w → k < w ^ k
pow_above w zero h = rw pow-zero (omega arith)
pow_above w (suc k) h =
    let ih : suc k ≤ w ^ k = pow_above w k h in
    rw pow-suc (omega (arith, mul-le-mul_left (w ^ k) h))

pub least_enough : (w N f k : ℕ) → 2 ≤ w → N ≤ k + f → N ≤ w ^ least w N f k
unfolding least
least_enough w N zero k h le = omega (arith, pow_above w k h)
least_enough w N (suc f) k h le = elim (cases_lt (w ^ k) N) [
  | inl lt ↦ rw (lt-ltb (w ^ k) N lt, least) (least_enough w N f (suc k) h (omega arith))
  | inr ge ↦ rw (le-ltb (w ^ k) N ge, least) ge
]

pub least_least : (w N f k : ℕ) → ((j : ℕ) → j < k → w ^ j < N) → (j : ℕ) → j < least w N f k → w ^ j < N
unfolding least
least_least w N zero k below j = below j
least_least w N (suc f) k below j = elim (cases_lt (w ^ k) N) [
  | inl here ↦ rw (lt-ltb (w ^ k) N here, least) (least_least w N f (suc k) (more here) j)
  | inr ge ↦ rw (le-ltb (w ^ k) N ge, least) (below j)
]
  where
    more : w ^ k < N → (i : ℕ) → i < suc k → w ^ i < N
    more here i lt = elim (cases_lt i k) [
      | inl less ↦ below i less
      | inr ge ↦ let e : i ≡ k = omega arith in rw e here
    ]

pub pow_starts : (w d : ℕ) → 1 ≤ w → w ^ d ≡ (w - 1) * starts w d + 1
pow_starts w d h = let e : suc (w - 1) ≡ w = omega arith in rw e at (starts_pow (w - 1) d)

-- The facts that all the rest follows from. They are linear, but for products with w - 1, w or m
pub record Lawful (g : Shape) : Type 0 where
  pub two : 2 ≤ g.children
  pub some : 1 ≤ g.chunks → 1 ≤ g.slots
  pub rows_in : g.rows ≤ g.chunks * g.slots
  -- less than a chunk is left over
  pub rows_over : g.chunks * g.slots ≤ g.rows + (g.slots - 1)
  pub upper : g.upper ≡ starts g.children g.levels
  pub inner : g.internal + g.late ≡ g.upper
  pub parts : g.first + g.late ≡ g.chunks
  -- the places under I internal nodes: enough, and one internal node less would not do
  pub room : 1 ≤ g.internal → g.chunks ≤ (g.children - 1) * g.internal + 1
  pub tight : 1 ≤ g.internal → (g.children - 1) * g.internal + 1 < g.chunks + (g.children - 1)
  pub many : 1 ≤ g.internal → 2 ≤ g.chunks
  pub first : 1 ≤ g.chunks → 1 ≤ g.first
  pub none : g.internal ≡ 0 → (g.chunks ≤ 1) × (g.upper ≡ 0)
  pub deep : (d : ℕ) → d < g.levels → starts g.children d < g.internal

module _ (w N k U L : ℕ) (two : 2 ≤ w) (many : 2 ≤ N) (enough : N ≤ w ^ k) (least : (j : ℕ) → j < k → w ^ j < N)
    (U-is : U ≡ (w ^ k - 1) / (w - 1)) (L-is : L ≡ (w ^ k - N) / (w - 1)) where
  upper_is : U ≡ starts w k
  upper_is =
      let e : w ^ k - 1 ≡ (w - 1) * starts w k = omega (arith, pow_starts w k (omega arith)) in
      let p : 0 < w - 1 = omega arith in
      U-is ∙ rw (e, mul-div_cancel_left (starts w k) p)

  late_is : (w - 1) * L + (w ^ k - N) % (w - 1) ≡ w ^ k - N
  late_is = rw L-is (div-add-mod (w ^ k - N) (w - 1))

  left_over : (w ^ k - N) % (w - 1) < w - 1
  left_over = mod-lt (w ^ k - N) (omega arith)

  power_is : w ^ k ≡ (w - 1) * U + 1
  power_is = rw upper_is (pow_starts w k (omega arith))

  late_below_upper : L < U
  late_below_upper = lt_of_mul-lt-mul_left (w - 1) (omega (arith, late_is, power_is))

  levels_some : 1 ≤ k
  levels_some = elim (cases_lt 0 k) [
    | inl h ↦ h
    | inr h ↦ let e : k ≡ 0 = omega arith in let f : w ^ k ≡ 1 = rw e (pow-zero w) in omega arith
  ]

  power_before : w ^ k ≡ w ^ (k - 1) * w
  power_before = let h = levels_some in let e : suc (k - 1) ≡ k = omega arith in rw e at (pow-suc w (k - 1))

  before_below : w ^ (k - 1) < N
  before_below = let h = levels_some in least (k - 1) (omega arith)

  late_below_chunks : L < N
  late_below_chunks =
      let v : ℕ = w - 1 in
      let e : w ≡ suc v = omega arith in
      let p : w ^ k ≡ w ^ (k - 1) * suc v = power_before ∙ ap (λ y. w ^ (k - 1) * y) e in
      let q : v * L + N ≤ w ^ k = omega (arith, late_is) in
      let b : suc (w ^ (k - 1)) * v ≤ N * v = mul-le-mul_right v before_below in
      lt_of_mul-lt-mul_left v (omega (arith, before_below))

  places : (w - 1) * (U - L) + (w - 1) * L ≡ (w - 1) * U
  places =
      let lt : L < U = late_below_upper in
      let e : U - L + L ≡ U = omega arith in
      sym (native.Mathlib.Nat.mul-add (w - 1) (U - L) L) ∙ ap (λ y. (w - 1) * y) e

  room_is : N ≤ (w - 1) * (U - L) + 1
  room_is = omega (arith, places, late_is, power_is)

  tight_is : (w - 1) * (U - L) + 1 < N + (w - 1)
  tight_is = omega (arith, places, late_is, power_is, left_over)

  deepest : starts w (k - 1) < U - L
  unfolding starts
  deepest =
      let h = levels_some in
      let e : suc (k - 1) ≡ k = omega arith in
      let u : U ≡ w * starts w (k - 1) + 1 = upper_is ∙ sym (ap (λ y. starts w y) e) in
      let i : ℕ = U - L in
      let l : L < U = late_below_upper in
      let c : L < N = late_below_chunks in
      let r : N ≤ (w - 1) * i + 1 = room_is in
      let p : suc (w - 1) * i ≡ w * i = let s : suc (w - 1) ≡ w = omega arith in ap (λ y. y * i) s in
      lt_of_mul-lt-mul_left w (omega arith)

pub lawful : (n m w : ℕ) → 1 ≤ m → 2 ≤ w → Lawful (shape n m w)
unfolding shape starts
lawful n m w some two = elim (cases_lt 1 N) [ inl many ↦ when_many many | inr few ↦ when_few few ]
  where
    N : ℕ
    N = chunks_of n m

    k : ℕ
    k = levels_of w N

    U : ℕ
    U = (w ^ k - 1) / (w - 1)

    L : ℕ
    L = (w ^ k - N) / (w - 1)

    enough : N ≤ w ^ k
    enough = least_enough w N N 0 two (omega arith)

    tightest : (j : ℕ) → j < k → w ^ j < N
    tightest = least_least w N N 0 (λ j lt. absurd (omega arith))

    in_is : n ≤ N * m
    in_is = omega (arith, div-add-mod (n + (m - 1)) m, mod-lt (n + (m - 1)) some)

    over_is : N * m ≤ n + (m - 1)
    over_is = omega (arith, div-add-mod (n + (m - 1)) m)

    flat : N ≤ 1 → k ≡ 0
    flat few = elim (cases_lt 0 k) [
      | inl h ↦ absurd (let lt : 1 < N = rw pow-zero at (tightest 0 h) in omega arith)
      | inr h ↦ omega arith
    ]

    when_many : 2 ≤ N → Lawful (shape n m w)
    when_many many =
        let l : L < U = late_below_upper w N k U L two many enough tightest refl refl in
        let c : L < N = late_below_chunks w N k U L two many enough tightest refl refl in
        let d : starts w (k - 1) < U - L = deepest w N k U L two many enough tightest refl refl in
        rw (lt-leb N 1 many)
        record {
          two = two;
          some = λ _. some;
          rows_in = in_is;
          rows_over = over_is;
          upper = upper_is w N k U L two many enough tightest refl refl;
          inner = omega arith;
          parts = omega arith;
          room = λ _. room_is w N k U L two many enough tightest refl refl;
          tight = λ _. tight_is w N k U L two many enough tightest refl refl;
          many = λ _. many;
          first = λ _. omega arith;
          none = λ e. absurd (omega arith);
          deep = λ j lt. omega (arith, starts_mono w j (k - 1) (omega arith) (omega arith));
        }

    when_few : N ≤ 1 → Lawful (shape n m w)
    when_few few =
        let z : k ≡ 0 = flat few in
        rw (le-leb N 1 few)
        record {
          two = two;
          some = λ _. some;
          rows_in = in_is;
          rows_over = over_is;
          upper = sym (ap (λ y. starts w y) z);
          inner = refl;
          parts = omega arith;
          room = λ i. absurd (omega arith);
          tight = λ i. absurd (omega arith);
          many = λ i. absurd (omega arith);
          first = λ h. omega arith;
          none = λ e. (few, refl);
          deep = λ j lt. absurd (omega arith);
        }

pub bare_lawful : (n : ℕ) → Lawful (one_chunk n)
unfolding starts
bare_lawful n =
    record {
      two = omega arith;
      some = λ h. omega arith;
      rows_in = omega (arith, filled n);
      rows_over = omega (arith, filled n);
      upper = refl;
      inner = refl;
      parts = omega arith;
      room = λ i. absurd (omega arith);
      tight = λ i. absurd (omega arith);
      many = λ i. absurd (omega arith);
      first = λ h. h;
      none = λ e. (omega arith, refl);
      deep = λ j lt. absurd (omega arith);
    }
  where
    filled : (n : ℕ) → min n 1 * n ≡ n
    filled zero = refl
    filled (suc n) = let e : min (suc n) 1 ≡ 1 = omega arith in ap (λ y. y * suc n) e ∙ omega arith
