-- The geometry as the code computes it.
use Rattle.std.proofs.Common.{◌≡◌, ℕ, zero, suc, ◌+◌, ◌-◌, ◌*◌, ◌/◌, ◌%◌, ◌^◌, ◌<◌, ◌≤◌, min, cond, leb, sym, refl, ap, ◌∙◌, subst, inl, inr, add-one, arith}
use Rattle.std.proofs.lemmas.Bool.{lt-ltb, le-ltb, cases_lt}
use Rattle.std.proofs.lemmas.Grind.{div_ceil_times}
use native.Mathlib.Nat.{div-eq_of_lt-le, suc-mul}
use Rattle.shapes.specs.declared.shape.Shape.{Shape}
use Rattle.shapes.specs.Numbers.{shape, least, levels_of, chunks_of}
use Rattle.shapes.proofs.Lawful.{pow_above, Lawful, lawful}

pub least_stop : (w N f k : ℕ) → N ≤ w ^ k → least w N f k ≡ k
unfolding least
least_stop w N zero k h = refl
least_stop w N (suc f) k h = rw (le-ltb (w ^ k) N h, least)

least_first : (w N f k : ℕ) → w ^ k < N → least w N (suc f) k ≡ least w N f (suc k)
unfolding least
least_first w N f k h = rw (lt-ltb (w ^ k) N h, least)

least_more : (w N f k : ℕ) → 2 ≤ w → N ≤ k + f → least w N (suc f) k ≡ least w N f k
least_more w N zero k two h =
    let e : N ≤ w ^ k = omega (arith, pow_above w k two) in
    least_stop w N 1 k e ∙ sym (least_stop w N 0 k e)
least_more w N (suc f) k two h = elim (cases_lt (w ^ k) N) [
  | inl lt ↦ least_first w N (suc f) k lt ∙ least_more w N f (suc k) two (omega arith) ∙ sym (least_first w N f k lt)
  | inr ge ↦ least_stop w N (suc (suc f)) k ge ∙ sym (least_stop w N (suc f) k ge)
]

pub least_go : (w N k : ℕ) → 2 ≤ w → w ^ k < N → least w N N (k + 1) ≡ least w N N k
least_go w N k two h =
    let e : k + 1 ≡ suc k = omega arith in
    ap (least w N N) e ∙ sym (least_first w N N k h) ∙ least_more w N N k two (omega arith)

-- a quotient rounded up
pub rounded_up : (n m : ℕ) → 1 ≤ m → n / m + min 1 (n % m) ≡ chunks_of n m
rounded_up n m some =
    let q : ℕ = n / m + min 1 (n % m) in
    let bounds = div_ceil_times n m some in
    let next : (q + 1) * m ≡ q * m + m = ap (λ k. k * m) (add-one q) ∙ suc-mul q m in
    sym (div-eq_of_lt-le m (omega (arith, bounds.1)) (omega (arith, bounds.0, next)))

module _ (n m w N k p u l : ℕ) (chunks : N ≡ chunks_of n m) (enough : N ≤ p) (power : p ≡ w ^ k) (rest : least w N N k ≡ levels_of w N)
    (upper : u ≡ cond (leb N 1) 0 ((p - 1) / (w - 1))) (late : l ≡ cond (leb N 1) 0 ((p - N) / (w - 1))) where
  pub measured : ◌≡◌ {A = Shape} (record { rows = n; slots = m; children = w; chunks = N; levels = k; upper = u; late = l; internal = u - l; first = N - l }) (shape n m w)
  unfolding shape
  measured =
      let stop : k ≡ levels_of w N = sym (least_stop w N N k (rw power at enough)) ∙ rest in
      rw (upper, late, power, stop, chunks)

  pub late_fits : 1 ≤ m → 2 ≤ w → (l ≤ u) × (l ≤ N)
  late_fits some two =
      let ok = subst Lawful (sym measured) (lawful n m w some two) in
      (omega (arith, ok.inner), omega (arith, ok.parts))
