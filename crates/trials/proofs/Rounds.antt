-- A round of halving leaves at most half of what there was, and not much less; so powers of two bound how many there are.
use Rattle.std.proofs.Common.{ℕ, ◌+◌, ◌*◌, ◌^◌, ◌<◌, ◌≤◌, pow-suc, arith, pow_mono, add-one, inl, inr}
use Rattle.std.proofs.Math.Nat.{mul-le-mul_left, mul_assoc, mul_comm}
use Rattle.std.proofs.lemmas.Bool.{cases_lt}

-- so many rows may be left after one more round
pub one_more : (rounds left next rows : ℕ) → next * 2 ≤ left → 2 ^ rounds * left ≤ rows → 2 ^ (rounds + 1) * next ≤ rows
one_more rounds left next rows half h =
    let m = mul-le-mul_left (2 ^ rounds) half in
    rw (add-one rounds, pow-suc 2 rounds, mul_assoc (2 ^ rounds) 2 next, mul_comm 2 next) (omega (arith, m, h))

-- and so many were there, before one more round
pub no_fewer : (rounds left next rows : ℕ) → left + 2 ≤ (next + 2) * 2 → rows + 2 ≤ 2 ^ rounds * (left + 2) → rows + 2 ≤ 2 ^ (rounds + 1) * (next + 2)
no_fewer rounds left next rows half h =
    let m = mul-le-mul_left (2 ^ rounds) half in
    rw (add-one rounds, pow-suc 2 rounds, mul_assoc (2 ^ rounds) 2 (next + 2), mul_comm 2 (next + 2)) (omega (arith, m, h))

-- a row is left: there are as many rows as that power
pub under : (rounds left rows : ℕ) → 0 < left → 2 ^ rounds * left ≤ rows → 2 ^ rounds ≤ rows
under rounds left rows some h =
    let one : 1 ≤ left = omega arith in
    omega (arith, mul-le-mul_left (2 ^ rounds) one, h)

pub doubled : (rounds rows : ℕ) → 2 ^ rounds ≤ rows → 2 ^ (rounds + 1) ≤ 2 * rows + 1
doubled rounds rows h = rw (add-one rounds, pow-suc 2 rounds) (omega (arith, h))

pub few : (rounds rows : ℕ) → rows < 2 ^ 64 → 2 ^ rounds ≤ rows → rounds < 64
few rounds rows small h =
    elim (cases_lt rounds 64) [
      | inl lt ↦ lt
      | inr ge ↦ let p : 2 ^ 64 ≤ 2 ^ rounds = pow_mono ge in absurd (omega arith)
    ]
