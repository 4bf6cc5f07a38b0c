use Rattle.std.proofs.Common.{◌≡◌, ◌+◌, ◌-◌, ◌*◌, ◌/◌, ◌^◌, ◌<◌, ◌≤◌, ℕ, cond, leb, sym, ap, ◌∙◌, mul-le-mul, mul-le-mul_left, pow-suc, div-le_self, add-one, arith}
use Rattle.shapes.specs.Numbers.{chunks_of}
use Rattle.shapes.proofs.Measured.{least_go, rounded_up, measured, late_fits}
use Rattle.std.proofs.lemmas.Bool.{le-leb, lt-leb, cond-true, cond-false}
use Rattle.shapes.proofs.shape.measured.Goals as goal
use Rattle.shapes.proofs.shape.measured.Goals.{then-chunks-le1, else-chunks-le1, Joined-chunks-le1}

pub loop-power-preserved : goal.loop-power-preserved
loop-power-preserved c =
    let w = c.args.children in
    let p = c.loop-power.power in
    let N = c.div_ceil-chunks.result in
    let is : N ≡ chunks_of c.args.rows c.args.slots = c.div_ceil-chunks.ensures ∙ rounded_up c.args.rows c.args.slots c.requires.some in
    let more : p * 2 ≤ p * w = mul-le-mul_left p c.requires.two in
    let few : chunks_of c.args.rows c.args.slots ≤ c.args.rows + (c.args.slots - 1) = div-le_self (c.args.rows + (c.args.slots - 1)) c.args.slots in
    let low : p ≤ 2 ^ 21 = omega (arith, is, c.loop-power-test.true, c.requires.small, c.requires.few) in
    let wide : w ≤ 65 = omega (arith, c.requires.fits, c.requires.few) in
    let most : p * w ≤ 2 ^ 21 * 65 = mul-le-mul low wide in
    let below : w ^ c.loop-power.levels < N = rw c.loop-power.invariant.0 at c.loop-power-test.true in (
      ap (λ y. y * w) c.loop-power.invariant.0 ∙ sym (pow-suc w c.loop-power.levels) ∙ ap (λ y. w ^ y) (sym (add-one c.loop-power.levels)),
      omega (arith, c.loop-power.invariant.1, c.loop-power.invariant.2),
      omega (arith, c.loop-power.invariant.2),
      omega arith,
      least_go w N c.loop-power.levels c.requires.two below ∙ c.loop-power.invariant.4,
    )

-- both numbers, in either case
both : (c : Joined-chunks-le1) → (c.if-chunks-le1.upper.0 ≡ cond (leb c.div_ceil-chunks.result 1) 0 ((c.loop-power.power - 1) / (c.args.children - 1)))
    × (c.if-chunks-le1.upper.1 ≡ cond (leb c.div_ceil-chunks.result 1) 0 ((c.loop-power.power - c.div_ceil-chunks.result) / (c.args.children - 1)))
both c = elim c.if-chunks-le1.branch [
  | then-chunks-le1 w ↦
      let one = le-leb _ 1 w.if-chunks-le1.true in
      (ap (λ (x : ℕ × ℕ). x.0) w.upper-is ∙ sym (cond-true _ _ _ one), ap (λ (x : ℕ × ℕ). x.1) w.upper-is ∙ sym (cond-true _ _ _ one))
  | else-chunks-le1 w ↦
      let more = lt-leb _ 1 w.if-chunks-le1.false in
      (ap (λ (x : ℕ × ℕ). x.0) w.upper-is ∙ sym (cond-false _ _ _ more), ap (λ (x : ℕ × ℕ). x.1) w.upper-is ∙ sym (cond-false _ _ _ more))
]

fits : (c : Joined-chunks-le1) → (c.if-chunks-le1.upper.1 ≤ c.if-chunks-le1.upper.0) × (c.if-chunks-le1.upper.1 ≤ c.div_ceil-chunks.result)
fits c =
    late_fits c.args.rows c.args.slots c.args.children c.div_ceil-chunks.result c.loop-power.levels c.loop-power.power c.if-chunks-le1.upper.0 c.if-chunks-le1.upper.1
    (c.div_ceil-chunks.ensures ∙ rounded_up c.args.rows c.args.slots c.requires.some)
    c.loop-power-test.false c.loop-power.invariant.0 c.loop-power.invariant.4 (both c).0 (both c).1 c.requires.some c.requires.two

pub overflow_sub-result : goal.overflow_sub-result
overflow_sub-result c = (fits (goal.at.overflow_sub-result c).Joined-chunks-le1).0

pub overflow_sub-result-2 : goal.overflow_sub-result-2
overflow_sub-result-2 c = (fits (goal.at.overflow_sub-result-2 c).Joined-chunks-le1).1

pub returns : goal.returns
returns c =
    let d = both (goal.at.returns c).Joined-chunks-le1 in
    measured c.args.rows c.args.slots c.args.children c.div_ceil-chunks.result c.loop-power.levels c.loop-power.power c.if-chunks-le1.upper.0 c.if-chunks-le1.upper.1
    (c.div_ceil-chunks.ensures ∙ rounded_up c.args.rows c.args.slots c.requires.some)
    c.loop-power-test.false c.loop-power.invariant.0 c.loop-power.invariant.4 d.0 d.1
