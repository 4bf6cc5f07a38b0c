use Rattle.std.proofs.Common.{rules, ◌≡◌, ◌+◌, ◌^◌, ◌<◌, ◌-◌, ◌/◌, ◌∙◌, length, subst, arith, true, false, slice_get, Some, refl}
use Rattle.std.specs.Fn.{FnReturnsAt}
use Rattle.std.proofs.lemmas.Option.{get_or_from_slice_get}
use Rattle.trials.proofs.Rounds.{one_more, no_fewer, under, doubled, few}
use Rattle.trials.proofs.halving.halved.Goals as goal

pub overflow_add-comparisons : goal.overflow_add-comparisons
overflow_add-comparisons g c =
    let n = length c.args.rows.now in
    let small : n < 2 ^ 64 = search rules in
    let k = few c.loop-lo.comparisons n small (under c.loop-lo.comparisons (c.loop-lo.hi - c.loop-lo.lo) n (omega arith) c.loop-lo.invariant.2) in
    omega (arith, k)

pub loop-lo-preserved-then-passes : goal.loop-lo-preserved-then-passes
loop-lo-preserved-then-passes g c =
    let n = length c.args.rows.now in
    let left = c.loop-lo.hi - c.loop-lo.lo in
    let middle = c.loop-lo.lo + left / 2 in
    let at : FnReturnsAt g.F.Fn c.args.passes c.index-rows-middle.result true = record { shown = _; shows = refl; says = record { met = c.if-passes.ensures } } in (
      omega arith,
      search rules,
      one_more c.loop-lo.comparisons left (c.loop-lo.hi - (middle + 1)) n (omega arith) c.loop-lo.invariant.2,
      doubled c.loop-lo.comparisons n (under c.loop-lo.comparisons left n (omega arith) c.loop-lo.invariant.2),
      no_fewer c.loop-lo.comparisons left (c.loop-lo.hi - (middle + 1)) n (omega arith) c.loop-lo.invariant.4,
      λ k x e h. let same : k ≡ middle = omega arith in
          subst (λ y. FnReturnsAt g.F.Fn c.args.passes y true) (c.index-rows-middle.is ∙ get_or_from_slice_get c.args.rows.now middle x _ (subst (λ i. slice_get c.args.rows.now i ≡ Some x) same h)) at,
      c.loop-lo.invariant.6,
    )

pub loop-lo-preserved : goal.loop-lo-preserved
loop-lo-preserved g c =
    let n = length c.args.rows.now in
    let left = c.loop-lo.hi - c.loop-lo.lo in
    let middle = c.loop-lo.lo + left / 2 in
    let at : FnReturnsAt g.F.Fn c.args.passes c.index-rows-middle.result false = record { shown = _; shows = refl; says = record { met = c.if-passes.ensures } } in (
      omega arith,
      omega (arith, c.loop-lo.invariant.1),
      one_more c.loop-lo.comparisons left (middle - c.loop-lo.lo) n (omega arith) c.loop-lo.invariant.2,
      doubled c.loop-lo.comparisons n (under c.loop-lo.comparisons left n (omega arith) c.loop-lo.invariant.2),
      no_fewer c.loop-lo.comparisons left (middle - c.loop-lo.lo) n (omega arith) c.loop-lo.invariant.4,
      c.loop-lo.invariant.5,
      λ x h. subst (λ y. FnReturnsAt g.F.Fn c.args.passes y false) (c.index-rows-middle.is ∙ get_or_from_slice_get c.args.rows.now middle x _ h) at,
    )

pub returns-clause-behind : goal.returns-clause-behind
returns-clause-behind g c =
    let e : c.loop-lo.lo ≡ c.loop-lo.hi = omega (arith, c.loop-lo.invariant.0) in
    λ row h. c.loop-lo.invariant.6 row (subst (λ i. slice_get c.args.rows.now i ≡ Some row) e h)
