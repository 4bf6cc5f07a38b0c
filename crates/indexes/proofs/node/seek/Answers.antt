use Rattle.std.proofs.Common.{◌≤◌, length, sym, ap, ◌∙◌, subst, arith, rules}
use Rattle.indexes.specs.Seeking.{Sought, bits, Boundary, passed_at}
use Rattle.indexes.proofs.Halving.{bits_le, halving_end, search_boundary}
use Rattle.indexes.proofs.Counting.{sought_rounds, sought_place, round_up, round_down}
use Rattle.indexes.proofs.node.seek.Goals as goal

pub overflow_add-comparisons : goal.overflow_add-comparisons
overflow_add-comparisons g c =
    let keys = c.args.keys.now in
    let most = sought_rounds g.K.Key.before keys c.args.key.now c.args.side in
    let few : bits (length keys) ≤ 64 = bits_le 64 (length keys) (search rules) in
    omega (arith, c.loop-lo.invariant.3)

pub loop-lo-preserved-then-passes : goal.loop-lo-preserved-then-passes
loop-lo-preserved-then-passes g c =
    let e = round_up g.K.Key.before c.args.keys.now c.args.key.now c.args.side c.loop-lo.lo c.loop-lo.hi c.index-keys-mid.result c.loop-lo-test.true c.loop-lo.invariant.1 c.index-keys-mid.is c.if-passes.ensures in
    (omega arith, omega arith, sym (ap (λ (s : Sought). s.place) e) ∙ c.loop-lo.invariant.2, omega (arith, ap (λ (s : Sought). s.rounds) e, c.loop-lo.invariant.3))

pub loop-lo-preserved : goal.loop-lo-preserved
loop-lo-preserved g c =
    let e = round_down g.K.Key.before c.args.keys.now c.args.key.now c.args.side c.loop-lo.lo c.loop-lo.hi c.index-keys-mid.result c.loop-lo-test.true c.loop-lo.invariant.1 c.index-keys-mid.is c.if-passes.ensures in
    (omega arith, omega arith, sym (ap (λ (s : Sought). s.place) e) ∙ c.loop-lo.invariant.2, omega (arith, ap (λ (s : Sought). s.rounds) e, c.loop-lo.invariant.3))

pub returns : goal.returns
returns g c =
    let before = g.K.Key.before in
    let keys = c.args.keys.now in
    let key = c.args.key.now in
    let side = c.args.side in
    let e = halving_end _ (length keys) c.loop-lo.lo c.loop-lo.hi c.loop-lo-test.false in
    let place = sym (ap (λ (s : Sought). s.place) e) ∙ c.loop-lo.invariant.2 in
    record {
      place = place;
      comparisons = omega (arith, ap (λ (s : Sought). s.rounds) e, c.loop-lo.invariant.3);
      boundary = subst (Boundary (passed_at before keys key side) (length keys)) (sym place) (search_boundary (passed_at before keys key side) (length keys));
      counted = λ up. place ∙ sought_place before g.met.K.Key.lawful keys up key side;
      few = omega (arith, ap (λ (s : Sought). s.rounds) e, c.loop-lo.invariant.3, sought_rounds before keys key side);
    }
