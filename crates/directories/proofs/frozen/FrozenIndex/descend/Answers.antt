-- A turn at an internal node, and the landing at a leaf or at no leaf.
use Rattle.std.proofs.Common.{◌+◌, ap, ◌∙◌, subst, arith}
use Rattle.indexes.specs.Seeking.{Sought, Seeks, passed_at}
use Rattle.shapes.specs.Descent.{after, descend}
use Rattle.directories.specs.Frozen.{column_of}
use Rattle.directories.proofs.Descents.{Turned, turned, landed, landed_few}
use Rattle.directories.proofs.Models.{placed}
use Rattle.directories.proofs.TreeFacts.{facts, onward}
use Rattle.directories.proofs.frozen.FrozenIndex.descend.Given as given
use Rattle.directories.proofs.frozen.FrozenIndex.descend.Goals as goal
use Rattle.directories.proofs.frozen.FrozenIndex.descend.Goals.{After-seek-found}

turn : (g : given.Over) (c : After-seek-found g)
    → Turned c.args.self.now.column.tree.shape (passed_at g.K.Key.before (column_of c.args.self.now) c.args.key.now c.args.side)
    (c.loop-node.comparisons + c.seek-found.result.comparisons) c.loop-node.node c.seek-found.result.answer
turn g c =
    turned g.met.K.Key.lawful c.args.self.now c.requires c.args.key.now c.args.side
    c.loop-node.comparisons c.loop-node.node c.seek-found.result c.loop-node-test.true c.loop-node.invariant.1 c.loop-node.invariant.2
    (subst (λ part. Seeks g.K.Key.before part c.args.key.now c.args.side c.seek-found.result) c.keys_of.ensures c.seek-found.ensures)

pub overflow_add-comparisons : goal.overflow_add-comparisons
overflow_add-comparisons g c = let t = turn g (goal.at.overflow_add-comparisons g c).After-seek-found in omega (arith, t.fits)

pub child_of-node-requires-clause-child : goal.child_of-node-requires-clause-child
child_of-node-requires-clause-child g c = (turn g (goal.at.child_of-node-requires-clause-child g c).After-seek-found).inside

pub loop-node-preserved : goal.loop-node-preserved
loop-node-preserved g c =
    let x = c.args.self.now in
    let shape = x.column.tree.shape in
    let t = turn g (goal.at.loop-node-preserved g c).After-seek-found in
    let pass = passed_at g.K.Key.before (column_of x) c.args.key.now c.args.side in
    let next = c.child_of-node.ensures in (
      omega (arith, next.is, (onward x.column.tree _ _ c.loop-node-test.true t.inside).next),
      omega (arith, t.paid, next.is),
      ap (λ n. after (c.loop-node.comparisons + c.seek-found.result.comparisons) (descend shape pass shape.internal n)) next.is ∙ t.rest,
    )

pub overflow_add-result : goal.overflow_add-result
overflow_add-result g c =
    let x = c.args.self.now in
    let f = facts x.column.tree in
    let few = landed_few g.met.K.Key.lawful x c.requires c.args.key.now c.args.side c.loop-node.node in
    omega (arith, few, c.land-landed.ensures.comparisons, c.loop-node.invariant.0, c.loop-node.invariant.1, f.internal_few, f.rows_few)

pub returns : goal.returns
returns g c =
    let x = c.args.self.now in
    let e = landed g.met.K.Key.lawful x c.requires c.args.key.now c.args.side c.loop-node.comparisons c.loop-node.node c.loop-node-test.false c.loop-node.invariant.2 in
    let p = placed g.K.Key.before x g.met.K.Key.lawful c.requires c.args.key.now c.args.side in
    record {
      place = c.land-landed.ensures.place ∙ ap (λ (s : Sought). s.place) e ∙ p.place;
      comparisons = ap (λ y. c.loop-node.comparisons + y) c.land-landed.ensures.comparisons ∙ ap (λ (s : Sought). s.rounds) e ∙ p.rounds;
    }
