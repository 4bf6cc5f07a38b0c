-- The whole descent is what is counted so far, and then the descent from `node` on.
use Rattle.std.proofs.Common.{◌≡◌, ◌-◌, ◌*◌, ◌≤◌}
use Rattle.indexes.specs.Seeking.{passed_at}
use Rattle.shapes.specs.Descent.{after, descend, descent}
use Rattle.directories.specs.Frozen.{column_of}
use Rattle.directories.proofs.frozen.FrozenIndex.descend.Given as goal

abbrev pub invariant-loop-node : goal.invariant-loop-node
invariant-loop-node g l =
    let shape = l.self.column.tree.shape in
    let pass = passed_at g.K.Key.before (column_of l.self) l.key l.side in
    (l.node ≤ 65 * shape.internal) × (l.comparisons ≤ 7 * l.node)
    × (after l.comparisons (descend shape pass shape.internal l.node) ≡ descent shape pass)

abbrev pub decreases-loop-node : goal.decreases-loop-node
decreases-loop-node g l = l.self.column.tree.shape.internal - l.node
