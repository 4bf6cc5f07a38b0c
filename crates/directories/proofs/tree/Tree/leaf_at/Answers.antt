use Rattle.std.proofs.Common.{arith}
use Rattle.directories.proofs.TreeFacts.{facts}
use Rattle.directories.proofs.tree.Tree.leaf_at.Goals as goal

pub overflow_add-result : goal.overflow_add-result
overflow_add-result c =
    let f = facts c.args.self.now in
    omega (arith, f.lawful.parts, f.lawful.inner, f.rows_few, f.chunks_few)
