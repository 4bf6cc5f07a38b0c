use Rattle.std.proofs.Common.{arith}
use Rattle.directories.proofs.Models.{tree_ceiling}
use Rattle.directories.proofs.tree.Tree.most_comparisons.Goals as goal

pub overflow_sub-self : goal.overflow_sub-self
overflow_sub-self c = (tree_ceiling c.args.self.now).some

pub overflow_cast-result : goal.overflow_cast-result
overflow_cast-result c = omega (arith, (tree_ceiling c.args.self.now).levels_few)
