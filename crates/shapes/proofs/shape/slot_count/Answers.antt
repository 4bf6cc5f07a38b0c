use Rattle.std.proofs.Common.{arith}
use Rattle.shapes.proofs.Trees.{accepted, slots_fit}
use Rattle.shapes.proofs.shape.slot_count.Goals as goal

pub overflow_mul-result : goal.overflow_mul-result
overflow_mul-result c =
    omega (arith, slots_fit c.args.layout c.args.rows c.in_ok-shape.shape (accepted c.args.layout c.args.rows c.in_ok-shape.shape c.in_ok-shape.ensures.answers))
