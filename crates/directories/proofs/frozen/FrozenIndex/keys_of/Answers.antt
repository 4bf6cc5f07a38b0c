-- The keys are among the slots.
use Rattle.std.proofs.Common.{arith}
use Rattle.directories.proofs.Parts.{node}
use Rattle.directories.proofs.frozen.FrozenIndex.keys_of.Goals as goal

pub overflow_mul-from : goal.overflow_mul-from
overflow_mul-from g c = omega (arith, (node c.args.self.now c.requires.opened c.args.node c.requires.internal).few)

pub overflow_sub-result : goal.overflow_sub-result
overflow_sub-result g c = omega (arith, (node c.args.self.now c.requires.opened c.args.node c.requires.internal).one)

pub overflow_add-result : goal.overflow_add-result
overflow_add-result g c = omega (arith, (node c.args.self.now c.requires.opened c.args.node c.requires.internal).few)

pub offset_bounds-self-from : goal.offset_bounds-self-from
offset_bounds-self-from g c = omega (arith, (node c.args.self.now c.requires.opened c.args.node c.requires.internal).from_in)

pub slice_bounds-result-end : goal.slice_bounds-result-end
slice_bounds-result-end g c = omega (arith, (node c.args.self.now c.requires.opened c.args.node c.requires.internal).to_in)
