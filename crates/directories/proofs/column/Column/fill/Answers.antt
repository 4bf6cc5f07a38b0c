-- In the end each slot is as it is to be.
use Rattle.std.proofs.Common.{arith}
use Rattle.std.proofs.lemmas.List.{same_lists}
use Rattle.directories.specs.Slots.{slot_keys}
use Rattle.directories.proofs.SlotKeys.{length_slot_keys}
use Rattle.directories.proofs.column.Column.fill.Goals as goal

pub returns : goal.returns
returns g c =
    let x = c.args.self.now in
    let long = length_slot_keys x.tree x.rows.now x.all in
    same_lists c.loop-place.slots (slot_keys x.tree.shape x.rows.now) (omega (arith, long, c.requires, c.loop-place.auto.slots))
    (λ k d h. c.loop-place.invariant k (omega (arith, c.loop-place.auto.slots, c.loop-place-test.false)) d)
