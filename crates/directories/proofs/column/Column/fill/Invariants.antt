use Rattle.std.proofs.Common.{◌≡◌, ℕ, ◌<◌, get_or}
use Rattle.directories.specs.Slots.{slot_keys}
use Rattle.directories.proofs.column.Column.fill.Given as goal

abbrev pub invariant-loop-place : goal.invariant-loop-place
invariant-loop-place g l = (k : ℕ) → k < l.place → (d : g.row.K.Denot) → get_or l.slots k d ≡ get_or (slot_keys l.self.tree.shape l.self.rows.now) k d
