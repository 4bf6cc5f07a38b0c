use Rattle.std.proofs.Common.{◌≡◌, ◌-◌, ◌*◌, ◌^◌, ◌≤◌}
use Rattle.shapes.specs.Numbers.{least, levels_of}
use Rattle.shapes.proofs.shape.measured.Given as goal

-- the levels still to be counted from here end where the count from 0 ends
abbrev pub invariant-loop-power : goal.invariant-loop-power
invariant-loop-power l =
    (l.power ≡ l.children ^ l.levels) × (l.levels ≤ l.power) × (1 ≤ l.power) × (l.power ≤ 65 * 2 ^ 21)
    × (least l.children l.chunks l.chunks l.levels ≡ levels_of l.children l.chunks)

abbrev pub decreases-loop-power : goal.decreases-loop-power
decreases-loop-power l = l.chunks - l.power
