use Rattle.std.proofs.Common.{◌≡◌, ◌+◌, ◌-◌, ◌≤◌, length}
use Rattle.indexes.specs.Seeking.{halving, passed_at, sought}
use Rattle.indexes.proofs.node.seek.Given as goal

abbrev pub invariant-loop-lo : goal.invariant-loop-lo
invariant-loop-lo g l =
    let n = length l.keys in
    let left = halving (passed_at g.K.Key.before l.keys l.key l.side) n l.lo l.hi in
    let all = sought g.K.Key.before l.keys l.key l.side in
    (l.lo ≤ l.hi) × (l.hi ≤ n) × (left.place ≡ all.place) × (l.comparisons + left.rounds ≡ all.rounds)

abbrev pub decreases-loop-lo : goal.decreases-loop-lo
decreases-loop-lo g l = l.hi - l.lo
