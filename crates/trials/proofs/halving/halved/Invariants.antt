-- The row before the range is passed, and the one behind it is not; each round about halves what is left.
use Rattle.std.proofs.Common.{◌-◌, ◌≡◌, ◌*◌, ◌+◌, ◌^◌, ◌≤◌, length, ℕ, Some, true, false, slice_get}
use Rattle.std.specs.Fn.{FnReturnsAt}
use Rattle.trials.proofs.halving.halved.Given as goal

abbrev pub invariant-loop-lo : goal.invariant-loop-lo
invariant-loop-lo g l =
    (l.lo ≤ l.hi) × (l.hi ≤ length l.rows)
    × (2 ^ l.comparisons * (l.hi - l.lo) ≤ length l.rows) × (2 ^ l.comparisons ≤ 2 * length l.rows + 1)
    × (length l.rows + 2 ≤ 2 ^ l.comparisons * (l.hi - l.lo + 2))
    × ((k : ℕ) (x : _) → k + 1 ≡ l.lo → slice_get l.rows k ≡ Some x → FnReturnsAt g.F.Fn l.passes x true)
    × ((x : _) → slice_get l.rows l.hi ≡ Some x → FnReturnsAt g.F.Fn l.passes x false)

abbrev pub decreases-loop-lo : goal.decreases-loop-lo
decreases-loop-lo g l = l.hi - l.lo
