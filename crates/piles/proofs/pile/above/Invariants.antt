-- The list stays one that answers.
use Rattle.layers.specs.Views.{Kept}
use Rattle.piles.proofs.pile.above.Given as goal

abbrev pub invariant-loop-row : goal.invariant-loop-row
invariant-loop-row g l = Kept g.I.Index.opened g.I.Index.means l.list
