-- One turn of the loop: a field less is left.
use Rattle.std.proofs.Common.{sym, ◌∙◌}
use Rattle.sheets.proofs.Turns.{reads_on}
use Rattle.sheets.proofs.reader.Reader.is_well_formed.Goals as goal

pub loop-preserved : goal.loop-preserved
loop-preserved c = reads_on c.next.result c.next.ensures.steps (sym c.is_some.ensures ∙ c.loop-test.true) ∙ c.loop.invariant
