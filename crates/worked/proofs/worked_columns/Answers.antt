use Rattle.std.proofs.Common.{sym, subst₂}
use Rattle.worked.specs.Cases.{Worked}
use Rattle.worked.proofs.Computed.{worked}
use Rattle.worked.proofs.worked_columns.Goals as goal

pub returns : goal.returns
returns c = subst₂ Worked (sym c.equal_rows.ensures) (sym c.rising_rows.ensures) worked
