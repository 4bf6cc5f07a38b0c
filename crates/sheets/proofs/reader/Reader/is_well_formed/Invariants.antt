-- What is left stays well formed or not, as the reader goes on; less is left each time.
use Rattle.std.proofs.Common.{◌≡◌, length, is_some}
use Rattle.sheets.specs.Grammar.{state, left}
use Rattle.sheets.proofs.reader.Reader.is_well_formed.Given as goal

abbrev pub invariant-loop : goal.invariant-loop
invariant-loop l = is_some (left (state l.ahead)) ≡ is_some (left (state l.self))

abbrev pub decreases-loop : goal.decreases-loop
decreases-loop l = length l.ahead.rest.now
