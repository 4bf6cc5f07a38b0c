-- What a sheet that was read says. Assumes nothing.
use Rattle.std.specs.Prelude.{Some, Option}
use Rattle.sheets.specs.declared.field.Kind.TheVariants.{Directory, Accounts, Labels}
use Rattle.sheets.specs.declared.sheet.Column.{Column}
use Rattle.sheets.specs.declared.sheet.Column.TheVariants as column
use Rattle.sheets.specs.declared.sheet.Sheet.{Sheet}
use Rattle.sheets.specs.Fields.{Piece, piece}
use Rattle.sheets.specs.Grammar.{bind, state, left, Said}

-- the field that a column was
abbrev pub col : Column → Piece
col (column.Accounts p) = piece Accounts p
col (column.Labels p) = piece Labels p

-- what a sheet that was read says: its calls are those from its reader on
abbrev pub viewed : Sheet → Option Said
viewed s = bind (left (state s.calls)) (λ fs. Some (record { directory = piece Directory s.directory; column = col s.column; calls = fs }))
