-- The numbers that a table of struck rows holds. Assumes nothing.
use Rattle.std.specs.Prelude.{ℕ, List, take}
use Rattle.layers.specs.declared.table.StruckRows.{StruckRows}
use Rattle.layers.specs.Table.{listed}

-- the numbers in a table
abbrev pub numbers : StruckRows → List ℕ
numbers t = listed (take t.len t.entries)
