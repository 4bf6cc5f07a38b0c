-- A column that a directory may be over. Assumes nothing.
use Rattle.std.specs.Prelude.{◌≡◌, ℕ, Bool, List, Ok, Err, Result}
use Rattle.indexes.specs.declared.decline.Decline.{Decline}
use Rattle.indexes.specs.declared.layout.Layout.{Layout}
use Rattle.directories.specs.declared.column.Column.{Column}
use Rattle.directories.specs.Opening.{building}

-- the column with the tree of its layout, or the reason why there is none
abbrev pub Fits : {K : Type 0} → (K → K → Bool) → Layout → List K → ℕ → Result (Column K) Decline → Type 0
Fits before layout rows slots (Ok c) = (building before layout rows slots ≡ Ok tt) × (c.tree.layout ≡ layout) × (c.rows.now ≡ rows)
Fits before layout rows slots (Err why) = building before layout rows slots ≡ Err why
