-- A tree planted over rows. Assumes nothing.
use Rattle.std.specs.Prelude.{◌≡◌, ℕ, Ok, Err, Result}
use Rattle.indexes.specs.declared.decline.Decline.{Decline}
use Rattle.indexes.specs.declared.layout.Layout.{Layout}
use Rattle.shapes.specs.Layouts.{shaping}
use Rattle.directories.specs.declared.tree.Tree.{Tree}

-- the tree of a layout over n rows, or the reason why there is none
abbrev pub Planted : Layout → ℕ → Result Tree Decline → Type 0
Planted layout n (Ok t) = (shaping layout n ≡ Ok t.shape) × (t.layout ≡ layout)
Planted layout n (Err why) = shaping layout n ≡ Err why
