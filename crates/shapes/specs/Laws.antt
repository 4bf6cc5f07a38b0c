-- What holds of every directory's tree: its leaves, its slots, its descents and its ceiling. Assumes nothing.
use Rattle.std.specs.Prelude.{◌≡◌, ℕ, ◌-◌, ◌^◌, ◌<◌, ◌≤◌, Bool, List, [], ◌∷◌, Some, Ok, Err, Result}
use Rattle.std.specs.List.{range_with_len}
use Rattle.indexes.specs.declared.decline.Decline.{Decline}
use Rattle.indexes.specs.declared.layout.Layout.{Layout}
use Rattle.indexes.specs.declared.layout.Layout.TheVariants.{Bare, Full, Level}
use Rattle.indexes.specs.Seeking.{Cut, bits}
use Rattle.shapes.specs.declared.shape.Shape.{Shape}
use Rattle.shapes.specs.Nodes.{child, chunk_at, last_row, slot_row, leaves}
use Rattle.shapes.specs.Descent.{descent}
use Rattle.shapes.specs.Layouts.{ceiling_under}

-- the last number of a list, or d where it has none
abbrev pub last_or : ℕ → List ℕ → ℕ
last_or d [] = d
last_or d (x ∷ xs) = last_or x xs

pub record Tree (g : Shape) : Type 0 where
  -- k is the least number with w ^ k ≥ N
  pub levels_enough : g.chunks ≤ g.children ^ g.levels
  pub levels_least : (j : ℕ) → g.chunks ≤ g.children ^ j → g.levels ≤ j
  -- from left to right, the leaves under the root are all the chunks, each once and in their order
  pub leaves_are_chunks : leaves g 0 ≡ range_with_len 0 g.chunks
  -- and no chunk is the leaf of two nodes, wherever they are
  pub one_leaf : (c e q : ℕ) → g.internal ≤ c → g.internal ≤ e → chunk_at g c ≡ Some q → chunk_at g e ≡ Some q → c ≡ e
  -- a slot is the last row of what lies under its child, or of the first part where no leaf does
  pub slot_is_last : (b i : ℕ) → b < g.internal → i < g.children → slot_row g b i ≡ last_row g (last_or (g.first - 1) (leaves g (child g b i)))
  -- and that row exists
  pub slot_exists : (b i : ℕ) → b < g.internal → i < g.children → slot_row g b i < g.rows
  -- where the rows that are passed stand before all others, the descent ends between the two
  pub descent_finds : (pass : ℕ → Bool) (p : ℕ) → Cut pass g.rows p → (descent g pass).place ≡ p

-- the node size of a level directory is 2 ^ t, for the t of its ceiling
abbrev pub LevelPower : Layout → Type 0
LevelPower Bare = Unit {0}
LevelPower (Full m) = Unit {0}
LevelPower (Level m) = m ≡ 2 ^ (bits m - 1)

-- the shape of a layout is a tree, whose descents take at most the ceiling
pub record Shapely (layout : Layout) (g : Shape) : Type 0 where
  pub tree : Tree g
  pub level_power : LevelPower layout
  pub descent_capped : (pass : ℕ → Bool) → (descent g pass).rounds ≤ ceiling_under layout g.rows

abbrev pub Shaped : Layout → Result Shape Decline → Type 0
Shaped layout (Ok g) = Shapely layout g
Shaped layout (Err e) = Unit {0}
