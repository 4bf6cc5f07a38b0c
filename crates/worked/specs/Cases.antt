-- What was worked out by hand, of the definitions of shapes and of frozen columns. Assumes nothing.
use Rattle.std.specs.Prelude.{◌≡◌, ℕ, ◌*◌, Bool, true, false, List, [], ◌∷◌, map, length, take, drop, Some, nat_lt}
use Rattle.std.specs.List.{range_with_len}
use Rattle.keys.specs.declared.account.Account.{Account}
use Rattle.indexes.specs.declared.index.Side.{Side}
use Rattle.indexes.specs.declared.index.Side.TheVariants.{At, After}
use Rattle.indexes.specs.declared.layout.Layout.{Layout}
use Rattle.indexes.specs.declared.layout.Layout.TheVariants.{Full, Level}
use Rattle.indexes.specs.Seeking.{Sought}
use Rattle.shapes.specs.Layouts.{allowed, shape_under, ceiling_under}
use Rattle.shapes.specs.Nodes.{chunk_at}
use Rattle.directories.specs.Meanings.{sought_under}
use Rattle.directories.specs.Slots.{slots_under}

-- account numbers, ordered by size
abbrev pub account : ℕ → Account
account n = record { number = n }

abbrev pub smaller : Account → Account → Bool
smaller a b = nat_lt a.number b.number

-- column A, and the numbers from 1 to 40
abbrev pub column_a : List Account
column_a = map account (10 ∷ 20 ∷ 20 ∷ 30 ∷ 40 ∷ 50 ∷ 50 ∷ 50 ∷ 60 ∷ [])

abbrev pub one_to_40 : List Account
one_to_40 = map account (range_with_len 1 40)

-- a number sought in a column under a layout
abbrev pub look_up : Layout → List Account → ℕ → Side → Sought
look_up layout column n side = sought_under smaller layout column (account n) side

abbrev pub place_with : ℕ → ℕ → Sought
place_with place comparisons = record { place = place; rounds = comparisons }

-- the slots of node b, of m slots each
abbrev pub node_slots : ℕ → ℕ → List Account → List Account
node_slots m b slots = take m (drop (b * m) slots)

-- of a full directory with m = 4 over 260 rows, that is N = 65 chunks
pub record Wide : Type 0 where
  pub chunks : (shape_under (Full 4) 260).chunks ≡ 65
  pub upper : (shape_under (Full 4) 260).upper ≡ 31
  pub internal : (shape_under (Full 4) 260).internal ≡ 16
  pub first : (shape_under (Full 4) 260).first ≡ 50
  pub leaf : chunk_at (shape_under (Full 4) 260) 16 ≡ Some 50

-- of column A under a full directory with m = 2
pub record Equal (column : List Account) : Type 0 where
  pub rows : column ≡ column_a
  pub slots : slots_under (Full 2) column ≡ map account (50 ∷ 50 ∷ 20 ∷ 30 ∷ [])
  pub at_20 : look_up (Full 2) column 20 At ≡ place_with 1 6
  pub at_50 : look_up (Full 2) column 50 At ≡ place_with 5 5
  pub after_50 : look_up (Full 2) column 50 After ≡ place_with 8 2
  pub at_61 : look_up (Full 2) column 61 At ≡ place_with 9 2
  pub ceiling : ceiling_under (Full 2) (length column) ≡ 6

-- of 1 to 40: under a full directory with m = 3, and under a level one with m = 4
pub record Rising (column : List Account) : Type 0 where
  pub rows : column ≡ one_to_40
  pub node_4 : node_slots 3 4 (slots_under (Full 3) column) ≡ map account (39 ∷ 40 ∷ 40 ∷ [])
  pub at_41 : look_up (Full 3) column 41 At ≡ place_with 40 4
  pub node_0 : node_slots 4 0 (slots_under (Level 4) column) ≡ map account (16 ∷ 32 ∷ 36 ∷ 40 ∷ [])
  pub at_17 : look_up (Level 4) column 17 At ≡ place_with 16 7
  pub ceiling : ceiling_under (Level 4) (length column) ≡ 7

-- of no rows, whatever the layout: no slots, place 0, no comparisons
pub record Nothing : Type 0 where
  pub slots : (layout : Layout) → slots_under {K = Account} layout [] ≡ []
  pub places : (layout : Layout) (n : ℕ) (side : Side) → look_up layout [] n side ≡ place_with 0 0

-- of node sizes at their bounds
pub record Sizes : Type 0 where
  pub full_1 : allowed (Full 1) ≡ false
  pub full_2 : allowed (Full 2) ≡ true
  pub full_64 : allowed (Full 64) ≡ true
  pub full_65 : allowed (Full 65) ≡ false
  pub level_3 : allowed (Level 3) ≡ false
  pub level_4 : allowed (Level 4) ≡ true

-- all of it, jointly
pub record Worked (equal rising : List Account) : Type 0 where
  pub wide : Wide
  pub column_a : Equal equal
  pub columns_b_c : Rising rising
  pub nothing : Nothing
  pub sizes : Sizes
