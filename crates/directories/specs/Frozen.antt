-- A frozen index, and what an opening comes to. Assumes nothing.
use Rattle.std.specs.Prelude.{◌≡◌, Bool, true, List, [], length, Ok, Err, Result}
use Rattle.indexes.specs.declared.decline.Decline.{Decline}
use Rattle.indexes.specs.declared.layout.Layout.{Layout}
use Rattle.indexes.specs.declared.layout.Layout.TheVariants.{Bare}
use Rattle.indexes.specs.Meaning.{Meant}
use Rattle.shapes.specs.Layouts.{allowed, shape_under}
use Rattle.directories.specs.declared.frozen.FrozenIndex.{FrozenIndex}
use Rattle.directories.specs.Meanings.{AnyLayout, frozen}
use Rattle.directories.specs.Opening.{opening, bare_opening, kept_or}
use Rattle.directories.specs.Slots.{slot_keys, agree}

-- the rows that a frozen index holds, and what is built over them
abbrev pub column_of : {K : Type 0} → FrozenIndex K → List K
column_of x = x.column.rows.now

abbrev pub layout_of : {K : Type 0} → FrozenIndex K → Layout
layout_of x = x.column.tree.layout

-- what holds from its opening on
pub record Open {K : Type 0} (before : K → K → Bool) (x : FrozenIndex K) : Type 0 where
  pub fine : allowed (layout_of x) ≡ true
  pub shaped : x.column.tree.shape ≡ shape_under (layout_of x) (length (column_of x))
  pub agrees : agree before x.slots.now (slot_keys x.column.tree.shape (column_of x)) ≡ true
  pub meant : Meant before (frozen before (layout_of x) (column_of x))

-- what an opening comes to, of an index that was x and is x' then
pub record Opens {K : Type 0} (before : K → K → Bool) (layout : Layout) (column slots : List K) (x x' : FrozenIndex K) (r : Result Unit Decline) : Type 0 where
  pub answers : r ≡ opening before layout column slots
  pub holds : column_of x' ≡ kept_or r (column_of x) column
  pub under : layout_of x' ≡ kept_or r (layout_of x) layout
  -- a declined opening leaves the index as it was
  pub leaves : (why : Decline) → r ≡ Err why → x' ≡ x
  pub opened : r ≡ Ok tt → Open before x'
  pub stays : Open before x → Open before x'
  -- a bare column with no slots is declined for its length or its order alone
  pub bare_answers : layout ≡ Bare → slots ≡ [] → r ≡ bare_opening before column
  -- whatever the layout, places in this column would be the same
  pub any : r ≡ Ok tt → AnyLayout before column
