-- What rows mean under each layout. Assumes nothing.
use Rattle.std.specs.Prelude.{◌≡◌, Bool, true, List, length}
use Rattle.indexes.specs.declared.index.Side.{Side}
use Rattle.indexes.specs.declared.layout.Layout.{Layout}
use Rattle.indexes.specs.declared.layout.Layout.TheVariants.{Bare, Full, Level}
use Rattle.indexes.specs.Meaning.{Meaning, place_of}
use Rattle.indexes.specs.Seeking.{Sought, passed_at, sought, bits}
use Rattle.shapes.specs.Descent.{descent}
use Rattle.shapes.specs.Layouts.{allowed, shape_under, ceiling_under}

-- a key sought under a layout: by one node search when bare, and otherwise by the descent
abbrev pub sought_under : {K : Type 0} → (K → K → Bool) → Layout → List K → K → Side → Sought
sought_under before Bare rows key side = sought before rows key side
sought_under before (Full m) rows key side = descent (shape_under (Full m) (length rows)) (passed_at before rows key side)
sought_under before (Level m) rows key side = descent (shape_under (Level m) (length rows)) (passed_at before rows key side)

-- what rows mean under a layout, whatever slots they were opened with; for `Bare` this computes to `bare before rows`
abbrev pub frozen : {K : Type 0} → (K → K → Bool) → Layout → List K → Meaning K
frozen before layout rows = record {
  rows = rows;
  comparisons = λ key side. (sought_under before layout rows key side).rounds;
  ceiling = ceiling_under layout (length rows);
}

-- what a bare column means: its comparisons are the rounds of halving its rows
abbrev pub bare : {K : Type 0} → (K → K → Bool) → List K → Meaning K
bare before rows = record {
  rows = rows;
  comparisons = λ key side. (sought before rows key side).rounds;
  ceiling = bits (length rows);
}

-- a bare column, a full and a level directory give the same place: the count of all rows passed
abbrev pub AnyLayout : {K : Type 0} → (K → K → Bool) → List K → Type 0
AnyLayout {K} before rows =
    (layout : Layout) → allowed layout ≡ true → (key : K) (side : Side) → (sought_under before layout rows key side).place ≡ place_of before rows key side
