-- The slots of a directory over rows. Assumes nothing.
use Rattle.std.specs.Prelude.{ℕ, ◌+◌, ◌*◌, ◌/◌, ◌%◌, Bool, true, false, ◌&&◌, List, [], ◌∷◌, map, length, get_or}
use Rattle.std.specs.List.{between, range_with_len}
use Rattle.keys.specs.Order.{equivalent_under}
use Rattle.indexes.specs.declared.layout.Layout.{Layout}
use Rattle.shapes.specs.declared.shape.Shape.{Shape}
use Rattle.shapes.specs.Nodes.{size, slot_row}
use Rattle.shapes.specs.Layouts.{shape_under, slots_in}

-- node b has the slots from b × m, so slot j is one of node j div m
abbrev pub row_of_slot : Shape → ℕ → ℕ
row_of_slot g j = slot_row g (j / g.slots) (j % g.slots)

-- each slot is the key of its row. Where there are no rows, there are no slots
abbrev pub slot_keys : {K : Type 0} → Shape → List K → List K
slot_keys g [] = []
slot_keys g (first ∷ rest) = map (λ j. get_or (first ∷ rest) (row_of_slot g j) first) (range_with_len 0 (slots_in g))

-- the slots of a layout's directory over rows
abbrev pub slots_under : {K : Type 0} → Layout → List K → List K
slots_under layout rows = slot_keys (shape_under layout (length rows)) rows

-- as many keys, each equivalent to the other's
abbrev pub agree : {K : Type 0} → (K → K → Bool) → List K → List K → Bool
agree before [] [] = true
agree before [] (y ∷ ys) = false
agree before (x ∷ xs) [] = false
agree before (x ∷ xs) (y ∷ ys) = equivalent_under before x y && agree before xs ys

-- the rows of chunk q
abbrev pub chunk_rows : {K : Type 0} → Shape → List K → ℕ → List K
chunk_rows g rows q = between (q * g.slots) (q * g.slots + size g q) rows
