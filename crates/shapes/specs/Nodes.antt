-- The nodes of a directory: their children, the leaves of chunks, and the row of each slot. Assumes nothing.
use Rattle.std.specs.Prelude.{ℕ, zero, suc, ◌+◌, ◌-◌, ◌*◌, min, true, false, cond, List, [], ◌∷◌, ◌++◌, Some, None, Option, nat_lt}
use Rattle.shapes.specs.declared.shape.Shape.{Shape}

-- child i of node b
abbrev pub child : Shape → (b i : ℕ) → ℕ
child g b i = b * g.children + 1 + i

-- nodes below I are internal. A node c from I to U - 1 is the leaf of chunk x + (c - I); a node from U on is the leaf of
-- chunk c - U if that is below x, and otherwise no leaf
abbrev pub chunk_at : Shape → ℕ → Option ℕ
chunk_at g c = cond (nat_lt c g.upper) (Some (g.first + (c - g.internal))) (cond (nat_lt (c - g.upper) g.first) (Some (c - g.upper)) None)

-- chunk q is the rows from q × m, at most m of them
abbrev pub size : Shape → ℕ → ℕ
size g q = min g.slots (g.rows - q * g.slots)

abbrev pub last_row : Shape → ℕ → ℕ
last_row g q = q * g.slots + size g q - 1

-- from node c on to child i while the node is internal, for at most f steps
unfoldable pub along : Shape → (i f c : ℕ) → ℕ
along g i zero c = c
along g i (suc f) c = elim (nat_lt c g.internal) [ true ↦ along g i f (child g c i) | false ↦ c ]

-- the last row of a leaf's chunk; at no leaf that of the first part, the chunks below x
abbrev pub last_held : Shape → Option ℕ → ℕ
last_held g (Some q) = last_row g q
last_held g None = last_row g (g.first - 1)

-- the row of slot i of node b: to child i, and on to child w - 1 while the node is internal. A child's number is larger
-- than its parent's, so I steps are enough
unfoldable pub slot_row : Shape → (b i : ℕ) → ℕ
slot_row g b i = last_held g (chunk_at g (along g (g.children - 1) g.internal (child g b i)))

-- the lists of the first n numbers, one behind the other
abbrev pub joined : (ℕ → List ℕ) → ℕ → List ℕ
joined f zero = []
joined f (suc n) = joined f n ++ f n

abbrev pub leaf_chunk : Option ℕ → List ℕ
leaf_chunk (Some q) = q ∷ []
leaf_chunk None = []

-- the chunks of the leaves under node c, from the first child to the last, down to at most f levels
unfoldable pub leaves_within : Shape → (f c : ℕ) → List ℕ
leaves_within g zero c = leaf_chunk (chunk_at g c)
leaves_within g (suc f) c =
    elim (nat_lt c g.internal) [
      | true ↦ joined (λ i. leaves_within g f (child g c i)) g.children
      | false ↦ leaf_chunk (chunk_at g c)
    ]

abbrev pub leaves : Shape → ℕ → List ℕ
leaves g c = leaves_within g g.internal c
