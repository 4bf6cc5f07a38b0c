-- The descent through a directory, by what is known of each row: whether it is passed. Assumes nothing.
use Rattle.std.specs.Prelude.{ℕ, zero, suc, ◌+◌, ◌-◌, ◌*◌, Bool, true, false, Some, None, Option, nat_lt}
use Rattle.indexes.specs.Seeking.{Sought, halving, bits}
use Rattle.shapes.specs.declared.shape.Shape.{Shape}
use Rattle.shapes.specs.Nodes.{child, chunk_at, size, slot_row}

-- the node search over s keys
abbrev pub node_seek : (ℕ → Bool) → ℕ → Sought
node_seek pass s = halving pass s 0 s

-- what was sought, after c rounds more
abbrev pub after : ℕ → Sought → Sought
after c s = record { place = s.place; rounds = c + s.rounds }

-- the search of node b: of its slots the first w - 1, each by its row
abbrev pub at_node : Shape → (ℕ → Bool) → ℕ → Sought
at_node g pass b = node_seek (λ i. pass (slot_row g b i)) (g.children - 1)

-- the search of a leaf's chunk, from its first row on; at no leaf the place is n
abbrev pub at_leaf : Shape → (ℕ → Bool) → Option ℕ → Sought
at_leaf g pass (Some q) =
    let s : Sought = node_seek (λ i. pass (q * g.slots + i)) (size g q) in
    record { place = q * g.slots + s.place; rounds = s.rounds }
at_leaf g pass None = record { place = g.rows; rounds = 0 }

-- from node b on, for at most f steps: at an internal node its search tells the child
unfoldable pub descend : Shape → (ℕ → Bool) → (f b : ℕ) → Sought
descend g pass zero b = at_leaf g pass (chunk_at g b)
descend g pass (suc f) b =
    elim (nat_lt b g.internal) [
      | true ↦
          let s : Sought = at_node g pass b in
          after s.rounds (descend g pass f (child g b s.place))
      | false ↦ at_leaf g pass (chunk_at g b)
    ]

-- from the root; the rounds of all its searches are summed
abbrev pub descent : Shape → (ℕ → Bool) → Sought
descent g pass = descend g pass g.internal 0

-- k nodes with w - 1 slots searched, and a chunk
abbrev pub most_rounds : Shape → ℕ
most_rounds g = g.levels * bits (g.children - 1) + bits g.slots
