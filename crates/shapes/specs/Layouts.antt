-- The layouts: which node sizes are allowed, the shape of each, its ceiling, and how many slots it has. Assumes nothing.
use Rattle.std.specs.Prelude.{ℕ, ◌+◌, ◌-◌, ◌*◌, Bool, true, cond, ◌&&◌, ◌||◌, Ok, Err, Result, ◌==◌, nat_le, nat_lt}
use Rattle.indexes.specs.declared.decline.Decline.{Decline}
use Rattle.indexes.specs.declared.decline.Decline.TheVariants.{NodeSize, TooManyRows}
use Rattle.indexes.specs.declared.layout.Layout.{Layout}
use Rattle.indexes.specs.declared.layout.Layout.TheVariants.{Bare, Full, Level}
use Rattle.indexes.specs.Seeking.{bits}
use Rattle.shapes.specs.declared.shape.Shape.{Shape}
use Rattle.shapes.specs.Numbers.{shape, one_chunk}

-- full: 2 to 64; level: a power of two from 2 to 64
abbrev pub allowed : Layout → Bool
allowed Bare = true
allowed (Full m) = nat_le 2 m && nat_le m 64
allowed (Level m) = m == 2 || (m == 4 || (m == 8 || (m == 16 || (m == 32 || m == 64))))

-- a full directory's node has m + 1 children, a level directory's m
abbrev pub shape_under : Layout → ℕ → Shape
shape_under Bare n = one_chunk n
shape_under (Full m) n = shape n m (m + 1)
shape_under (Level m) n = shape n m m

-- bits n when bare, (k + 1) × bits m when full, and k × t + t + 1 when level with m = 2 ^ t, so that bits m = t + 1
abbrev pub ceiling_under : Layout → ℕ → ℕ
ceiling_under Bare n = bits n
ceiling_under (Full m) n = ((shape_under (Full m) n).levels + 1) * bits m
ceiling_under (Level m) n = let t = bits m - 1 in (shape_under (Level m) n).levels * t + t + 1

-- the shape, or why there is none
abbrev pub shaping : Layout → ℕ → Result Shape Decline
shaping layout n = cond (allowed layout) (cond (nat_lt 1048576 n) (Err TooManyRows) (Ok (shape_under layout n))) (Err NodeSize)

-- I × m slots
abbrev pub slots_in : Shape → ℕ
slots_in g = g.internal * g.slots

abbrev pub counting_slots : Layout → ℕ → Result ℕ Decline
counting_slots layout n = cond (allowed layout) (cond (nat_lt 1048576 n) (Err TooManyRows) (Ok (slots_in (shape_under layout n)))) (Err NodeSize)
