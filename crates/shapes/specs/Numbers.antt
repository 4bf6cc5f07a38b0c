-- The numbers of a directory over n rows, whose nodes have m slots and w children. Assumes nothing.
use Rattle.std.specs.Prelude.{ℕ, zero, suc, ◌+◌, ◌-◌, ◌/◌, ◌^◌, ◌≤◌, min, true, false, cond, nat_le, nat_lt}
use Rattle.shapes.specs.declared.shape.Shape.{Shape}

-- N: n / m rounded up
abbrev pub chunks_of : (n m : ℕ) → ℕ
chunks_of n m = (n + (m - 1)) / m

-- the least number from k on whose power of w is at least N, sought for at most f steps
unfoldable pub least : (w N f k : ℕ) → ℕ
least w N zero k = k
least w N (suc f) k = elim (nat_lt (w ^ k) N) [ true ↦ least w N f (suc k) | false ↦ k ]

-- k: the least number with w ^ k ≥ N; it is no larger than N
abbrev pub levels_of : (w N : ℕ) → ℕ
levels_of w N = least w N N 0

-- U = (w ^ k - 1) / (w - 1) and L = (w ^ k - N) / (w - 1), both 0 where N is at most 1; I = U - L and x = N - L
unfoldable pub shape : (n m w : ℕ) → Shape
shape n m w =
    let N : ℕ = chunks_of n m in
    let k : ℕ = levels_of w N in
    let U : ℕ = cond (nat_le N 1) 0 ((w ^ k - 1) / (w - 1)) in
    let L : ℕ = cond (nat_le N 1) 0 ((w ^ k - N) / (w - 1)) in
    record { rows = n; slots = m; children = w; chunks = N; levels = k; upper = U; late = L; internal = U - L; first = N - L }

-- the shape of a bare column: one chunk of all its rows, or none where it has no rows, and no internal node
abbrev pub one_chunk : ℕ → Shape
one_chunk n = record { rows = n; slots = n; children = 2; chunks = min n 1; levels = 0; upper = 0; late = 0; internal = 0; first = min n 1 }

-- rows, slots and children for which all the numbers are small
pub record Measurable (n m w : ℕ) : Type 0 where
  pub some : 1 ≤ m
  pub few : m ≤ 64
  pub two : 2 ≤ w
  pub fits : w ≤ m + 1
  pub small : n ≤ 1048576
