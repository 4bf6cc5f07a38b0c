-- How a place is sought in a node, round by round. Assumes nothing.
use Rattle.std.specs.Prelude.{◌≡◌, ℕ, zero, suc, ◌+◌, ◌-◌, ◌/◌, ◌<◌, ◌≤◌, Bool, true, false, cond, List, length, nat_lt, slice_index_or}
use Rattle.std.specs.Int.Digits.{digits_of}
use Rattle.indexes.specs.declared.index.Side.{Side}
use Rattle.indexes.specs.declared.index.Counted.{Counted}
use Rattle.indexes.specs.Meaning.{passed, place_of, Ordered}

-- how many binary digits a number has: none for 0
unfoldable pub bits : ℕ → ℕ
bits n = length (digits_of 2 n)

-- what it comes to: a place, and one comparison a round
pub record Sought : Type 0 where
  pub place : ℕ
  pub rounds : ℕ

abbrev pub middle : ℕ → ℕ → ℕ
middle lo hi = (lo + hi) / 2

abbrev pub one_more : Sought → Sought
one_more s = record { place = s.place; rounds = 1 + s.rounds }

-- halving the places from lo to hi, of which there are at most as many as the first number;
-- `pass` tells whether the row at a place is passed
unfoldable pub halving : (ℕ → Bool) → ℕ → ℕ → ℕ → Sought
halving pass zero lo hi = record { place = lo; rounds = 0 }
halving pass (suc f) lo hi =
    cond (nat_lt lo hi)
    (one_more (cond (pass (middle lo hi)) (halving pass f (middle lo hi + 1) hi) (halving pass f lo (middle lo hi))))
    (record { place = lo; rounds = 0 })

-- is the row at a place passed? Past the end the key itself stands for a row
abbrev pub passed_at : {K : Type 0} → (K → K → Bool) → List K → K → Side → ℕ → Bool
passed_at before rows key side i = passed before key side (slice_index_or rows i key)

-- the place of a key sought in all the rows
abbrev pub sought : {K : Type 0} → (K → K → Bool) → List K → K → Side → Sought
sought before rows key side = halving (passed_at before rows key side) (length rows) 0 (length rows)

-- a turning point among n places: the one before it is passed, and the one at it is not
pub record Boundary (pass : ℕ → Bool) (n r : ℕ) : Type 0 where
  pub within : r ≤ n
  pub passed_below : 0 < r → pass (r - 1) ≡ true
  pub not_at : r < n → pass r ≡ false

-- every place below r passes, and every other place below n does not
pub record Cut (pass : ℕ → Bool) (n r : ℕ) : Type 0 where
  pub within : r ≤ n
  pub below : (i : ℕ) → i < r → pass i ≡ true
  pub above : (i : ℕ) → r ≤ i → i < n → pass i ≡ false

-- what seeking a key in rows comes to: exactly the rounds above, and what follows of them
pub record Seeks {K : Type 0} (before : K → K → Bool) (rows : List K) (key : K) (side : Side) (r : Counted ℕ) : Type 0 where
  pub place : r.answer ≡ (sought before rows key side).place
  pub comparisons : r.comparisons ≡ (sought before rows key side).rounds
  -- whatever the rows, one that is passed stands before the place, and one that is not stands at it
  pub boundary : Boundary (passed_at before rows key side) (length rows) r.answer
  -- rows in order: the place is the count of all that are passed
  pub counted : Ordered before rows → r.answer ≡ place_of before rows key side
  pub few : r.comparisons ≤ bits (length rows)
