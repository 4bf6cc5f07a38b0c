-- What an index means, and what it answers. Assumes nothing.
use Rattle.std.specs.Prelude.{◌≡◌, ℕ, ◌+◌, ◌<◌, ◌≤◌, Bool, false, cond, not, List, [], ◌∷◌, length, Ok, Err, Result, nat_lt, slice_index_or}
use Rattle.indexes.specs.declared.index.Side.{Side}
use Rattle.indexes.specs.declared.index.Side.TheVariants.{At, After}
use Rattle.indexes.specs.declared.decline.Decline.{Decline}
use Rattle.indexes.specs.declared.decline.Decline.TheVariants.{NoSuchRow}

-- how many elements of a list pass a test
abbrev pub count : {K : Type 0} → (K → Bool) → List K → ℕ
count p [] = 0
count p (x ∷ xs) = cond (p x) 1 0 + count p xs

-- is a row passed when the key is sought? At: it comes before the key. After: the key does not come before it
abbrev pub passed : {K : Type 0} → (K → K → Bool) → K → Side → K → Bool
passed before key At row = before row key
passed before key After row = not (before key row)

-- the place of a key: how many of all rows are passed
abbrev pub place_of : {K : Type 0} → (K → K → Bool) → List K → K → Side → ℕ
place_of before rows key side = count (passed before key side) rows

-- no row comes before its predecessor
abbrev pub Ordered : {K : Type 0} → (K → K → Bool) → List K → Type 0
Ordered {K} before rows = (i : ℕ) (d : K) → i + 1 < length rows → before (slice_index_or rows (i + 1) d) (slice_index_or rows i d) ≡ false

-- an index means three things
pub record Meaning (K : Type 0) : Type 0 where
  pub rows : List K
  pub comparisons : K → Side → ℕ
  pub ceiling : ℕ

-- what holds of every meaning
pub record Meant {K : Type 0} (before : K → K → Bool) (m : Meaning K) : Type 0 where
  pub ordered : Ordered before m.rows
  pub few : length m.rows ≤ 1048576
  pub capped : (key : K) (side : Side) → m.comparisons key side ≤ m.ceiling
  pub modest : m.ceiling ≤ 1000000000

-- what a question for a row answers
abbrev pub row_answer : {K : Type 0} → List K → ℕ → Result Unit Decline
row_answer rows place = cond (nat_lt place (length rows)) (Ok tt) (Err NoSuchRow)
