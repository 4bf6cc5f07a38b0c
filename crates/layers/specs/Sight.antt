-- Which rows are in sight. Assumes nothing.
use Rattle.std.specs.Prelude.{ℕ, zero, suc, ◌+◌, Bool, cond, List, [], ◌∷◌}
use Rattle.indexes.specs.Meaning.{Meaning}

-- the rows of a list, in order, whose numbers are not out of sight
abbrev pub sighted : {K : Type 0} → (ℕ → Bool) → List K → List K
sighted out [] = []
sighted out (x ∷ xs) = cond (out 0) (sighted (λ i. out (suc i)) xs) (x ∷ sighted (λ i. out (suc i)) xs)

-- how many numbers below n are out of sight
abbrev pub out_below : (ℕ → Bool) → ℕ → ℕ
out_below out zero = 0
out_below out (suc n) = cond (out 0) 1 0 + out_below (λ i. out (suc i)) n

-- what is meant with rows out of sight: comparisons and ceiling are those below
abbrev pub hidden : {K : Type 0} → (ℕ → Bool) → Meaning K → Meaning K
hidden out m = record { rows = sighted out m.rows; comparisons = m.comparisons; ceiling = m.ceiling }
