-- What a byte of a label weighs, and the order of labels by weight. Assumes nothing.
use Rattle.std.specs.Prelude.{◌≡◌, ℕ, zero, suc, ◌-◌, ◌<◌, Bool, true, false, cond, ◌&&◌, ◌||◌, ◌≢◌, Some, None, Option, nat_eq, nat_le, nat_lt, slice_index}
use Rattle.keys.specs.declared.label.Label.{Label}

-- a lowercase letter, 97 to 122, weighs 32 less than its value, as its uppercase letter does; any other byte weighs its value
abbrev pub weight_of : ℕ → ℕ
weight_of byte = cond (nat_le 97 byte && nat_le byte 122) (byte - 32) byte

-- what the byte at a place of a label weighs
unfoldable pub weight_at_lem : Label → ℕ → ℕ
weight_at_lem label place = weight_of (slice_index label.bytes place)

-- does the test pass at some number below n?
abbrev pub some_below : ℕ → (ℕ → Bool) → Bool
some_below zero test = false
some_below (suc n) test = test n || some_below n test

-- does the test pass at each number below n?
abbrev pub each_below : ℕ → (ℕ → Bool) → Bool
each_below zero test = true
each_below (suc n) test = test n && each_below n test

-- at some place below n there is less in v than in w, and at each place before it they have the same
unfoldable pub less_first : ℕ → (ℕ → ℕ) → (ℕ → ℕ) → Bool
less_first n v w = some_below n (λ i. nat_lt (v i) (w i) && each_below i (λ j. nat_eq (v j) (w j)))

-- the order of labels: at some of the sixteen places a weighs less than b, and at each place before it the same
abbrev pub lighter : Label → Label → Bool
lighter a b = less_first 16 (weight_at_lem a) (weight_at_lem b)

-- a and b weigh the same at each place below n
abbrev pub SameBelow : ℕ → Label → Label → Type 0
SameBelow n a b = (j : ℕ) → j < n → weight_at_lem a j ≡ weight_at_lem b j

-- the first place where a and b weigh differently, if there is one
abbrev pub FirstDifference : Label → Label → Option ℕ → Type 0
FirstDifference a b None = SameBelow 16 a b
FirstDifference a b (Some i) = (i < 16) × (weight_at_lem a i ≢ weight_at_lem b i) × SameBelow i a b

-- does a weigh less than b at that place, if there is one?
abbrev pub lighter_at : Label → Label → Option ℕ → Bool
lighter_at a b None = false
lighter_at a b (Some i) = nat_lt (weight_at_lem a i) (weight_at_lem b i)
