-- What a strike list holds, and what it means above the index below. Assumes nothing.
use Rattle.std.specs.Prelude.{ℕ, List, length, Result}
use Rattle.indexes.specs.declared.decline.Decline.{Decline}
use Rattle.indexes.specs.Meaning.{Meaning}
use Rattle.layers.specs.declared.strike_list.StrikeList.{StrikeList}
use Rattle.layers.specs.Held.{numbers}
use Rattle.layers.specs.Table.{has, Within, strike_answer, restore_answer}
use Rattle.layers.specs.Sight.{hidden}

-- the numbers of the rows that a strike list has out of sight
abbrev pub out_of : {K I : Type 0} → StrikeList K I → List ℕ
out_of s = numbers s.struck

-- what a strike list means, above an index that means `means`
abbrev pub list_means : {K I : Type 0} → (I → Meaning K) → StrikeList K I → Meaning K
list_means means s = hidden (has (out_of s)) (means s.below)

-- how many rows the index below has
abbrev pub rows_below : {K I : Type 0} → (I → Meaning K) → StrikeList K I → ℕ
rows_below means s = length (means s.below).rows

-- what a strike list keeps: the index below is opened, and each number struck is one of its rows'
pub record Kept {K I : Type 0} (opened : I → Type 0) (means : I → Meaning K) (s : StrikeList K I) : Type 0 where
  pub opens : opened s.below
  pub within : Within (out_of s) (rows_below means s)

-- what striking or restoring a row on a strike list answers
abbrev pub strike_on : {K I : Type 0} → (I → Meaning K) → StrikeList K I → ℕ → Result Unit Decline
strike_on means s row = strike_answer (rows_below means s) (out_of s) row

abbrev pub restore_on : {K I : Type 0} → (I → Meaning K) → StrikeList K I → ℕ → Result Unit Decline
restore_on means s row = restore_answer (rows_below means s) (out_of s) row
