-- The reference by which a strike list is measured: a set of row numbers, fed the calls' arguments and the meaning of
-- the index below, and nothing of the list's own table. Assumes nothing.
use Rattle.std.specs.Prelude.{◌≡◌, ℕ, Bool, true, false, cond, List, length, Ok, Err, Result, is_ok, ◌==◌, nat_le, nat_lt, slice_index_or}
use Rattle.indexes.specs.declared.index.Counted.{Counted}
use Rattle.indexes.specs.declared.decline.Decline.{Decline}
use Rattle.indexes.specs.declared.decline.Decline.TheVariants.{NoSuchRow, AlreadySo, ListFull}
use Rattle.indexes.specs.Meaning.{Meaning, place_of}
use Rattle.layers.specs.declared.calls.Call.{Call}
use Rattle.layers.specs.declared.calls.Call.TheVariants as call
use Rattle.layers.specs.declared.calls.Answer.{Answer}
use Rattle.layers.specs.declared.calls.Answer.TheVariants as answer
use Rattle.layers.specs.declared.strike_list.StrikeList.{StrikeList}
use Rattle.layers.specs.Sight.{sighted, out_below}
use Rattle.layers.specs.Table.{has}
use Rattle.layers.specs.Views.{out_of}

-- a new list has nothing struck
abbrev pub none_struck : ℕ → Bool
none_struck r = false

abbrev pub counted : ℕ → ℕ → Counted ℕ
counted a n = record { answer = a; comparisons = n }

-- an answer, or why there is none
abbrev pub Reply : Type 0 → Type 0
Reply K = Result (Answer K) Decline

-- what a strike of r is answered above n rows, with the numbers of `out` in the set
abbrev pub strike_reply : {K : Type 0} → ℕ → (ℕ → Bool) → ℕ → Reply K
strike_reply n out r =
    cond (nat_lt r n)
    (cond (out r) (Err AlreadySo) (cond (nat_le 64 (out_below out n)) (Err ListFull) (Ok answer.Done)))
    (Err NoSuchRow)

-- what a restore of r is answered
abbrev pub restore_reply : {K : Type 0} → ℕ → (ℕ → Bool) → ℕ → Reply K
restore_reply n out r = cond (nat_lt r n) (cond (out r) (Ok answer.Done) (Err AlreadySo)) (Err NoSuchRow)

-- what the row at a place is answered, over the rows in sight, to a caller who holds a key
abbrev pub row_reply : {K : Type 0} → List K → ℕ → K → Reply K
row_reply rows i held = cond (nat_lt i (length rows)) (Ok (answer.Key (slice_index_or rows i held))) (Err NoSuchRow)

-- what a call is answered above an index that means m, while the numbers of `out` are in the set
abbrev pub reply : {K : Type 0} → (K → K → Bool) → Meaning K → (ℕ → Bool) → Call K → Reply K
reply before m out (call.Strike r) = strike_reply (length m.rows) out r
reply before m out (call.Restore r) = restore_reply (length m.rows) out r
reply before m out call.Length = Ok (answer.Rows (length (sighted out m.rows)))
reply before m out (call.Row i held) = row_reply (sighted out m.rows) i held
reply before m out (call.Place key side) =
    Ok (answer.Place (counted (place_of before (sighted out m.rows) key side) (m.comparisons key side)))

-- the set once a call was accepted: a struck number goes in, a restored one comes out
abbrev pub fed : {K : Type 0} → (ℕ → Bool) → Call K → ℕ → Bool
fed out (call.Strike r) q = cond (q == r) true (out q)
fed out (call.Restore r) q = cond (q == r) false (out q)
fed out call.Length q = out q
fed out (call.Row i held) q = out q
fed out (call.Place key side) q = out q

-- the set after a call: a declined one changes nothing
abbrev pub set_after : {K : Type 0} → (K → K → Bool) → Meaning K → (ℕ → Bool) → Call K → ℕ → Bool
set_after before m out c q = cond (is_ok (reply before m out c)) (fed out c q) (out q)

-- a strike's or a restore's result, as an answer
abbrev pub as_answer : {K : Type 0} → Result (Unit {0}) Decline → Reply K
as_answer (Ok u) = Ok answer.Done
as_answer (Err d) = Err d

-- one call on a strike list: it was answered as by the reference, the set of struck numbers is the reference's, and the
-- index below is as it was
pub record Step {K I : Type 0} (before : K → K → Bool) (means : I → Meaning K) (list : StrikeList K I) (c : Call K) (a : Reply K) (left : StrikeList K I) : Type 0 where
  pub answer : a ≡ reply before (means list.below) (has (out_of list)) c
  pub set : has (out_of left) ≡ set_after before (means list.below) (has (out_of list)) c
  pub below : left.below ≡ list.below
