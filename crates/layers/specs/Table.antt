-- The table of struck rows: which lists it may hold, what is asked of them and how they change. Assumes nothing.
use Rattle.std.specs.Prelude.{◌≡◌, ℕ, ◌+◌, ◌<◌, Bool, true, false, cond, ◌||◌, List, [], ◌∷◌, map, length, Ok, Err, Result, ◌==◌, nat_le, nat_lt, slice_index}
use Rattle.std.specs.List.{insert, remove}
use Rattle.indexes.specs.declared.decline.Decline.{Decline}
use Rattle.indexes.specs.declared.decline.Decline.TheVariants.{NoSuchRow, AlreadySo, ListFull}
use Rattle.layers.specs.declared.table.StruckRow.{StruckRow}

-- an entry that stands for no row
abbrev pub none : StruckRow
none = record { number = 0 }

-- the numbers of struck rows
abbrev pub listed : List StruckRow → List ℕ
listed entries = map (λ e. e.number) entries

-- each number is below the later ones
abbrev pub Ascending : List ℕ → Type 0
Ascending l = (i j : ℕ) → i < j → j < length l → slice_index l i < slice_index l j

-- is the number among those of the list?
abbrev pub has : List ℕ → ℕ → Bool
has [] r = false
has (x ∷ xs) r = x == r || has xs r

-- how many numbers of the list are below the number?
abbrev pub under : List ℕ → ℕ → ℕ
under [] r = 0
under (x ∷ xs) r = cond (nat_lt x r) 1 0 + under xs r

-- where a number of the list stands, or where it would go: behind those below it
abbrev pub search_answer : List ℕ → ℕ → Result ℕ ℕ
search_answer l row = cond (has l row) (Ok (under l row)) (Err (under l row))

-- where a struck row stands, and where one that is not would go; or that it is so already
abbrev pub position_answer : List ℕ → ℕ → Result ℕ Decline
position_answer l row = cond (has l row) (Ok (under l row)) (Err AlreadySo)

abbrev pub gap_answer : List ℕ → ℕ → Result ℕ Decline
gap_answer l row = cond (has l row) (Err AlreadySo) (Ok (under l row))

-- each number of the list is below n
abbrev pub Within : List ℕ → ℕ → Type 0
Within l n = (r : ℕ) → has l r ≡ true → r < n

-- the answers to putting a number in and to taking it out
abbrev pub insert_answer : List ℕ → ℕ → Result Unit Decline
insert_answer l row = cond (has l row) (Err AlreadySo) (cond (nat_le 64 (length l)) (Err ListFull) (Ok tt))

abbrev pub remove_answer : List ℕ → ℕ → Result Unit Decline
remove_answer l row = cond (has l row) (Ok tt) (Err AlreadySo)

-- the list after such an answer: a new number goes in its place, a declined call changes nothing
abbrev pub with_number : Result Unit Decline → List ℕ → ℕ → List ℕ
with_number (Ok u) l row = insert l (under l row) row
with_number (Err d) l row = l

abbrev pub without_number : Result Unit Decline → List ℕ → ℕ → List ℕ
without_number (Ok u) l row = remove l (under l row)
without_number (Err d) l row = l

-- the answer of a row number above n rows
abbrev pub number_answer : ℕ → ℕ → Result Unit Decline
number_answer n row = cond (nat_lt row n) (Ok tt) (Err NoSuchRow)

-- strike and restore above n rows
abbrev pub strike_answer : ℕ → List ℕ → ℕ → Result Unit Decline
strike_answer n l row = cond (nat_lt row n) (insert_answer l row) (Err NoSuchRow)

abbrev pub restore_answer : ℕ → List ℕ → ℕ → Result Unit Decline
restore_answer n l row = cond (nat_lt row n) (remove_answer l row) (Err NoSuchRow)
