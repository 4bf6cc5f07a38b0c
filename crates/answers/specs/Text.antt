-- The lines of a run: what each answer tells, in decimal. Assumes nothing.
use Rattle.std.specs.Prelude.{ℕ, Bool, List, [], ◌∷◌, ◌++◌, Ok, Err, decimal}
use Rattle.indexes.specs.Declines.{number_of}
use Rattle.indexes.specs.Meaning.{Meaning}
use Rattle.layers.specs.declared.calls.Answer.TheVariants as answer
use Rattle.layers.specs.declared.calls.Call.{Call}
use Rattle.layers.specs.declared.calls.Call.TheVariants as call
use Rattle.layers.specs.Reference.{Reply, reply, set_after}
use Rattle.sheets.specs.declared.request.Request.{Request}
use Rattle.sheets.specs.declared.request.Request.TheVariants as request
use Rattle.answers.specs.declared.letter.Letter.{Letter}
use Rattle.answers.specs.declared.letter.Letter.TheVariants as letter
use Rattle.answers.specs.Letters.{code}

-- numbers in decimal, each behind a space
abbrev pub spaced : List ℕ → List ℕ
spaced [] = []
spaced (n ∷ ns) = 32 ∷ (decimal n ++ spaced ns)

-- a line: a letter, numbers, and a line feed
abbrev pub line : ℕ → List ℕ → List ℕ
line letter ns = letter ∷ (spaced ns ++ 10 ∷ [])

-- what an answer tells: its decline's number or 0, and then its values
abbrev pub told : {K : Type 0} → Reply K → List ℕ
told (Err why) = number_of why ∷ []
told (Ok answer.Done) = 0 ∷ []
told (Ok (answer.Rows n)) = 0 ∷ n ∷ []
told (Ok (answer.Key k)) = 0 ∷ []
told (Ok (answer.Place p)) = 0 ∷ p.answer ∷ p.comparisons ∷ []

-- the call that a request of a sheet makes
abbrev pub call_of : {K : Type 0} → Request K → Call K
call_of (request.Strike r) = call.Strike r
call_of (request.Restore r) = call.Restore r
call_of (request.Place side key) = call.Place key side

-- the letter that its line begins with
abbrev pub letter_of : {K : Type 0} → Request K → Letter
letter_of (request.Strike r) = letter.Strike
letter_of (request.Restore r) = letter.Restore
letter_of (request.Place side key) = letter.Place

-- the lines of requests, each answered by the reference above an index that means m, with the numbers of `out` struck
abbrev pub lines : {K : Type 0} → (K → K → Bool) → Meaning K → (ℕ → Bool) → List (Request K) → List ℕ
lines before m out [] = []
lines before m out (r ∷ rs) =
    line (code (letter_of r)) (told (reply before m out (call_of r))) ++ lines before m (set_after before m out (call_of r)) rs
