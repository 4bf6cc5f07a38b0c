-- The byte of each letter. Assumes nothing.
use Rattle.std.specs.Prelude.{ℕ}
use Rattle.answers.specs.declared.letter.Letter.{Letter}
use Rattle.answers.specs.declared.letter.Letter.TheVariants as letter

abbrev pub code : Letter → ℕ
code letter.Malformed = 88
code letter.Accounts = 75
code letter.Labels = 84
code letter.Strike = 83
code letter.Restore = 82
code letter.Place = 81
