-- What a table adds up, and what stands in its columns.
use Rattle.std.specs.Prelude.{ℕ, ◌+◌, ◌-◌, ◌^◌, List, min}
use Rattle.std.specs.Fmt.{format_spec, styled_text, styled_decimal}
use Rattle.trials.specs.declared.tally.Tally.{Tally}

-- nothing was tried
abbrev pub none : Tally
none = record { tried = 0; differ = 0 }

-- two tallies in one; both numbers stop at the largest of 32 bits
abbrev pub sum_of : Tally → Tally → Tally
sum_of x y = record { tried = min (x.tried + y.tried) (2 ^ 32 - 1); differ = min (x.differ + y.differ) (2 ^ 32 - 1) }

-- a text from the left on, and a number up to the right, in a column of so many characters
abbrev pub to_left : ℕ → List ℕ → List ℕ
to_left width text = styled_text (format_spec 32 1 0 width (2 ^ 64 - 1)) text

abbrev pub to_right : ℕ → ℕ → List ℕ
to_right width number = styled_decimal (format_spec 32 3 0 width (2 ^ 64 - 1)) number
