-- What is printed for the bytes of a sheet. Assumes nothing.
use Rattle.std.specs.Prelude.{◌≡◌, ℕ, Bool, cond, List, [], ◌∷◌, Some, None, Ok, Err, string_bytes, Option, Result, String, nat_lt}
use Rattle.keys.specs.declared.account.Account.{Account}
use Rattle.keys.specs.Weights.{lighter}
use Rattle.indexes.specs.declared.decline.Decline.{Decline}
use Rattle.indexes.specs.declared.decline.Decline.TheVariants.{MalformedSheet}
use Rattle.indexes.specs.declared.layout.Layout.{Layout}
use Rattle.indexes.specs.declared.layout.Layout.TheVariants as layout
use Rattle.indexes.specs.Declines.{number_of}
use Rattle.directories.specs.Meanings.{bare}
use Rattle.directories.specs.Opening.{bare_opening}
use Rattle.layers.specs.Reference.{none_struck}
use Rattle.sheets.specs.declared.field.Kind.TheVariants.{Accounts}
use Rattle.sheets.specs.Fields.{Piece}
use Rattle.sheets.specs.Grammar.{is, Said, sheet}
use Rattle.sheets.specs.Said.{layout_of, account_spelled, label_spelled, keys_of, requests_of}
use Rattle.answers.specs.declared.refusal.Refusal.{Refusal}
use Rattle.answers.specs.declared.refusal.Refusal.TheVariants.{NoMemory, NoDirectory}
use Rattle.answers.specs.declared.letter.Letter.{Letter}
use Rattle.answers.specs.declared.letter.Letter.TheVariants as letter
use Rattle.answers.specs.Letters.{code}
use Rattle.answers.specs.Text.{line, lines}

-- the one line of what is declined
abbrev pub decline_line : Letter → Decline → List ℕ
decline_line letter why = line (code letter) (number_of why ∷ [])

-- the lines, or that of the column where its opening was declined
abbrev pub opened_text : Letter → Result Unit Decline → List ℕ → List ℕ
opened_text letter (Ok x) text = text
opened_text letter (Err why) text = decline_line letter why

-- the text over a bare column of keys of w bytes
abbrev pub column_text : {K : Type 0} → (K → K → Bool) → ℕ → (List ℕ → K) → Letter → List ℕ → List Piece → List ℕ
column_text before w spelled letter column calls =
    let rows = keys_of w spelled column in
    opened_text letter (bare_opening before rows) (lines before (bare before rows) none_struck (requests_of w spelled calls))

-- account numbers are ordered by size
abbrev pub smaller : Account → Account → Bool
smaller a b = nat_lt a.number b.number

-- the text over a bare column: K and account numbers, or T and labels
abbrev pub bare_text : Said → List ℕ
bare_text s =
    cond (is s.column.kind Accounts)
    (column_text smaller 4 account_spelled letter.Accounts s.column.value s.calls)
    (column_text lighter 16 label_spelled letter.Labels s.column.value s.calls)

-- the text over a column of a layout: only a bare one is answered
abbrev pub text_under : Layout → Said → Option (List ℕ)
text_under layout.Bare s = Some (bare_text s)
text_under (layout.Full m) s = None
text_under (layout.Level m) s = None

-- the text of a sheet, or X 12 where there is none
abbrev pub text_of : Option Said → Option (List ℕ)
text_of None = Some (decline_line letter.Malformed MalformedSheet)
text_of (Some s) = text_under (layout_of s.directory.value) s

-- the text that is printed for bytes, if they are answered
abbrev pub printed : List ℕ → Option (List ℕ)
printed bs = text_of (sheet bs)

-- what is owed for bytes: their text, or that there is none; without memory nothing is said
abbrev pub Answers : {A : Type 0} → List ℕ → Result (String A) Refusal → Type 0
Answers bs (Ok text) = printed bs ≡ Some (string_bytes text)
Answers bs (Err NoDirectory) = printed bs ≡ None
Answers bs (Err NoMemory) = Unit {0}
