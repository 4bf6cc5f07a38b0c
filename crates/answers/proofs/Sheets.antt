-- The text of a sheet that was read.
use Rattle.std.proofs.Common.{◌≡◌, ℕ, Bool, cond, List, Some, None, Ok, Option, sym, refl, ap, ◌∙◌, arith}
use Rattle.std.specs.Option.{option_map}
use Rattle.keys.specs.Weights.{lighter}
use Rattle.indexes.specs.declared.layout.Layout.{Layout}
use Rattle.indexes.specs.Meaning.{Meaning}
use Rattle.directories.specs.Meanings.{bare}
use Rattle.directories.specs.Opening.{bare_opening}
use Rattle.layers.specs.Reference.{none_struck}
use Rattle.sheets.specs.declared.field.Kind.TheVariants.{Accounts, Labels}
use Rattle.sheets.specs.declared.field.Part.{Part}
use Rattle.sheets.specs.declared.request.Request.{Request}
use Rattle.sheets.specs.declared.sheet.Sheet.{Sheet}
use Rattle.sheets.specs.Fields.{Piece, piece}
use Rattle.sheets.specs.Grammar.{is, Said, state, left, sheet}
use Rattle.sheets.specs.Viewed.{col, viewed}
use Rattle.sheets.specs.Said.{layout_of, account_spelled, label_spelled, keys_of, requests_of}
use Rattle.std.proofs.lemmas.Option.{same_Some}
use Rattle.sheets.proofs.Options.{bind_parts}
use Rattle.answers.specs.declared.letter.Letter.{Letter}
use Rattle.answers.specs.declared.letter.Letter.TheVariants as letter
use Rattle.answers.specs.Printed.{opened_text, column_text, smaller, bare_text, text_under, text_of, printed}
use Rattle.answers.specs.Text.{lines}

-- a reading that gave one: what it says is what the bytes say
pub some_sheet : (bs : List ℕ) (r : Sheet) → option_map viewed (Some r) ≡ option_map Some (sheet bs) → (s : Said) × (viewed r ≡ Some s) × (sheet bs ≡ Some s)
some_sheet bs r e = some_of (sheet bs) e
  where
    some_of : (o : Option Said) → option_map viewed (Some r) ≡ option_map Some o → (s : Said) × (viewed r ≡ Some s) × (o ≡ Some s)
    some_of None e = let z : ◌≡◌ {A = ℕ} 0 1 = cc in absurd (omega arith)
    some_of (Some s) e = (s, (let f : viewed r ≡ Some s = cc in f), refl)

-- the column and the layout of a sheet that says s
pub says_column : (r : Sheet) (s : Said) → viewed r ≡ Some s → s.column ≡ col r.column
says_column r s e = let p = bind_parts (left (state r.calls)) _ s e in ap (λ (t : Said). t.column) (sym (same_Some _ s p.2))

pub says_layout : (r : Sheet) (s : Said) → viewed r ≡ Some s → s.directory.value ≡ r.directory.bytes.now
says_layout r s e = let p = bind_parts (left (state r.calls)) _ s e in ap (λ (t : Said). t.directory.value) (sym (same_Some _ s p.2))

-- the text of a sheet that is read, by its layout
pub text_by : (bs : List ℕ) (r : Sheet) (s : Said) (layout : Layout) → sheet bs ≡ Some s → viewed r ≡ Some s → layout ≡ layout_of r.directory.bytes.now → printed bs ≡ text_under layout s
text_by bs r s layout e says is = ap text_of e ∙ ap (λ l. text_under l s) (ap layout_of (says_layout r s says) ∙ sym is)

-- the text over a column that opened, once it is clear what was read and what the list above it means
pub opened_lines : {K : Type 0} (before : K → K → Bool) (w : ℕ) (spelled : List ℕ → K) (letter : Letter) (column : List ℕ) (calls : List Piece) (rows : List K) (asked : List (Request K)) (m : Meaning K) (out : ℕ → Bool) (u : Unit {0})
    → rows ≡ keys_of w spelled column → Ok u ≡ bare_opening before rows → m ≡ bare before rows → out ≡ none_struck → asked ≡ requests_of w spelled calls
    → lines before m out asked ≡ column_text before w spelled letter column calls
opened_lines before w spelled letter column calls rows asked m out u read opened means none says =
    (λ j. lines before (means j) (none j) (says j))
    ∙ ap (λ o. opened_text letter o (lines before (bare before rows) none_struck (requests_of w spelled calls))) opened
    ∙ ap (λ r. opened_text letter (bare_opening before r) (lines before (bare before r) none_struck (requests_of w spelled calls))) read

-- the text of a sheet by its column
abbrev text_by_column : Said → Piece → List ℕ
text_by_column s c =
    cond (is c.kind Accounts) (column_text smaller 4 account_spelled letter.Accounts c.value s.calls) (column_text lighter 16 label_spelled letter.Labels c.value s.calls)

pub over_accounts : (s : Said) (p : Part) → s.column ≡ piece Accounts p → column_text smaller 4 account_spelled letter.Accounts p.bytes.now s.calls ≡ bare_text s
over_accounts s p e = ap (text_by_column s) (sym e)

pub over_labels : (s : Said) (p : Part) → s.column ≡ piece Labels p → column_text lighter 16 label_spelled letter.Labels p.bytes.now s.calls ≡ bare_text s
over_labels s p e = ap (text_by_column s) (sym e)
