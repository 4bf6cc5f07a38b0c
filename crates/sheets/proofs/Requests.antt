-- What a sheet asks, taken from its fields one by one.
use Rattle.std.proofs.Common.{◌≡◌, ℕ, suc, List, [], ◌∷◌, length, Some, refl, ap, ◌∙◌}
use Rattle.std.specs.List.{cons_option}
use Rattle.std.specs.Option.{option_map}
use Rattle.std.specs.Int.Digits.{number_from_digits}
use Rattle.std.proofs.lemmas.Bool.{eq-eqb}
use Rattle.indexes.specs.declared.index.Side.TheVariants.{At, After}
use Rattle.sheets.specs.declared.field.Kind.{Kind}
use Rattle.sheets.specs.declared.request.Request.{Request}
use Rattle.sheets.specs.declared.request.Request.TheVariants as request
use Rattle.sheets.specs.declared.sheet.Sheet.{Sheet}
use Rattle.sheets.specs.Fields.{Piece}
use Rattle.sheets.specs.Grammar.{when, Said, state, left}
use Rattle.sheets.specs.Viewed.{viewed}
use Rattle.sheets.specs.Said.{request_as, requests_of}
use Rattle.sheets.specs.Written.{Calls, strikes, restores, seeks_at, seeks_after, CallsOver}
use Rattle.std.proofs.lemmas.Option.{same_Some}
use Rattle.sheets.proofs.Options.{bind_parts}

-- the calls of a sheet are those from its reader on
pub calls_left : (sheet : Sheet) (s : Said) → viewed sheet ≡ Some s → left (state sheet.calls) ≡ Some s.calls
calls_left sheet s e =
    let p = bind_parts (left (state sheet.calls)) _ s e in
    p.1 ∙ ap (λ (t : Said). Some t.calls) (same_Some _ s p.2)

module _ {K : Type 0} (w : ℕ) (spelled : List ℕ → K) where
  -- a call over keys of this width asks one thing
  asks : (k : Kind) (v : List ℕ) → Calls w k v → (r : Request K) × (request_as w spelled k v ≡ Some r)
  asks _ v (strikes e) = (request.Strike (number_from_digits 256 v), ap (λ b. option_map request.Strike (when b (number_from_digits 256 v))) (eq-eqb (length v) 4 e))
  asks _ v (restores e) = (request.Restore (number_from_digits 256 v), ap (λ b. option_map request.Restore (when b (number_from_digits 256 v))) (eq-eqb (length v) 4 e))
  asks _ (_ ∷ key) (seeks_at e) = (request.Place At (spelled key), ap (λ b. option_map (request.Place At) (when b (spelled key))) (eq-eqb (length key) w e))
  asks _ (_ ∷ key) (seeks_after e) = (request.Place After (spelled key), ap (λ b. option_map (request.Place After) (when b (spelled key))) (eq-eqb (length key) w e))

  pub asks_each : (fs : List Piece) → CallsOver w fs → length (requests_of w spelled fs) ≡ length fs
  asks_each [] all = refl
  asks_each (f ∷ fs) all =
      let a = asks f.kind f.value all.0 in
      ap (λ o. length (cons_option o (requests_of w spelled fs))) a.1 ∙ ap suc (asks_each fs all.1)
