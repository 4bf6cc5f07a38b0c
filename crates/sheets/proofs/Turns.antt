-- A reader that is asked for a field takes a step of the grammar, so it hands on the fields that the grammar says. Assumes nothing.
use Rattle.std.proofs.Common.{◌≡◌, ℕ, zero, suc, ◌<◌, ◌≤◌, [], ◌∷◌, length, is_some, true, Some, None, Option, unwrap_or, sym, refl, ap, ◌∙◌, subst, arith}
use Rattle.std.proofs.lemmas.Bool.Decides.{nat_tests}
use Rattle.std.proofs.lemmas.Iterator.{YieldsList}
use Rattle.std.proofs.lemmas.Option.{same_Some, none-some}
use Rattle.std.specs.Iterator.{AlwaysYields}
use Rattle.std.specs.Option.{option_map}
use Rattle.sheets.specs.declared.field.Field.{Field}
use Rattle.sheets.specs.declared.reader.Reader.{Reader}
use Rattle.sheets.specs.Fields.{Piece, told}
use Rattle.sheets.specs.Grammar.{Step, step, State, state, Reads, left, turns, handed}
use Rattle.sheets.proofs.Left.{some_step}
use Rattle.sheets.proofs.Steps.{taken, shorter}

went_by : (o : Option Step) (q : State) (f : Piece) (q' : State) → Some f ≡ option_map (λ t. t.read) o → q' ≡ unwrap_or (option_map (λ t. t.then) o) q → Some (record { read = f; then = q' }) ≡ o
went_by None q f q' e h = absurd (none-some f (sym e))
went_by (Some t) q f q' e h = let r = same_Some f t.read e in (λ i. Some (record { read = r i; then = h i }))

-- the reader gave a field and went on: a step
pub went : {r r' : Reader} {f : Field} → Reads r (Some f) r' → Some (record { read = told f; then = state r' }) ≡ step (state r)
went {r} {r'} {f} h = went_by (step (state r)) (state r) (told f) (state r') h.field h.reader

stayed_by : (o : Option Step) → None ≡ option_map (λ t. t.read) o → None ≡ o
stayed_by None e = refl
stayed_by (Some t) e = absurd (none-some t.read e)

-- the reader gave none: no step
pub stayed : {r r' : Reader} → Reads r None r' → None ≡ step (state r)
stayed {r} h = stayed_by (step (state r)) h.field

less : {r r' : Reader} {f : Field} → Reads r (Some f) r' → length r'.rest.now < length r.rest.now
less {r} {r'} h = shorter (taken r.stage r.whole r.rest.now _ (sym (went h)))

-- a reader that went on is well formed or not, as it was
pub reads_on : {r r' : Reader} (o : Option Field) → Reads r o r' → is_some o ≡ true → is_some (left (state r')) ≡ is_some (left (state r))
reads_on None h e = absurd (grind (arith, nat_tests))
reads_on {r} {r'} (Some f) h e = some_step (state r) (record { read = told f; then = state r' }) (went h)

-- as many turns as there are bytes left are enough
turns_by : (n : ℕ) (r : Reader) → length r.rest.now ≤ n → AlwaysYields Reads told r (turns n (state r))
turns_by zero r h = λ f r' k. let fewer = less k in absurd (omega arith)
turns_by (suc n) r h = by (step (state r)) refl (turns_by n)
  where
    by : (o : Option Step) → o ≡ step (state r) → ((r' : Reader) → length r'.rest.now ≤ n → AlwaysYields Reads told r' (turns n (state r'))) → AlwaysYields Reads told r (unwrap_or (option_map (λ t. t.read ∷ turns n t.then) o) [])
    by None e more = λ f r' k. none-some _ (e ∙ sym (went k))
    by (Some t) e more = (
      (λ r' k. none-some t (stayed k ∙ sym e)),
      λ f r' k.
          let same = same_Some _ t (went k ∙ sym e) in
          let fewer = less k in
          (ap (λ (u : Step). u.read) same, subst (λ (u : Step). AlwaysYields Reads told r' (turns n u.then)) same (more r' (omega arith))),
    )

pub yields_handed : (r : Reader) → YieldsList Reads told r (handed (state r))
yields_handed r = record { runs = turns_by (length r.rest.now) r (omega arith) }
