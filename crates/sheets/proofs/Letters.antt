-- A tag names a kind exactly if it is the kind's letter. Assumes nothing.
use Rattle.std.proofs.Common.{◌≡◌, ℕ, cond, eqb, ◌⊎◌, Some, None, Option, sym, refl, ap, ◌∙◌, inl, inr, ⊎_elim}
use Rattle.std.proofs.lemmas.Bool.{eqb-true, cases_Bool}
use Rattle.sheets.specs.declared.field.Kind.{Kind}
use Rattle.sheets.specs.declared.field.Kind.TheVariants.{Directory, Accounts, Labels, Strike, Restore, Place}
use Rattle.sheets.specs.Fields.{letter, kind}
use Rattle.std.proofs.lemmas.Option.{same_Some, none-some}

pub letter_kind : (k : Kind) → kind (letter k) ≡ Some k
letter_kind Directory = refl
letter_kind Accounts = refl
letter_kind Labels = refl
letter_kind Strike = refl
letter_kind Restore = refl
letter_kind Place = refl

-- one test of `kind`: it gave k, or the tests after it did
pick : (t : ℕ) (k j : Kind) (o : Option Kind) → cond (eqb t (letter j)) (Some j) o ≡ Some k → (letter k ≡ t) ⊎ (o ≡ Some k)
pick t k j o e =
    ⊎_elim
    (λ y. inl (ap letter (sym (same_Some j k (ap (λ b. cond b (Some j) o) (sym y) ∙ e))) ∙ sym (eqb-true t (letter j) y)))
    (λ n. inr (ap (λ b. cond b (Some j) o) (sym n) ∙ e))
    (cases_Bool (eqb t (letter j)))

pub kind_letter : (t : ℕ) (k : Kind) → kind t ≡ Some k → letter k ≡ t
kind_letter t k e =
    ⊎_elim (λ h. h) (λ e1.
    ⊎_elim (λ h. h) (λ e2.
    ⊎_elim (λ h. h) (λ e3.
    ⊎_elim (λ h. h) (λ e4.
    ⊎_elim (λ h. h) (λ e5.
    ⊎_elim (λ h. h) (λ e6. absurd (none-some k e6))
    (pick t k Place None e5)) (pick t k Restore _ e4)) (pick t k Strike _ e3)) (pick t k Labels _ e2)) (pick t k Accounts _ e1)) (pick t k Directory _ e)
