-- The last number of a line, and the lines request by request.
use Rattle.std.proofs.Common.{◌≡◌, ℕ, ◌+◌, ◌<◌, ◌≤◌, Bool, List, [], ◌∷◌, ◌++◌, length, get_or, drop, decimal, sym, ap, ◌∙◌, append_assoc, append-nil, add-one, drop-cons}
use Rattle.std.proofs.lemmas.List.{drop_all}
use Rattle.indexes.specs.Meaning.{Meaning}
use Rattle.layers.specs.Reference.{Reply, reply, set_after}
use Rattle.sheets.specs.declared.request.Request.{Request}
use Rattle.answers.specs.Letters.{code}
use Rattle.answers.specs.Text.{spaced, line, told, call_of, letter_of, lines}

-- the last number of a line, as it is printed
pub spaced_last : (n : ℕ) → spaced (n ∷ []) ≡ 32 ∷ decimal n
spaced_last n = ap (λ l. 32 ∷ l) (append-nil (decimal n))

module _ {K : Type 0} (before : K → K → Bool) (m : Meaning K) where
  -- one request more is carried out, and its line written
  pub lines_more : (rs : List (Request K)) (i : ℕ) (r : Request K) (a : Reply K) (out out' : ℕ → Bool) (done text : List ℕ)
      → i < length rs → r ≡ get_or rs i r → a ≡ reply before m out (call_of r) → out' ≡ set_after before m out (call_of r) → text ≡ done ++ line (code (letter_of r)) (told a)
      → text ++ lines before m out' (drop (i + 1) rs) ≡ done ++ lines before m out (drop i rs)
  lines_more rs i r a out out' done text lt here said set e =
      let rest : drop i rs ≡ r ∷ drop (i + 1) rs = drop-cons rs i r lt ∙ (λ j. sym here j ∷ drop (sym (add-one i) j) rs) in
      (λ j. e j ++ lines before m (set j) (drop (i + 1) rs))
      ∙ append_assoc done (line (code (letter_of r)) (told a)) _
      ∙ ap (λ x. done ++ (line (code (letter_of r)) (told x) ++ lines before m (set_after before m out (call_of r)) (drop (i + 1) rs))) said
      ∙ ap (λ l. done ++ lines before m out l) (sym rest)

  pub lines_none : (rs : List (Request K)) (i : ℕ) (out : ℕ → Bool) (done all : List ℕ) → length rs ≤ i → done ++ lines before m out (drop i rs) ≡ all → done ≡ all
  lines_none rs i out done all past e = sym (append-nil done) ∙ ap (λ l. done ++ lines before m out l) (sym (drop_all i rs past)) ∙ e
