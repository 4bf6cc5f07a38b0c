-- One step of the grammar: what it took off the front. Assumes nothing.
use Rattle.std.proofs.Common.{◌≡◌, ℕ, ◌+◌, ◌-◌, ◌*◌, ◌<◌, ◌≤◌, leb, List, [], ◌∷◌, length, take, drop, Some, refl, ap, ◌∙◌, subst, arith, length-drop}
use Rattle.std.proofs.lemmas.Bool.{leb-true}
use Rattle.sheets.specs.declared.reader.Stage.{Stage}
use Rattle.sheets.specs.Fields.{kind}
use Rattle.sheets.specs.Grammar.{next, step_at, Step}
use Rattle.std.proofs.lemmas.Option.{same_Some, none-some}
use Rattle.sheets.proofs.Options.{bind_parts, when_parts}

-- a step took a head of three bytes and a value off the front
pub record Taken (s : Stage) (z : ℕ) (bs : List ℕ) (t : Step) : Type 0 where
  pub tag : ℕ
  pub hi : ℕ
  pub lo : ℕ
  pub after : List ℕ
  pub bytes : bs ≡ tag ∷ hi ∷ lo ∷ after
  pub fits : hi * 256 + lo ≤ length after
  pub named : kind tag ≡ Some t.read.kind
  pub at : t.read.place ≡ z - length after
  pub value : t.read.value ≡ take (hi * 256 + lo) after
  pub allowed : next s t.read.kind t.read.value ≡ Some t.then.stage
  pub whole : t.then.whole ≡ z
  pub rest : t.then.rest ≡ drop (hi * 256 + lo) after

pub taken : (s : Stage) (z : ℕ) (bs : List ℕ) (t : Step) → step_at s z bs ≡ Some t → Taken s z bs t
taken s z [] t e = absurd (none-some t e)
taken s z (a ∷ []) t e = absurd (none-some t e)
taken s z (a ∷ h ∷ []) t e = absurd (none-some t e)
taken s z (a ∷ h ∷ l ∷ bs) t e =
    let n = h * 256 + l in
    let c = when_parts (leb n (length bs)) _ t e in
    let k = bind_parts (kind a) _ t c.1 in
    let m = bind_parts (next s k.0 (take n bs)) _ t k.2 in
    subst (Taken s z (a ∷ h ∷ l ∷ bs)) (same_Some _ _ m.2) (record {
      tag = a;
      hi = h;
      lo = l;
      after = bs;
      bytes = refl;
      fits = leb-true n (length bs) c.0;
      named = k.1;
      at = refl;
      value = refl;
      allowed = m.1;
      whole = refl;
      rest = refl;
    })

-- so less is left
pub shorter : {s : Stage} {z : ℕ} {bs : List ℕ} {t : Step} → Taken s z bs t → length t.then.rest < length bs
shorter {s} {z} {bs} {t} g =
    let a : length bs ≡ 3 + length g.after = ap length g.bytes ∙ omega arith in
    let b : length t.then.rest ≡ length g.after - (g.hi * 256 + g.lo) = ap length g.rest ∙ length-drop _ g.after in
    omega arith
