-- What is known of the parts once `bind` or a test gave a value. Assumes nothing.
use Rattle.std.proofs.Common.{◌≡◌, Bool, true, false, cond, is_some, Some, None, Option, refl, arith}
use Rattle.std.proofs.lemmas.Bool.Decides.{nat_tests}
use Rattle.std.proofs.lemmas.Option.{none-some}
use Rattle.sheets.specs.Grammar.{bind}

pub bind_parts : {A B : Type 0} (o : Option A) (f : A → Option B) (b : B) → bind o f ≡ Some b → (a : A) × (o ≡ Some a) × (f a ≡ Some b)
bind_parts None f b e = absurd (none-some b e)
bind_parts (Some a) f b e = (a, refl, e)

pub when_parts : {B : Type 0} (t : Bool) (o : Option B) (b : B) → cond t o None ≡ Some b → (t ≡ true) × (o ≡ Some b)
when_parts true o b e = (refl, e)
when_parts false o b e = absurd (none-some b e)

-- two ways on from o are the same if they are so at its value
pub bind_same : {A B : Type 0} (o : Option A) (f g : A → Option B) → ((a : A) → o ≡ Some a → f a ≡ g a) → bind o f ≡ bind o g
bind_same None f g h = refl
bind_same (Some a) f g h = h a refl

pub none_tested : {A : Type 0} (o : Option A) → false ≡ is_some o → o ≡ None
none_tested None e = refl
none_tested (Some x) e = absurd (grind (arith, nat_tests))

pub some_tested : {A : Type 0} (o : Option A) → true ≡ is_some o → (x : A) × (o ≡ Some x)
some_tested None e = absurd (grind (arith, nat_tests))
some_tested (Some x) e = (x, refl)
