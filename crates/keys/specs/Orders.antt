-- What follows of every lawful order, for the crates above too; and that a second lawful order may decide where a first does not.
use Rattle.std.specs.Prelude.{◌≡◌, Bool, true, false}
use Rattle.std.proofs.Common.{inl, inr, ⊎_elim, arith}
use Rattle.std.proofs.lemmas.Bool.{cases_Bool, both_ways}
use Rattle.keys.specs.Order.{Lawful, Laws, before_or_then}

module _ {K : Type 0} {before : K → K → Bool} (lawful : Lawful before) where
  irreflexive : (a : K) → before a a ≡ false
  irreflexive a = ⊎_elim (lawful.one_way a a) (λ f. f) (cases_Bool (before a a))

  chain : (a b c : K) → before a b ≡ false → before b c ≡ false → before a c ≡ false
  chain a b c ab bc =
      ⊎_elim
      (λ t. ⊎_elim (λ u. absurd (both_ways _ ab u)) (λ u. absurd (both_ways _ bc u)) (lawful.splits a c b t))
      (λ f. f) (cases_Bool (before a c))

  before_later : (a b c : K) → before a b ≡ true → before c b ≡ false → before a c ≡ true
  before_later a b c ab cb = ⊎_elim (λ t. t) (λ u. absurd (both_ways _ cb u)) (lawful.splits a b c ab)

  earlier_before : (a b c : K) → before b a ≡ false → before b c ≡ true → before a c ≡ true
  earlier_before a b c ba bc = ⊎_elim (λ u. absurd (both_ways _ ba u)) (λ t. t) (lawful.splits b c a bc)

  pub laws : Laws before
  laws =
      record {
        irreflexive = irreflexive;
        transitive = λ a b c ab bc. before_later a b c ab (lawful.one_way b c bc);
        chain = chain;
        before_later = before_later;
        earlier_before = earlier_before;
        equivalent_reflexive = λ a. grind (arith, irreflexive);
        equivalent_symmetric = λ a b. grind arith;
        equivalent_transitive = λ a b c ab bc. grind (arith, chain);
        equivalent_before = λ a b c ab. grind (arith, chain);
        equivalent_after = λ a b c ab. grind (arith, chain);
      }

-- values of P ordered by a first part, and by a second where the first are equivalent
module _
    {P A B : Type 0} (first : P → A) (second : P → B)
    {before : A → A → Bool} {last : B → B → Bool} (lawful : Lawful before) (lawful-last : Lawful last) where
  abbrev ordered : P → P → Bool
  ordered a b = before_or_then before (first a) (first b) (last (second a) (second b))

  pub lawful_then : Lawful ordered
  lawful_then =
      record {
        one_way = λ a b ab.
            grind (arith, lawful.one_way (first a) (first b), lawful-last.one_way (second a) (second b));
        splits = λ a b c ab.
            ⊎_elim inl
            (λ ac. inr (grind (
              arith,
              lawful.splits (first a) (first b) (first c),
              lawful-last.splits (second a) (second b) (second c),
              (laws lawful).chain (first c) (first b) (first a),
              (laws lawful).chain (first b) (first a) (first c),
            )))
            (cases_Bool (ordered a c));
      }
