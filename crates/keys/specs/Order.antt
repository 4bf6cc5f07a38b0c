-- What a lawful order is, which keys are equivalent under it, and what holds of every lawful order. Assumes nothing.
use Rattle.std.specs.Prelude.{◌≡◌, Bool, true, false, not, ◌&&◌, ◌||◌, ◌⊎◌}

-- before a b: does a come before b?
pub record Lawful {K : Type 0} (before : K → K → Bool) : Type 0 where
  -- where a comes before b, b does not come before a
  pub one_way : (a b : K) → before a b ≡ true → before b a ≡ false
  -- where a comes before b, every c comes after a or before b
  pub splits : (a b c : K) → before a b ≡ true → (before a c ≡ true) ⊎ (before c b ≡ true)

-- neither of a and b comes before the other
abbrev pub equivalent_under : {K : Type 0} → (K → K → Bool) → K → K → Bool
equivalent_under before a b = not (before a b) && not (before b a)

-- a comes before b, or they are equivalent and a second test decides
abbrev pub before_or_then : {K : Type 0} → (K → K → Bool) → K → K → Bool → Bool
before_or_then before a b second = before a b || (equivalent_under before a b && second)

-- what holds of every lawful order
pub record Laws {K : Type 0} (before : K → K → Bool) : Type 0 where
  -- no key comes before itself
  pub irreflexive : (a : K) → before a a ≡ false
  -- where a comes before b, and b before c, a comes before c
  pub transitive : (a b c : K) → before a b ≡ true → before b c ≡ true → before a c ≡ true
  -- where a does not come before b, nor b before c, a does not come before c
  pub chain : (a b c : K) → before a b ≡ false → before b c ≡ false → before a c ≡ false
  -- where a comes before b, it comes before each c that does not come before b
  pub before_later : (a b c : K) → before a b ≡ true → before c b ≡ false → before a c ≡ true
  -- where b comes before c, so does each a that b does not come before
  pub earlier_before : (a b c : K) → before b a ≡ false → before b c ≡ true → before a c ≡ true
  -- each key is equivalent to itself
  pub equivalent_reflexive : (a : K) → equivalent_under before a a ≡ true
  -- a is equivalent to b exactly where b is to a
  pub equivalent_symmetric : (a b : K) → equivalent_under before a b ≡ equivalent_under before b a
  -- two keys equivalent to a third are equivalent
  pub equivalent_transitive : (a b c : K) →
      equivalent_under before a b ≡ true → equivalent_under before b c ≡ true → equivalent_under before a c ≡ true
  -- equivalent keys come before the same keys
  pub equivalent_before : (a b c : K) → equivalent_under before a b ≡ true → before a c ≡ before b c
  -- the same keys come before equivalent keys
  pub equivalent_after : (a b c : K) → equivalent_under before a b ≡ true → before c a ≡ before c b
