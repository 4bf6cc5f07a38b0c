-- The first place that is found is the first that differs, which decides; where none is, the two weigh the same.
use Rattle.std.proofs.Common.{rules, ◌≡◌, ◌<◌, ◌≤◌, ◌≢◌, ℕ, Option, Some, None, arith}
use Rattle.std.specs.Option.{MatchOption}
use Rattle.std.proofs.lemmas.Iterator.{first_from_Range}
use Rattle.keys.specs.declared.label.Label.{Label}
use Rattle.keys.specs.Weights.{weight_at_lem, lighter, lighter_at, FirstDifference}
use Rattle.keys.specs.Weighing.{no_difference, at_difference}
use Rattle.keys.proofs.label.Label.first_difference.Goals as goal

module _ (a b : Label) where
  abbrev Same : ℕ → Type 0
  Same k = weight_at_lem a k ≡ weight_at_lem b k

  abbrev Differ : ℕ → Type 0
  Differ k = weight_at_lem a k ≢ weight_at_lem b k

  place : (r : Option ℕ)
      → MatchOption r ((k : ℕ) → 0 ≤ k → k < 16 → Same k) (λ i. (0 ≤ i) × (i < 16) × Differ i × ((k : ℕ) → 0 ≤ k → k < i → Same k))
      → FirstDifference a b r
  place None none = λ k h. none k (omega arith) h
  place (Some i) at = (at.1, at.2, λ k h. at.3 k (omega arith) h)

  decides : (r : Option ℕ) → FirstDifference a b r → lighter a b ≡ lighter_at a b r
  decides None same = no_difference 16 (weight_at_lem a) (weight_at_lem b) same
  decides (Some i) at = at_difference 16 (weight_at_lem a) (weight_at_lem b) i at.0 at.1 at.2

pub returns : goal.returns
returns c =
    let a = c.args.self.now in
    let b = c.args.other.now in
    let first =
    place a b c.find.result
    (first_from_Range _ _ _ _ (Differ a b) (Same a b) c.find.ensures.ran (λ k f called. search rules) (λ k f called. search rules)) in
    record { place = first; decides = decides a b _ first }
