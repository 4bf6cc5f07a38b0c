-- How large the numbers of an allowed layout's shape are: small enough for every sum and product of the code.
use Rattle.std.proofs.Common.{◌≡◌, ℕ, zero, suc, ◌+◌, ◌-◌, ◌*◌, ◌^◌, ◌≤◌, true, ◌||◌, eqb, leb, refl, ap, inl, inr, mul-le-mul_right, le-mul_of_pos_right, arith}
use Rattle.std.proofs.lemmas.Bool.{cases_lt, and_parts, or_cases, leb-true, eqb-true}
use Rattle.indexes.specs.declared.layout.Layout.{Layout}
use Rattle.indexes.specs.declared.layout.Layout.TheVariants.{Bare, Full, Level}
use Rattle.shapes.specs.declared.shape.Shape.{Shape}
use Rattle.shapes.specs.Numbers.{shape, Measurable}
use Rattle.shapes.specs.Layouts.{allowed, shape_under}
use Rattle.shapes.proofs.Lawful.{Lawful, lawful, bare_lawful, starts}

-- an allowed node size
pub full_sizes : (m : ℕ) → allowed (Full m) ≡ true → (2 ≤ m) × (m ≤ 64)
full_sizes m fine =
    let parts = and_parts (leb 2 m) (leb m 64) fine in
    (leb-true 2 m parts.0, leb-true m 64 parts.1)

pub record Power (m : ℕ) : Type 0 where
  pub exponent : ℕ
  pub is : m ≡ 2 ^ exponent
  pub some : 1 ≤ exponent
  pub few : exponent ≤ 6

pub level_sizes : (m : ℕ) → allowed (Level m) ≡ true → Power m
level_sizes m fine =
    by 1 (omega arith) (omega arith) (eqb m 2) _ fine (λ e. e) (λ f.
    by 2 (omega arith) (omega arith) (eqb m 4) _ f (λ e. e) (λ f.
    by 3 (omega arith) (omega arith) (eqb m 8) _ f (λ e. e) (λ f.
    by 4 (omega arith) (omega arith) (eqb m 16) _ f (λ e. e) (λ f.
    by 5 (omega arith) (omega arith) (eqb m 32) _ f (λ e. e) (λ e.
    record { exponent = 6; is = eqb-true m 64 e; some = omega arith; few = omega arith })))))
  where
    by : (t : ℕ) → 1 ≤ t → t ≤ 6 → (x y : mathlib.Core.Bool.Bool) → (x || y) ≡ true → (x ≡ true → eqb m (2 ^ t) ≡ true) → (y ≡ true → Power m) → Power m
    by t some few x y either here rest = elim (or_cases x y either) [
      | inl yes' ↦ record { exponent = t; is = eqb-true m (2 ^ t) (here yes'); some = some; few = few }
      | inr other ↦ rest other
    ]

power_two : (t : ℕ) → 1 ≤ t → 2 ≤ 2 ^ t
power_two zero h = absurd (omega arith)
power_two (suc t) h = omega (arith, lib.Pow.pow_mono {i = 1} {j = suc t} (omega arith))

power_most : (t : ℕ) → t ≤ 6 → 2 ^ t ≤ 64
power_most t h = lib.Pow.pow_mono h

pub level_between : (m : ℕ) → allowed (Level m) ≡ true → (2 ≤ m) × (m ≤ 64)
level_between m fine =
    let p : Power m = level_sizes m fine in
    (omega (arith, p.is, power_two p.exponent p.some), omega (arith, p.is, power_most p.exponent p.few))

pub full_measurable : (n m : ℕ) → n ≤ 1048576 → allowed (Full m) ≡ true → Measurable n m (m + 1)
full_measurable n m small fine =
    let s = full_sizes m fine in
    record { some = omega arith; few = s.1; two = omega arith; fits = omega arith; small = small }

pub level_measurable : (n m : ℕ) → n ≤ 1048576 → allowed (Level m) ≡ true → Measurable n m m
level_measurable n m small fine =
    let s = level_between m fine in
    record { some = omega arith; few = s.1; two = s.0; fits = omega arith; small = small }

-- the shape of every allowed layout is lawful
pub lawful_under : (layout : Layout) (n : ℕ) → allowed layout ≡ true → Lawful (shape_under layout n)
lawful_under Bare n fine = bare_lawful n
lawful_under (Full m) n fine = let s = full_sizes m fine in lawful n m (m + 1) (omega arith) (omega arith)
lawful_under (Level m) n fine = let s = level_between m fine in lawful n m m (omega arith) s.0

pub record Small (g : Shape) : Type 0 where
  pub slots_few : g.slots ≤ 1048576
  pub children_few : g.children ≤ 65
  -- where there is a node, its slots are few, all but one have a child at least, and the first w - 1 are among them
  pub node_few : 1 ≤ g.internal → g.slots ≤ 64
  pub each_child : 1 ≤ g.internal → g.slots ≤ g.children
  pub fits : 1 ≤ g.internal → g.children ≤ g.slots + 1

shape_small : (n m w : ℕ) → Measurable n m w → m ≤ w → Small (shape n m w)
unfolding shape
shape_small n m w ok each =
    record { slots_few = omega (arith, ok.few); children_few = omega (arith, ok.fits, ok.few); node_few = λ _. ok.few; each_child = λ _. each; fits = λ _. ok.fits }

pub small_under : (layout : Layout) (n : ℕ) → n ≤ 1048576 → allowed layout ≡ true → Small (shape_under layout n)
small_under Bare n small fine =
    record { slots_few = small; children_few = omega arith; node_few = λ h. absurd (omega arith); each_child = λ h. absurd (omega arith); fits = λ h. absurd (omega arith) }
small_under (Full m) n small fine = shape_small n m (m + 1) (full_measurable n m small fine) (omega arith)
small_under (Level m) n small fine = shape_small n m m (level_measurable n m small fine) (omega arith)

-- the rows are those handed in
pub rows_under : (layout : Layout) (n : ℕ) → (shape_under layout n).rows ≡ n
unfolding shape
rows_under Bare n = refl
rows_under (Full m) n = refl
rows_under (Level m) n = refl

module _ (g : Shape) (ok : Lawful g) where
  pub chunks_few : g.chunks ≤ g.rows
  chunks_few = elim (cases_lt g.rows g.chunks) [
    | inl more ↦
        let s : 1 ≤ g.slots = ok.some (omega arith) in
        let p : (g.rows + 1) * g.slots ≤ g.chunks * g.slots = mul-le-mul_right g.slots (omega arith) in
        absurd (omega (arith, ok.rows_over, le-mul_of_pos_right g.rows s))
    | inr ge ↦ ge
  ]

  -- fewer internal nodes than chunks
  pub internal_few : g.internal ≤ g.rows
  internal_few = elim (cases_lt 0 g.internal) [
    | inl some ↦
        let e : ℕ = g.internal - 1 in
        let f : e + 1 ≡ g.internal = omega arith in
        let p : (g.children - 1) * (e + 1) ≡ (g.children - 1) * g.internal = ap (λ y. (g.children - 1) * y) f in
        let q : 1 * e ≤ (g.children - 1) * e = mul-le-mul_right e (omega (arith, ok.two)) in
        omega (arith, ok.tight some, ok.many some, chunks_few)
    | inr none ↦ omega arith
  ]

  -- and no more levels than internal nodes
  pub levels_few : g.levels ≤ g.internal
  unfolding starts
  levels_few = elim (cases_lt 0 g.levels) [
    | inl some ↦ omega (arith, ok.deep (g.levels - 1) (omega arith), starts_above (g.levels - 1))
    | inr none ↦ omega arith
  ]
    where
      starts_above : (d : ℕ) → d ≤ starts g.children d
      starts_above zero = omega arith
      starts_above (suc d) =
          let one : 1 ≤ g.children = omega (arith, ok.two) in
          omega (arith, starts_above d, mul-le-mul_right (starts g.children d) one)
