-- The laws of every allowed layout's shape: its tree, and its descents under the ceiling.
use Rattle.std.proofs.Common.{◌≡◌, ℕ, suc, ◌+◌, ◌-◌, ◌*◌, ◌^◌, ◌≤◌, true, Ok, sym, refl, ap, ◌∙◌, subst, inl, inr, mul-le-mul, pow-suc, arith, pow_pos}
use native.Mathlib.Nat.{pow-zero}
use Rattle.std.proofs.lemmas.Bool.{cases_lt, cases_Bool, cond-true, cond-false, le-ltb, lt-ltb}
use Rattle.indexes.specs.declared.layout.Layout.{Layout}
use Rattle.indexes.specs.declared.layout.Layout.TheVariants.{Bare, Full, Level}
use Rattle.indexes.specs.Seeking.{bits}
use Rattle.indexes.proofs.Halving.{bits_is}
use Rattle.shapes.specs.declared.shape.Shape.{Shape}
use Rattle.shapes.specs.Numbers.{shape, levels_of}
use Rattle.shapes.specs.Layouts.{allowed, shape_under, ceiling_under, shaping}
use Rattle.shapes.specs.Descent.{most_rounds}
use Rattle.shapes.specs.Laws.{Tree, LevelPower, Shapely}
use Rattle.shapes.proofs.Lawful.{Lawful, least_enough, least_least}
use Rattle.shapes.proofs.Spans.{slot_below}
use Rattle.shapes.proofs.Leaves.{leaves_of_root, leaf_once, slot_last}
use Rattle.shapes.proofs.Descended.{finds, under_most}
use Rattle.shapes.proofs.Sizes.{Power, small_under, internal_few, full_sizes, level_sizes, level_between, lawful_under, rows_under}

-- k is the least number with w ^ k ≥ N
abbrev Least : Shape → Type 0
Least g = (g.chunks ≤ g.children ^ g.levels) × ((j : ℕ) → g.chunks ≤ g.children ^ j → g.levels ≤ j)

shape_least : (n m w : ℕ) → 2 ≤ w → Least (shape n m w)
unfolding shape
shape_least n m w two = (
  least_enough w N N 0 two (omega arith),
  λ j h. elim (cases_lt j (levels_of w N)) [
    | inl lt ↦ absurd (omega (arith, least_least w N N 0 (λ i none. absurd (omega arith)) j lt))
    | inr ge ↦ ge
  ],
)
  where
    N : ℕ
    N = Rattle.shapes.specs.Numbers.chunks_of n m

least_under : (layout : Layout) (n : ℕ) → allowed layout ≡ true → Least (shape_under layout n)
least_under Bare n fine = (omega (arith, pow-zero 2), λ j h. omega arith)
least_under (Full m) n fine = let s = full_sizes m fine in shape_least n m (m + 1) (omega arith)
least_under (Level m) n fine = let s = level_between m fine in shape_least n m m s.0

-- a power of two has a digit more than its exponent, and the number before it as many
bits_power : (t : ℕ) → t + 1 ≡ bits (2 ^ t)
bits_power t =
    let d : 2 ^ suc t ≡ 2 ^ t * 2 = pow-suc 2 t in
    let e : suc t ≡ t + 1 = omega arith in
    sym e ∙ bits_is (2 ^ t) (suc t) (omega (arith, pow_pos t)) (omega arith)

bits_ones : (t : ℕ) → t ≡ bits (2 ^ t - 1)
bits_ones t = bits_is (2 ^ t - 1) t (omega (arith, pow_pos t)) (omega (arith, pow_pos t))

shape_most : (n m w : ℕ) → most_rounds (shape n m w) ≡ (shape n m w).levels * bits (w - 1) + bits m
unfolding shape
shape_most n m w = refl

-- the ceiling of a layout is that of its shape
pub ceiling_is : (layout : Layout) (n : ℕ) → allowed layout ≡ true → most_rounds (shape_under layout n) ≡ ceiling_under layout n
ceiling_is Bare n fine = omega arith
ceiling_is (Full m) n fine =
    let e : m + 1 - 1 ≡ m = omega arith in
    shape_most n m (m + 1) ∙ ap (λ y. (shape n m (m + 1)).levels * bits y + bits m) e ∙ omega arith
ceiling_is (Level m) n fine =
    let p : Power m = level_sizes m fine in
    let t : ℕ = p.exponent in
    let one : bits m ≡ t + 1 = ap bits p.is ∙ sym (bits_power t) in
    let less : bits (m - 1) ≡ bits m - 1 = ap (λ y. bits (y - 1)) p.is ∙ sym (bits_ones t) ∙ omega arith in
    shape_most n m m ∙ ap (λ y. (shape n m m).levels * y + bits m) less ∙ omega arith

tree_under : (layout : Layout) (n : ℕ) → allowed layout ≡ true → Tree (shape_under layout n)
tree_under layout n fine =
    let g : Shape = shape_under layout n in
    let ok : Lawful g = lawful_under layout n fine in
    let least : Least g = least_under layout n fine in
    record {
      levels_enough = least.0;
      levels_least = least.1;
      leaves_are_chunks = leaves_of_root g ok;
      one_leaf = leaf_once g ok;
      slot_is_last = slot_last g ok;
      slot_exists = λ b i lt h. slot_below g ok b i lt;
      descent_finds = λ pass p cut. finds g ok pass p cut;
    }

level_power : (layout : Layout) → allowed layout ≡ true → LevelPower layout
level_power Bare fine = tt
level_power (Full m) fine = tt
level_power (Level m) fine =
    let p : Power m = level_sizes m fine in
    let one : bits m ≡ p.exponent + 1 = ap bits p.is ∙ sym (bits_power p.exponent) in
    let e : p.exponent ≡ bits m - 1 = omega arith in
    p.is ∙ ap (λ t. 2 ^ t) e

pub shapely_under : (layout : Layout) (n : ℕ) → allowed layout ≡ true → Shapely layout (shape_under layout n)
shapely_under layout n fine =
    let g : Shape = shape_under layout n in
    record {
      tree = tree_under layout n fine;
      level_power = level_power layout fine;
      descent_capped = λ pass. (
          let c : most_rounds g ≡ ceiling_under layout g.rows = ceiling_is layout n fine ∙ ap (ceiling_under layout) (sym (rows_under layout n)) in
          omega (arith, c, under_most g (lawful_under layout n fine) pass));
    }

-- an accepted shape passed the tests
pub record Accepted (layout : Layout) (n : ℕ) (g : Shape) : Type 0 where
  pub fine : allowed layout ≡ true
  pub small : n ≤ 1048576
  pub is : g ≡ shape_under layout n

pub accepted : (layout : Layout) (n : ℕ) (g : Shape) → Ok g ≡ shaping layout n → Accepted layout n g
accepted layout n g e = elim (cases_Bool (allowed layout)) [
  | inr bad ↦
      let z : ◌≡◌ {A = ℕ} 0 1 = let w = e ∙ cond-false (allowed layout) _ _ bad in cc in
      absurd (omega arith)
  | inl fine ↦ elim (cases_lt 1048576 n) [
    | inl many ↦
        let z : ◌≡◌ {A = ℕ} 0 1 = let w = e ∙ cond-true (allowed layout) _ _ fine ∙ cond-true _ _ _ (lt-ltb 1048576 n many) in cc in
        absurd (omega arith)
    | inr few ↦
        let w = e ∙ cond-true (allowed layout) _ _ fine ∙ cond-false _ _ _ (le-ltb 1048576 n few) in
        record { fine = fine; small = few; is = (let f : g ≡ shape_under layout n = cc in f) }
  ]
]

-- so few slots that their number fits
pub slots_fit : (layout : Layout) (n : ℕ) (g : Shape) → Accepted layout n g → g.internal * g.slots ≤ 1048576 * 1048576
slots_fit layout n g ok =
    let h : Shape = shape_under layout n in
    let few : h.internal ≤ 1048576 = omega (arith, internal_few h (lawful_under layout n ok.fine), rows_under layout n, ok.small) in
    let narrow : h.slots ≤ 1048576 = (small_under layout n ok.small ok.fine).slots_few in
    let all : h.internal * h.slots ≤ 1048576 * 1048576 = mul-le-mul few narrow in
    subst (λ (s : Shape). s.internal * s.slots ≤ 1048576 * 1048576) (sym ok.is) all

-- and keeps the laws
pub shaped_laws : (layout : Layout) (n : ℕ) (g : Shape) → Ok g ≡ shaping layout n → Shapely layout g
shaped_laws layout n g e = let ok = accepted layout n g e in subst (Shapely layout) (sym ok.is) (shapely_under layout n ok.fine)
