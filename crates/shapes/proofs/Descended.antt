-- The descent finds the place, and keeps under the ceiling.
use Rattle.std.proofs.Common.{◌≡◌, ℕ, zero, suc, ◌+◌, ◌-◌, ◌*◌, ◌<◌, ◌≤◌, Bool, true, false, ◌⊎◌, Some, None, Option, sym, refl, ap, ◌∙◌, inl, inr, mul-le-mul_right, mul-le-mul_left, arith}
use native.Mathlib.Nat.{sub-zero}
use Rattle.std.proofs.lemmas.Bool.{lt-ltb, le-ltb, cases_lt, both_ways}
use Rattle.indexes.specs.Seeking.{bits, Boundary, Cut}
use Rattle.indexes.proofs.Halving.{search_boundary, rounds_le, under_bits, bits_le}
use Rattle.shapes.specs.declared.shape.Shape.{Shape}
use Rattle.shapes.specs.Nodes.{chunk_at, child, size, slot_row}
use Rattle.shapes.specs.Descent.{node_seek, after, at_node, at_leaf, descend, descent, most_rounds}
use Rattle.shapes.proofs.Lawful.{Lawful, starts, starts_mono}
use Rattle.shapes.proofs.Walk.{upward, child_above}
use Rattle.shapes.proofs.Spans.{opens, ends, row_at, start_of, end_of, opens_stop, ends_stop, opens_go, ends_go, siblings, root_opens, root_ends, leaf_below, chunk_starts, slot_is, slot_below, ends_some, rows_some}

-- the descent, without its count of steps
pub descend_stop : (g : Shape) (pass : ℕ → Bool) (f b : ℕ) → g.internal ≤ b → descend g pass f b ≡ at_leaf g pass (chunk_at g b)
unfolding descend
descend_stop g pass zero b h = refl
descend_stop g pass (suc f) b h = rw (le-ltb b g.internal h, descend)

descend_first : (g : Shape) (pass : ℕ → Bool) (f b : ℕ) → b < g.internal
    → descend g pass (suc f) b ≡ after (at_node g pass b).rounds (descend g pass f (child g b (at_node g pass b).place))
unfolding descend
descend_first g pass f b h = rw (lt-ltb b g.internal h, descend)

descend_more : (g : Shape) (pass : ℕ → Bool) (f b : ℕ) → 1 ≤ g.children → g.internal ≤ b + f → descend g pass (suc f) b ≡ descend g pass f b
descend_more g pass zero b p h =
    let k : g.internal ≤ b = omega arith in
    descend_stop g pass 1 b k ∙ sym (descend_stop g pass zero b k)
descend_more g pass (suc f) b p h = elim (cases_lt b g.internal) [
  | inl lt ↦
      let c : ℕ = child g b (at_node g pass b).place in
      let ih = descend_more g pass f c p (omega (arith, child_above g b (at_node g pass b).place p)) in
      descend_first g pass (suc f) b lt ∙ ap (after (at_node g pass b).rounds) ih ∙ sym (descend_first g pass f b lt)
  | inr ge ↦ descend_stop g pass (suc (suc f)) b ge ∙ sym (descend_stop g pass (suc f) b ge)
]

pub descend_go : (g : Shape) (pass : ℕ → Bool) (b : ℕ) → 1 ≤ g.children → b < g.internal
    → descend g pass g.internal b ≡ after (at_node g pass b).rounds (descend g pass g.internal (child g b (at_node g pass b).place))
descend_go g pass b p lt =
    sym (descend_more g pass g.internal b p (omega arith)) ∙ descend_first g pass g.internal b lt

module _ (g : Shape) (ok : Lawful g) (pass : ℕ → Bool) (p : ℕ) (cut : Cut pass g.rows p) where
  -- p lies under node b: not before its span, and before the span's end unless that is the column's
  pub record Under (from to : ℕ) : Type 0 where
    pub low : row_at g from ≤ p
    pub high : (p < row_at g to) ⊎ (to ≡ g.chunks)

  is_passed : (r : ℕ) → r < g.rows → pass r ≡ true → r < p
  is_passed r h t = elim (cases_lt r p) [
    | inl lt ↦ lt
    | inr ge ↦ absurd (both_ways (pass r) (cut.above r ge h) t)
  ]

  not_passed : (r : ℕ) → r < g.rows → pass r ≡ false → p ≤ r
  not_passed r h t = elim (cases_lt r p) [
    | inl lt ↦ absurd (both_ways (pass r) t (cut.below r lt))
    | inr ge ↦ ge
  ]

  at_leaf_is : (v : Option ℕ) (c : ℕ) → g.internal ≤ c → chunk_at g c ≡ v → Under (start_of g v) (end_of g v) → (at_leaf g pass v).place ≡ p
  at_leaf_is (Some q) c h e under =
      let a : ℕ = (node_seek (λ i. pass (q * g.slots + i)) (size g q)).place in
      let t : Boundary (λ i. pass (q * g.slots + i)) (size g q) a = search_boundary (λ i. pass (q * g.slots + i)) (size g q) in
      let s : q * g.slots < g.rows = chunk_starts g ok q (leaf_below g ok c q h e) in
      let within : a ≤ size g q = t.within in
      let top : p ≤ (q + 1) * g.slots = elim under.high [
        | inl lt ↦ omega arith
        | inr f ↦ omega (arith, ap (λ y. y * g.slots) f, ok.rows_in)
      ] in
      let low : q * g.slots + a ≤ p = elim (cases_lt 0 a) [
        | inl some ↦ omega (arith, is_passed (q * g.slots + (a - 1)) (omega arith) (t.passed_below some))
        | inr none ↦ omega (arith, under.low)
      ] in
      let high : p ≤ q * g.slots + a = elim (cases_lt a (size g q)) [
        | inl less ↦ not_passed (q * g.slots + a) (omega arith) (t.not_at less)
        | inr all ↦ omega arith
      ] in
      omega (arith, low, high)
  at_leaf_is None c h e under = elim under.high [
    | inl lt ↦ absurd (omega arith)
    | inr f ↦ omega (arith, ap (λ y. y * g.slots) f, ok.rows_in)
  ]

  step : (b : ℕ) → b < g.internal → Under (opens g b) (ends g b)
      → Under (opens g (child g b (at_node g pass b).place)) (ends g (child g b (at_node g pass b).place))
  step b lt under =
      let one : 1 ≤ g.internal = omega arith in
      let i : ℕ = (at_node g pass b).place in
      let t : Boundary (λ j. pass (slot_row g b j)) (g.children - 1) i = search_boundary (λ j. pass (slot_row g b j)) (g.children - 1) in
      let within : i ≤ g.children - 1 = t.within in
      record {
        low = elim (cases_lt 0 i) [
          | inl some ↦
              let e : i - 1 + 1 ≡ i = omega arith in
              let s : ends g (child g b (i - 1)) ≡ opens g (child g b i) =
              siblings g ok b (i - 1) (omega (arith, ok.two)) ∙ ap (λ y. opens g (child g b y)) e in
              rw (← s)
              (omega (arith, slot_is g ok b (i - 1) lt, is_passed (slot_row g b (i - 1)) (slot_below g ok b (i - 1) lt) (t.passed_below some)))
          | inr none ↦
              let e : 0 ≡ i = omega arith in
              let s : opens g b ≡ opens g (child g b i) = opens_go g ok b lt ∙ ap (λ y. opens g (child g b y)) e in
              rw (← s) under.low
        ];
        high = elim (cases_lt i (g.children - 1)) [
          | inl less ↦
              inl (omega (
                arith,
                slot_is g ok b i lt,
                not_passed (slot_row g b i) (slot_below g ok b i lt) (t.not_at less),
                mul-le-mul_right g.slots (ends_some g ok (child g b i) one),
                rows_some g ok one,
                ok.some (omega (arith, ok.many one)),
              ))
          | inr all ↦
              let e : g.children - 1 ≡ i = omega arith in
              let s : ends g b ≡ ends g (child g b i) = ends_go g ok b lt ∙ ap (λ y. ends g (child g b y)) e in
              rw (← s) under.high
        ];
      }

  pub finds_from : (b : ℕ) → Under (opens g b) (ends g b) → (descend g pass g.internal b).place ≡ p
  finds_from = upward g.internal (λ b. Under (opens g b) (ends g b) → (descend g pass g.internal b).place ≡ p)
      (λ b h under. rw (descend_stop g pass g.internal b h) (at_leaf_is (chunk_at g b) b h refl (rw (opens_stop g ok b h, ends_stop g ok b h) at under)))
      (λ b lt ih under.
      let one : 1 ≤ g.children = omega (arith, ok.two) in
      let i : ℕ = (at_node g pass b).place in
      rw (descend_go g pass b one lt) (ih (child g b i) (child_above g b i one) (step b lt under)))

  pub finds : (descent g pass).place ≡ p
  finds = finds_from 0 (rw (root_opens g ok, root_ends g ok) (record { low = omega arith; high = inr refl }))

seek_rounds : (pass : ℕ → Bool) (s : ℕ) → (node_seek pass s).rounds ≤ bits s
seek_rounds pass s = rounds_le pass s (bits s) 0 s (omega (arith, under_bits s))

pub bits_mono : (s t : ℕ) → s ≤ t → bits s ≤ bits t
bits_mono s t h = bits_le (bits t) s (omega (arith, under_bits t))

-- the comparisons from a node of depth d or deeper on
module _ (g : Shape) (ok : Lawful g) (pass : ℕ → Bool) where
  pub at_leaf_rounds : (c : ℕ) → (at_leaf g pass (chunk_at g c)).rounds ≤ bits g.slots
  at_leaf_rounds c = elim (chunk_at g c) as (λ v. (at_leaf g pass v).rounds ≤ bits g.slots) [
    | Some q ↦ omega (arith, seek_rounds (λ i. pass (q * g.slots + i)) (size g q), bits_mono (size g q) g.slots (omega arith))
    | None ↦ omega arith
  ]

  rounds_from : (b d : ℕ) → starts g.children d ≤ b → (descend g pass g.internal b).rounds ≤ (g.levels - d) * bits (g.children - 1) + bits g.slots
  unfolding starts
  rounds_from = upward g.internal (λ b. (d : ℕ) → starts g.children d ≤ b → (descend g pass g.internal b).rounds ≤ (g.levels - d) * bits (g.children - 1) + bits g.slots)
      (λ b h d under. rw (descend_stop g pass g.internal b h) (omega (arith, at_leaf_rounds b)))
      (λ b lt ih d under.
      let one : 1 ≤ g.children = omega (arith, ok.two) in
      let i : ℕ = (at_node g pass b).place in
      let deeper : d < g.levels = elim (cases_lt d g.levels) [
        | inl less ↦ less
        | inr ge ↦ absurd (omega (arith, starts_mono g.children g.levels d one ge, ok.upper, ok.inner))
      ] in
      let e : g.levels - d ≡ suc (g.levels - suc d) = omega arith in
      let f : (g.levels - d) * bits (g.children - 1) ≡ suc (g.levels - suc d) * bits (g.children - 1) = ap (λ y. y * bits (g.children - 1)) e in
      let rest = ih (child g b i) (child_above g b i one) (suc d) (omega (arith, mul-le-mul_left g.children under)) in
      rw (descend_go g pass b one lt)
      (omega (arith, rest, f, seek_rounds (λ j. pass (slot_row g b j)) (g.children - 1))))

  pub under_most : (descent g pass).rounds ≤ most_rounds g
  unfolding starts
  under_most = rw sub-zero at (rounds_from 0 0 (omega arith))
