-- The descent turn by turn, as the code takes it: what is counted so far, and then the rest from here, is the whole.
use Rattle.std.proofs.Common.{◌≡◌, ℕ, ◌+◌, ◌-◌, ◌*◌, ◌<◌, ◌≤◌, Bool, sym, ap, ◌∙◌, add_assoc, arith}
use Rattle.std.specs.List.{between}
use Rattle.keys.specs.Order.{Lawful}
use Rattle.indexes.specs.declared.index.Counted.{Counted}
use Rattle.indexes.specs.declared.index.Side.{Side}
use Rattle.indexes.specs.Seeking.{Sought, passed_at, Seeks}
use Rattle.indexes.proofs.Halving.{bits_le, search_boundary, rounds_le}
use Rattle.shapes.specs.declared.shape.Shape.{Shape}
use Rattle.shapes.specs.Descent.{after, at_node, at_leaf, descend, descent}
use Rattle.shapes.specs.Nodes.{child, chunk_at, slot_row}
use Rattle.shapes.proofs.Descended.{descend_go, descend_stop, at_leaf_rounds}
use Rattle.directories.specs.declared.frozen.FrozenIndex.{FrozenIndex}
use Rattle.directories.specs.Frozen.{Open}
use Rattle.directories.proofs.TreeFacts.{Facts, facts, Onward, onward}
use Rattle.directories.proofs.Parts.{node_sought}

after_after : (c d : ℕ) (s : Sought) → after (c + d) s ≡ after c (after d s)
after_after c d s = ap (λ (y : ℕ). record { place = s.place; rounds = y }) (add_assoc c d s.rounds)

-- what a turn of the loop leaves
pub record Turned (g : Shape) (pass : ℕ → Bool) (count here answer : ℕ) : Type 0 where
  pub inside : answer < g.children
  pub paid : count ≤ 7 * child g here answer
  pub fits : count ≤ 477102080
  pub rest : after count (descend g pass g.internal (child g here answer)) ≡ descent g pass

module _ {K : Type 0} {before : K → K → Bool} (lawful : Lawful before) (x : FrozenIndex K) (o : Open before x) (key : K) (side : Side) where
  abbrev g : Shape
  g = x.column.tree.shape

  abbrev pass : ℕ → Bool
  pass = passed_at before x.column.rows.now key side

  pub turned : (count here : ℕ) (found : Counted ℕ) → here < g.internal → count ≤ 7 * here
      → after count (descend g pass g.internal here) ≡ descent g pass
      → Seeks before (between (here * g.slots) (here * g.slots + (g.children - 1)) x.slots.now) key side found
      → Turned g pass (count + found.comparisons) here found.answer
  turned count here found lt paid rest seeks =
      let f : Facts g = facts x.column.tree in
      let at : Sought = at_node g pass here in
      let same = node_sought x o lawful key side here lt in
      let place : found.answer ≡ at.place = seeks.place ∙ ap (λ (s : Sought). s.place) same in
      let rounds : found.comparisons ≡ at.rounds = seeks.comparisons ∙ ap (λ (s : Sought). s.rounds) same in
      let two : 2 ≤ g.children = f.lawful.two in
      let wide : g.children ≤ 65 = f.sizes.children_few in
      let within : at.place ≤ g.children - 1 = (search_boundary (λ i. pass (slot_row g here i)) (g.children - 1)).within in
      let few : at.rounds ≤ 7 = rounds_le (λ i. pass (slot_row g here i)) (g.children - 1) 7 0 (g.children - 1) (omega arith) in
      let inside : found.answer < g.children = omega arith in
      let on : Onward x.column.tree here found.answer = onward x.column.tree here found.answer lt inside in
      record {
        inside = inside;
        paid = omega (arith, on.above);
        fits = omega (arith, on.above, on.fits);
        rest =
            (λ j. after (count + rounds j) (descend g pass g.internal (child g here (place j))))
            ∙ after_after count at.rounds (descend g pass g.internal (child g here at.place))
            ∙ ap (after count) (sym (descend_go g pass here (omega arith) lt)) ∙ rest;
      }

  -- the end of the loop, at a leaf or at no leaf
  pub landed : (count here : ℕ) → g.internal ≤ here → after count (descend g pass g.internal here) ≡ descent g pass
      → after count (at_leaf g pass (chunk_at g here)) ≡ descent g pass
  landed count here ge rest = ap (after count) (sym (descend_stop g pass g.internal here ge)) ∙ rest

  pub landed_few : (here : ℕ) → (at_leaf g pass (chunk_at g here)).rounds ≤ 21
  landed_few here =
      let f : Facts g = facts x.column.tree in
      omega (arith, at_leaf_rounds g f.lawful pass here, bits_le 21 g.slots (omega (arith, f.sizes.slots_few)))
