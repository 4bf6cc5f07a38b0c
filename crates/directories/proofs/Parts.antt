-- The searches of a descent, as the code makes them: over a node's part of the slots, and over a chunk's part of the column.
use Rattle.std.proofs.Common.{◌≡◌, ℕ, suc, ◌+◌, ◌-◌, ◌*◌, ◌<◌, ◌≤◌, Bool, true, not, List, length, get_or, Some, ap, ◌∙◌, mul-le-mul_right, mul-le-mul_left, arith}
use lib.Arith.{digits_div, digits_mod}
use Rattle.std.specs.List.{between}
use Rattle.std.proofs.lemmas.List.Edits.{length-between, get_or-between}
use Rattle.keys.specs.Order.{Lawful, equivalent_under}
use Rattle.keys.specs.Orders.{laws}
use Rattle.indexes.specs.declared.index.Counted.{Counted}
use Rattle.indexes.specs.declared.index.Side.{Side}
use Rattle.indexes.specs.declared.index.Side.TheVariants.{At, After}
use Rattle.indexes.specs.Meaning.{passed}
use Rattle.indexes.specs.Seeking.{Sought, halving, passed_at, sought, Seeks}
use Rattle.indexes.proofs.Halving.{halving_same, search_boundary}
use Rattle.shapes.specs.declared.shape.Shape.{Shape}
use Rattle.shapes.specs.Descent.{node_seek, at_node, at_leaf}
use Rattle.shapes.specs.Layouts.{slots_in}
use Rattle.shapes.specs.Nodes.{size, slot_row}
use Rattle.directories.specs.declared.column.Column.{Column}
use Rattle.directories.specs.declared.frozen.FrozenIndex.{FrozenIndex}
use Rattle.directories.specs.Frozen.{Open}
use Rattle.directories.specs.Slots.{row_of_slot, slot_keys, chunk_rows}
use Rattle.directories.proofs.TreeFacts.{Facts, facts, chunk}
use Rattle.directories.proofs.SlotKeys.{slot_key, length_slot_keys, agree_at, agree_length}

-- a part is sought like the places that its keys are passed at
pub part_sought : {K : Type 0} (before : K → K → Bool) (key : K) (side : Side) (part : List K) (pass : ℕ → Bool) (s : ℕ) → length part ≡ s
    → ((i : ℕ) → i < s → passed_at before part key side i ≡ pass i) → sought before part key side ≡ node_seek pass s
part_sought before key side part pass s long same =
    ap (λ n. halving (passed_at before part key side) n 0 n) long
    ∙ halving_same (passed_at before part key side) pass s s 0 s (omega arith) same

module _ {K : Type 0} (before : K → K → Bool) (c : Column K) (key : K) (side : Side) where
  abbrev here : Shape
  here = c.tree.shape

  abbrev pass : ℕ → Bool
  pass = passed_at before c.rows.now key side

  -- a leaf's chunk
  chunk_sought : (q : ℕ) → q < here.chunks → sought before (chunk_rows here c.rows.now q) key side ≡ node_seek (λ i. pass (q * here.slots + i)) (size here q)
  chunk_sought q h =
      let k = chunk c.tree q h in
      let from : ℕ = q * here.slots in
      let to : ℕ = from + size here q in
      let fit : to ≤ length c.rows.now = omega (arith, k.ends, c.all) in
      part_sought before key side (chunk_rows here c.rows.now q) _ (size here q) (length-between c.rows.now from to fit ∙ omega arith)
      (λ i less. ap (passed before key side) (get_or-between c.rows.now from to i key (omega arith)))

  -- what the search of a chunk answers is what the descent has at its leaf
  pub record Leaf (q : ℕ) (found : Counted ℕ) : Type 0 where
    pub place : q * here.slots + found.answer ≡ (at_leaf here pass (Some q)).place
    pub comparisons : found.comparisons ≡ (at_leaf here pass (Some q)).rounds
    pub starts : q * here.slots ≤ 1048576
    pub fits : q * here.slots + found.answer ≤ 1048576

  pub leaf : (part : List K) (found : Counted ℕ) (q : ℕ) → q < here.chunks → part ≡ chunk_rows here c.rows.now q → Seeks before part key side found → Leaf q found
  leaf part found q h is seeks =
      let k = chunk c.tree q h in
      let e = ap (λ p. sought before p key side) is ∙ chunk_sought q h in
      let at : found.answer ≡ (node_seek (λ i. pass (q * here.slots + i)) (size here q)).place = seeks.place ∙ ap (λ (s : Sought). s.place) e in
      let within = (search_boundary (λ i. pass (q * here.slots + i)) (size here q)).within in
      record {
        place = ap (λ n. q * here.slots + n) at;
        comparisons = seeks.comparisons ∙ ap (λ (s : Sought). s.rounds) e;
        starts = omega (arith, k.starts, k.few);
        fits = omega (arith, at, within, k.ends, k.few);
      }

-- equivalent keys are passed alike
pub passed_alike : {K : Type 0} (before : K → K → Bool) → Lawful before → (key : K) (side : Side) (a b : K) → equivalent_under before a b ≡ true → passed before key side a ≡ passed before key side b
passed_alike before lawful key At a b e = (laws lawful).equivalent_before a b key e
passed_alike before lawful key After a b e = ap not ((laws lawful).equivalent_after a b key e)

-- the slot at b × m + i is slot i of node b
slot_place : (g : Shape) (b i : ℕ) → i < g.slots → row_of_slot g (b * g.slots + i) ≡ slot_row g b i
slot_place g b i h = (λ j. slot_row g (digits_div b h j) (digits_mod b h j))

module _ {K : Type 0} {before : K → K → Bool} (x : FrozenIndex K) (o : Open before x) where
  abbrev g : Shape
  g = x.column.tree.shape

  abbrev rows : List K
  rows = x.column.rows.now

  abbrev slots : List K
  slots = x.slots.now

  -- a node's slots, of which the first w - 1 are looked at
  pub record Node (n : ℕ) : Type 0 where
    pub from_in : n * g.slots ≤ length slots
    pub to_in : n * g.slots + (g.children - 1) ≤ length slots
    pub few : n * g.slots + (g.children - 1) ≤ 1048576 * 64 + 64
    pub looked : g.children - 1 ≤ 64
    pub one : 1 ≤ g.children

  pub node : (n : ℕ) → n < g.internal → Node n
  node n h =
      let f : Facts g = facts x.column.tree in
      let some : 1 ≤ g.internal = omega arith in
      let fits : g.children ≤ g.slots + 1 = f.sizes.fits some in
      let narrow : g.slots ≤ 64 = f.sizes.node_few some in
      let two : 2 ≤ g.children = f.lawful.two in
      let past : suc n * g.slots ≤ g.internal * g.slots = mul-le-mul_right g.slots h in
      let most : g.internal * g.slots ≤ g.internal * 64 = mul-le-mul_left g.internal narrow in
      let long : length slots ≡ slots_in g = agree_length before slots (slot_keys g rows) o.agrees ∙ length_slot_keys x.column.tree rows x.column.all in
      let small : g.internal ≤ 1048576 = omega (arith, f.internal_few, f.rows_few) in
      record { from_in = omega arith; to_in = omega arith; few = omega arith; looked = omega arith; one = omega arith }

  pub node_sought : Lawful before → (key : K) (side : Side) (n : ℕ) → n < g.internal
      → sought before (between (n * g.slots) (n * g.slots + (g.children - 1)) slots) key side ≡ at_node g (passed_at before rows key side) n
  node_sought lawful key side n h =
      let f : Facts g = facts x.column.tree in
      let k : Node n = node n h in
      let some : 1 ≤ g.internal = omega arith in
      let fits : g.children ≤ g.slots + 1 = f.sizes.fits some in
      let from : ℕ = n * g.slots in
      let to : ℕ = n * g.slots + (g.children - 1) in
      let long : length (between from to slots) ≡ g.children - 1 = length-between slots from to k.to_in ∙ omega arith in
      let past : suc n * g.slots ≤ g.internal * g.slots = mul-le-mul_right g.slots h in
      part_sought before key side (between from to slots) (λ i. passed_at before rows key side (slot_row g n i)) (g.children - 1) long
      (λ i less.
      let inside : from + i < length slots = omega (arith, k.to_in) in
      let there : from + i < slots_in g = omega (arith, past, fits) in
      ap (passed before key side) (get_or-between slots from to i key (omega arith))
      ∙ passed_alike before lawful key side (get_or slots (from + i) key) (get_or (slot_keys g rows) (from + i) key) (agree_at before slots (slot_keys g rows) (from + i) key o.agrees inside)
      ∙ ap (passed before key side) (slot_key x.column.tree rows x.column.all (from + i) key there ∙ ap (λ r. get_or rows r key) (slot_place g n i (omega (arith, fits)))))
