-- What a frozen column means holds, under each allowed layout; and an opened index stands on its slots.
use Rattle.std.proofs.Common.{◌≡◌, ℕ, zero, suc, ◌+◌, ◌-◌, ◌*◌, ◌≤◌, min, Bool, true, List, length, Some, sym, refl, ap, ◌∙◌, subst, mul-le-mul, arith}
use Rattle.keys.specs.Order.{Lawful}
use Rattle.indexes.specs.declared.index.Side.{Side}
use Rattle.indexes.specs.declared.layout.Layout.{Layout}
use Rattle.indexes.specs.declared.layout.Layout.TheVariants.{Bare, Full, Level}
use Rattle.indexes.specs.Meaning.{Meant, Ordered, place_of}
use Rattle.indexes.specs.Seeking.{Sought, halving, passed_at, sought, bits, Cut}
use Rattle.indexes.proofs.Halving.{halving_same, bits_le}
use Rattle.indexes.proofs.Counting.{sought_cut, sought_place}
use Rattle.shapes.specs.declared.shape.Shape.{Shape}
use Rattle.shapes.specs.Numbers.{one_chunk}
use Rattle.shapes.specs.Nodes.{chunk_at}
use Rattle.shapes.specs.Descent.{node_seek, at_leaf, descend, descent, most_rounds}
use Rattle.shapes.specs.Layouts.{allowed, shape_under, ceiling_under}
use Rattle.shapes.proofs.Spans.{chunk_low}
use Rattle.shapes.proofs.Descended.{descend_stop}
use Rattle.shapes.proofs.Sizes.{rows_under}
use Rattle.shapes.proofs.Trees.{shapely_under, ceiling_is}
use Rattle.directories.specs.declared.column.Column.{Column}
use Rattle.directories.specs.declared.frozen.FrozenIndex.{FrozenIndex}
use Rattle.directories.specs.declared.tree.Tree.{Tree}
use Rattle.directories.specs.Frozen.{Open, column_of, layout_of}
use Rattle.directories.specs.Meanings.{sought_under, frozen, AnyLayout}
use Rattle.directories.specs.Slots.{slot_keys, agree}
use Rattle.directories.proofs.TreeFacts.{Facts, facts_under}

-- a descent through no node is one search of the column
bare_leaf : (pass : ℕ → Bool) (n : ℕ) → at_leaf (one_chunk n) pass (Some 0) ≡ node_seek pass n
bare_leaf pass n =
    let all : min n (n - 0 * n) ≡ n = omega arith in
    let same : node_seek (λ i. pass (0 * n + i)) (min n (n - 0 * n)) ≡ node_seek pass n =
    ap (node_seek (λ i. pass (0 * n + i))) all ∙ halving_same (λ i. pass (0 * n + i)) pass n n 0 n (omega arith) (λ i lt. (let e : 0 * n + i ≡ i = omega arith in ap pass e)) in
    let first : 0 * n + (node_seek pass n).place ≡ (node_seek pass n).place = omega arith in
    ap (λ (s : Sought). record { place = 0 * n + s.place; rounds = s.rounds }) same ∙ ap (λ (y : ℕ). record { place = y; rounds = (node_seek pass n).rounds }) first

bare_chunk : (n : ℕ) → chunk_at (one_chunk (suc n)) 0 ≡ Some 0
bare_chunk n = chunk_low (one_chunk (suc n)) 0 (omega arith) (omega arith)

bare_descent : (pass : ℕ → Bool) (n : ℕ) → descent (one_chunk n) pass ≡ node_seek pass n
unfolding descend halving
bare_descent pass zero = refl
bare_descent pass (suc n) =
    descend_stop (one_chunk (suc n)) pass 0 0 (omega arith) ∙ ap (at_leaf (one_chunk (suc n)) pass) (bare_chunk n) ∙ bare_leaf pass (suc n)

pub descent_under : {K : Type 0} (before : K → K → Bool) (layout : Layout) (rows : List K) (key : K) (side : Side)
    → descent (shape_under layout (length rows)) (passed_at before rows key side) ≡ sought_under before layout rows key side
descent_under before Bare rows key side = bare_descent (passed_at before rows key side) (length rows)
descent_under before (Full m) rows key side = refl
descent_under before (Level m) rows key side = refl

-- the ceiling of a shape is that of its layout, and small
pub record Ceiling (layout : Layout) (n : ℕ) (g : Shape) : Type 0 where
  pub is : most_rounds g ≡ ceiling_under layout n
  pub some : 1 ≤ g.children
  pub levels_few : g.levels ≤ 1048576
  pub most_few : most_rounds g ≤ 7340053

pub ceiling : (layout : Layout) (n : ℕ) (g : Shape) → allowed layout ≡ true → n ≤ 1048576 → g ≡ shape_under layout n → Ceiling layout n g
ceiling layout n g fine small is =
    let rows_few : g.rows ≤ 1048576 = omega (arith, ap (λ (s : Shape). s.rows) is, rows_under layout n) in
    let f : Facts g = facts_under layout n g fine small rows_few is in
    let wide : g.children ≤ 65 = f.sizes.children_few in
    let two : 2 ≤ g.children = f.lawful.two in
    let a : g.levels ≤ 1048576 = omega (arith, f.levels_few, f.internal_few) in
    let b : bits (g.children - 1) ≤ 7 = bits_le 7 (g.children - 1) (omega arith) in
    let c : bits g.slots ≤ 21 = bits_le 21 g.slots (omega (arith, f.sizes.slots_few)) in
    let p : g.levels * bits (g.children - 1) ≤ 1048576 * 7 = mul-le-mul a b in
    record { is = ap most_rounds is ∙ ceiling_is layout n fine; some = omega arith; levels_few = a; most_few = omega arith }

pub tree_ceiling : (t : Tree) → Ceiling t.layout t.shape.rows t.shape
tree_ceiling t = ceiling t.layout t.shape.rows t.shape t.fine t.few t.shaped

pub tree_rounds : (t : Tree) → t.shape.levels * bits (t.shape.children - 1) + bits t.shape.slots ≡ ceiling_under t.layout t.shape.rows
tree_rounds t = (tree_ceiling t).is

pub rounds_few : (t : Tree) → t.shape.levels * bits (t.shape.children - 1) + bits t.shape.slots ≤ 7340053
rounds_few t = (tree_ceiling t).most_few

module _ {K : Type 0} (before : K → K → Bool) where
  capped : (layout : Layout) (rows : List K) → allowed layout ≡ true → (key : K) (side : Side) → (sought_under before layout rows key side).rounds ≤ ceiling_under layout (length rows)
  capped layout rows fine key side =
      let pass = passed_at before rows key side in
      let e : (shape_under layout (length rows)).rows ≡ length rows = rows_under layout (length rows) in
      omega (arith, (shapely_under layout (length rows) fine).descent_capped pass, ap (ceiling_under layout) e, ap (λ (s : Sought). s.rounds) (descent_under before layout rows key side))

  pub meant : (layout : Layout) (rows : List K) → allowed layout ≡ true → length rows ≤ 1048576 → Ordered before rows → Meant before (frozen before layout rows)
  meant layout rows fine few up =
      let c : Ceiling layout (length rows) (shape_under layout (length rows)) = ceiling layout (length rows) (shape_under layout (length rows)) fine few refl in
      record { ordered = up; few = few; capped = capped layout rows fine; modest = omega (arith, c.is, c.most_few) }

  -- every layout finds the place that counting gives
  pub any_layout : Lawful before → (rows : List K) → Ordered before rows → AnyLayout before rows
  any_layout lawful rows up layout fine key side =
      let n = length rows in
      let pass = passed_at before rows key side in
      let cut = sought_cut before lawful rows up key side in
      let e : (shape_under layout n).rows ≡ n = rows_under layout n in
      ap (λ (s : Sought). s.place) (sym (descent_under before layout rows key side))
      ∙ (shapely_under layout n fine).tree.descent_finds pass (sought before rows key side).place (subst (λ k. Cut pass k (sought before rows key side).place) (sym e) cut)
      ∙ sought_place before lawful rows up key side

pub column_shaped : {K : Type 0} (c : Column K) → c.tree.shape ≡ shape_under c.tree.layout (length c.rows.now)
column_shaped c = c.tree.shaped ∙ ap (shape_under c.tree.layout) (sym c.all)

module _ {K : Type 0} (before : K → K → Bool) (x : FrozenIndex K) where
  -- rows in order, and slots that agree with them
  pub opened : Ordered before (column_of x) → agree before x.slots.now (slot_keys x.column.tree.shape (column_of x)) ≡ true → Open before x
  opened up agrees =
      let t = x.column.tree in
      record { fine = t.fine; shaped = column_shaped x.column; agrees = agrees; meant = meant before t.layout (column_of x) t.fine (omega (arith, x.column.all, t.few)) up }

  -- the descent through the tree of an opened index is what its layout means
  pub record Placed (key : K) (side : Side) (s : Sought) : Type 0 where
    pub place : s.place ≡ place_of before (column_of x) key side
    pub rounds : s.rounds ≡ (sought_under before (layout_of x) (column_of x) key side).rounds

  pub placed : Lawful before → Open before x → (key : K) (side : Side) → Placed key side (descent x.column.tree.shape (passed_at before (column_of x) key side))
  placed lawful o key side =
      let e = ap (λ (g : Shape). descent g (passed_at before (column_of x) key side)) o.shaped ∙ descent_under before (layout_of x) (column_of x) key side in
      record {
        place = ap (λ (s : Sought). s.place) e ∙ any_layout before lawful (column_of x) o.meant.ordered (layout_of x) o.fine key side;
        rounds = ap (λ (s : Sought). s.rounds) e;
      }
