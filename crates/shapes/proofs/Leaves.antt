-- The leaves under a node, from left to right: the chunks from where it opens to where it ends.
use Rattle.std.proofs.Common.{◌≡◌, ℕ, zero, suc, ◌+◌, ◌-◌, ◌<◌, ◌≤◌, ◌⊎◌, List, ◌∷◌, ◌++◌, Some, None, Option, sym, refl, ap, ◌∙◌, inl, inr, arith}
use Rattle.std.specs.List.{range_with_len}
use Rattle.std.proofs.lemmas.Bool.{lt-ltb, le-ltb, cases_lt}
use Rattle.shapes.specs.declared.shape.Shape.{Shape}
use Rattle.shapes.specs.Nodes.{child, chunk_at, last_row, slot_row, joined, leaf_chunk, leaves_within, leaves}
use Rattle.shapes.specs.Laws.{last_or}
use Rattle.shapes.proofs.Lawful.{Lawful}
use Rattle.shapes.proofs.Walk.{upward, child_above}
use Rattle.shapes.proofs.Spans.{start_of, end_of, opens, ends, opens_stop, ends_stop, opens_go, ends_go, siblings, opens_below_ends, root_opens, root_ends, row_at, slot_is, last_is, ends_some, ends_most, chunk_high, chunk_low, chunk_none}

-- numbers from a on, and then from where these end
pub counting_append : (m n a : ℕ) → range_with_len a m ++ range_with_len (a + m) n ≡ range_with_len a (m + n)
counting_append zero n a = (λ j. range_with_len (native.Mathlib.Nat.add-zero a j) (sym (native.Mathlib.Nat.zero-add n) j))
counting_append (suc m) n a =
    let e : a + suc m ≡ a + 1 + m = omega arith in
    let f : suc m + n ≡ suc (m + n) = omega arith in
    ap (λ y. a ∷ (range_with_len (a + 1) m ++ range_with_len y n)) e ∙ ap (λ l. a ∷ l) (counting_append m n (a + 1)) ∙ ap (range_with_len a) (sym f)

pub last_counting : (n a d : ℕ) → last_or d (range_with_len a (suc n)) ≡ a + n
last_counting zero a d = sym (native.Mathlib.Nat.add-zero a)
last_counting (suc n) a d = last_counting n (a + 1) a ∙ omega arith

-- one level more changes nothing, once there are enough
leaves_stop : (g : Shape) (f c : ℕ) → g.internal ≤ c → leaves_within g f c ≡ leaf_chunk (chunk_at g c)
unfolding leaves_within
leaves_stop g zero c h = refl
leaves_stop g (suc f) c h = rw (le-ltb c g.internal h, leaves_within)

leaves_first : (g : Shape) (f c : ℕ) → c < g.internal → leaves_within g (suc f) c ≡ joined (λ i. leaves_within g f (child g c i)) g.children
unfolding leaves_within
leaves_first g f c h = rw (lt-ltb c g.internal h, leaves_within)

joined_same : (p q : ℕ → List ℕ) (n : ℕ) → ((i : ℕ) → p i ≡ q i) → joined p n ≡ joined q n
joined_same p q zero same = refl
joined_same p q (suc n) same = (λ j. joined_same p q n same j ++ same n j)

leaves_more : (g : Shape) (f c : ℕ) → 1 ≤ g.children → g.internal ≤ c + f → leaves_within g (suc f) c ≡ leaves_within g f c
leaves_more g zero c one h =
    let k : g.internal ≤ c = omega arith in
    leaves_stop g 1 c k ∙ sym (leaves_stop g zero c k)
leaves_more g (suc f) c one h = elim (cases_lt c g.internal) [
  | inl lt ↦
      leaves_first g (suc f) c lt
      ∙ joined_same (λ i. leaves_within g (suc f) (child g c i)) (λ i. leaves_within g f (child g c i)) g.children
      (λ i. leaves_more g f (child g c i) one (omega (arith, child_above g c i one)))
      ∙ sym (leaves_first g f c lt)
  | inr ge ↦ leaves_stop g (suc (suc f)) c ge ∙ sym (leaves_stop g (suc f) c ge)
]

leaves_go : (g : Shape) (c : ℕ) → 1 ≤ g.children → c < g.internal → leaves g c ≡ joined (λ i. leaves g (child g c i)) g.children
leaves_go g c one lt = sym (leaves_more g g.internal c one (omega arith)) ∙ leaves_first g g.internal c lt

module _ (g : Shape) (ok : Lawful g) where
  -- the chunks under node c
  abbrev span : ℕ → List ℕ
  span c = range_with_len (opens g c) (ends g c - opens g c)

  one_child : 1 ≤ g.children
  one_child = omega (arith, ok.two)

  under_leaf : (v : Option ℕ) → leaf_chunk v ≡ range_with_len (start_of g v) (end_of g v - start_of g v)
  under_leaf (Some q) = let e : q + 1 - q ≡ 1 = omega arith in ap (range_with_len q) (sym e)
  under_leaf None = let e : g.first - g.first ≡ 0 = omega arith in ap (range_with_len g.first) (sym e)

  -- the children up to i - 1 have the chunks up to where the last of them ends
  joined_spans : (c i : ℕ) → i < g.children → ((e : ℕ) → c < e → leaves g e ≡ span e)
      → joined (λ j. leaves g (child g c j)) (suc i) ≡ range_with_len (opens g (child g c 0)) (ends g (child g c i) - opens g (child g c 0))
  joined_spans c zero h ih = ih (child g c 0) (child_above g c 0 one_child)
  joined_spans c (suc i) h ih =
      let e : i + 1 ≡ suc i = omega arith in
      let s : ends g (child g c i) ≡ opens g (child g c (suc i)) = siblings g ok c i (omega arith) ∙ ap (λ y. opens g (child g c y)) e in
      let low : opens g (child g c 0) ≤ ends g (child g c i) = rising c i (omega arith) in
      let high : opens g (child g c (suc i)) ≤ ends g (child g c (suc i)) = opens_below_ends g ok (child g c (suc i)) in
      let o : ℕ = opens g (child g c 0) in
      let m : ℕ = ends g (child g c i) - o in
      let n : ℕ = ends g (child g c (suc i)) - opens g (child g c (suc i)) in
      let at : opens g (child g c (suc i)) ≡ o + m = omega arith in
      let all : m + n ≡ ends g (child g c (suc i)) - o = omega arith in
      (λ j. joined_spans c i (omega arith) ih j ++ ih (child g c (suc i)) (child_above g c (suc i) one_child) j)
      ∙ ap (λ y. range_with_len o m ++ range_with_len y n) at
      ∙ counting_append m n o ∙ ap (range_with_len o) all
    where
      rising : (c i : ℕ) → i < g.children → opens g (child g c 0) ≤ ends g (child g c i)
      rising c zero h = opens_below_ends g ok (child g c 0)
      rising c (suc i) h =
          let e : i + 1 ≡ suc i = omega arith in
          let s : ends g (child g c i) ≡ opens g (child g c (suc i)) = siblings g ok c i (omega arith) ∙ ap (λ y. opens g (child g c y)) e in
          omega (arith, rising c i (omega arith), s, opens_below_ends g ok (child g c (suc i)))

  pub leaves_are : (c : ℕ) → leaves g c ≡ span c
  leaves_are = upward g.internal (λ c. leaves g c ≡ span c)
      (λ c h. leaves_stop g g.internal c h ∙ under_leaf (chunk_at g c)
      ∙ (λ j. range_with_len (sym (opens_stop g ok c h) j) (sym (ends_stop g ok c h) j - sym (opens_stop g ok c h) j)))
      (λ c lt ih.
      let e : suc (g.children - 1) ≡ g.children = omega (arith, ok.two) in
      leaves_go g c one_child lt
      ∙ ap (joined (λ j. leaves g (child g c j))) (sym e)
      ∙ joined_spans c (g.children - 1) (omega (arith, ok.two)) ih
      ∙ (λ j. range_with_len (sym (opens_go g ok c lt) j) (sym (ends_go g ok c lt) j - sym (opens_go g ok c lt) j)))

  pub leaves_of_root : leaves g 0 ≡ range_with_len 0 g.chunks
  leaves_of_root = leaves_are 0 ∙ (λ j. range_with_len (root_opens g ok j) (root_ends g ok j - root_opens g ok j)) ∙ ap (range_with_len 0) (native.Mathlib.Nat.sub-zero g.chunks)

  -- a slot is the last row under its child, or of the first part where there is no leaf
  pub slot_last : (b i : ℕ) → b < g.internal → i < g.children → slot_row g b i ≡ last_row g (last_or (g.first - 1) (leaves g (child g b i)))
  slot_last b i lt h =
      let c : ℕ = child g b i in
      let some : 1 ≤ ends g c = ends_some g ok c (omega arith) in
      let most : ends g c ≤ g.chunks = ends_most g ok c in
      let e : ends g c - 1 + 1 ≡ ends g c = omega arith in
      slot_is g ok b i lt
      ∙ ap (λ y. row_at g y - 1) (sym e)
      ∙ sym (last_is g ok (ends g c - 1) (omega arith))
      ∙ ap (last_row g) (sym (ap (last_or (g.first - 1)) (leaves_are c) ∙ last_of c (omega arith)))
    where
      last_of : (c : ℕ) → 1 ≤ g.internal → last_or (g.first - 1) (span c) ≡ ends g c - 1
      last_of c one = elim (cases_lt (opens g c) (ends g c)) [
        | inl less ↦
            let n : ℕ = ends g c - opens g c - 1 in
            let f : ends g c - opens g c ≡ suc n = omega arith in
            ap (λ y. last_or (g.first - 1) (range_with_len (opens g c) y)) f ∙ last_counting n (opens g c) (g.first - 1) ∙ omega arith
        | inr none ↦
            let z : ends g c - opens g c ≡ 0 = omega arith in
            ap (λ y. last_or (g.first - 1) (range_with_len (opens g c) y)) z ∙ omega (arith, empty_ends c none)
      ]
        where
          -- no leaf under c: it ends with the first part
          empty_ends : (c : ℕ) → ends g c ≤ opens g c → ends g c ≡ g.first
          empty_ends = upward g.internal (λ c. ends g c ≤ opens g c → ends g c ≡ g.first)
              (λ c h none. ends_stop g ok c h ∙ at_none (chunk_at g c) (omega (arith, none, ends_stop g ok c h, opens_stop g ok c h)))
              (λ c below ih none.
              let last : ℕ = child g c (g.children - 1) in
              let first : opens g (child g c 0) ≤ opens g last = opens_rise c (g.children - 1) (omega (arith, ok.two)) in
              ends_go g ok c below ∙ ih last (child_above g c (g.children - 1) one_child)
              (omega (arith, none, ends_go g ok c below, opens_go g ok c below, first)))
            where
              at_none : (v : Option ℕ) → end_of g v ≤ start_of g v → end_of g v ≡ g.first
              at_none (Some q) h = absurd (omega arith)
              at_none None h = refl

              opens_rise : (c i : ℕ) → i < g.children → opens g (child g c 0) ≤ opens g (child g c i)
              opens_rise c zero h = omega arith
              opens_rise c (suc i) h =
                  let e : i + 1 ≡ suc i = omega arith in
                  let s : ends g (child g c i) ≡ opens g (child g c (suc i)) = siblings g ok c i (omega arith) ∙ ap (λ y. opens g (child g c y)) e in
                  omega (arith, opens_rise c i (omega arith), s, opens_below_ends g ok (child g c i))

  -- no chunk is the leaf of two nodes
  pub leaf_once : (c e q : ℕ) → g.internal ≤ c → g.internal ≤ e → chunk_at g c ≡ Some q → chunk_at g e ≡ Some q → c ≡ e
  leaf_once c e q hc he ec ee = elim (where_is c q hc ec) [
    | inl high ↦ elim (where_is e q he ee) [ inl h ↦ omega (arith, hc, he) | inr l ↦ absurd (omega arith) ]
    | inr low ↦ elim (where_is e q he ee) [ inl h ↦ absurd (omega arith) | inr l ↦ omega arith ]
  ]
    where
      where_is : (c q : ℕ) → g.internal ≤ c → chunk_at g c ≡ Some q
          → ((c < g.upper) × (q ≡ g.first + (c - g.internal))) ⊎ ((g.upper ≤ c) × (q ≡ c - g.upper) × (q < g.first))
      where_is c q h e = elim (cases_lt c g.upper) [
        | inl lt ↦ inl (lt, (let z = chunk_high g c lt in cc))
        | inr ge ↦ elim (cases_lt (c - g.upper) g.first) [
          | inl low ↦
              let f : q ≡ c - g.upper = let z = chunk_low g c ge low in cc in
              inr (ge, f, omega arith)
          | inr past ↦
              let z : ◌≡◌ {A = ℕ} 0 1 = let y = chunk_none g c ge past in cc in
              absurd (omega arith)
        ]
      ]
