-- The span of a node: the chunks from `opens` up to `ends` lie under it. Children share out their parent's span in order.
use Rattle.std.proofs.Common.{◌≡◌, ℕ, zero, suc, ◌+◌, ◌-◌, ◌*◌, ◌<◌, ◌≤◌, min, ◌≢◌, Some, None, Option, sym, refl, ap, ◌∙◌, inl, inr, mul-le-mul_right, mul-le-mul_left, arith}
use native.Mathlib.Nat.{eq_of_mul-eq-mul_left}
use Rattle.std.proofs.lemmas.Bool.{lt-ltb, le-ltb, cases_lt, cond-true, cond-false}
use Rattle.shapes.specs.declared.shape.Shape.{Shape}
use Rattle.shapes.specs.Nodes.{chunk_at, child, along, last_row, last_held, slot_row}
use Rattle.shapes.proofs.Lawful.{Lawful, starts}
use Rattle.shapes.proofs.Walk.{upward, child_above, along_stop, along_go}

-- the chunks before the end of node c, which is a leaf or no leaf, and before its start
abbrev pub end_of : Shape → Option ℕ → ℕ
end_of g (Some q) = q + 1
end_of g None = g.first

abbrev pub start_of : Shape → Option ℕ → ℕ
start_of g (Some q) = q
start_of g None = g.first

unfoldable pub ends : Shape → ℕ → ℕ
ends g c = end_of g (chunk_at g (along g (g.children - 1) g.internal c))

unfoldable pub opens : Shape → ℕ → ℕ
opens g c = start_of g (chunk_at g (along g 0 g.internal c))

-- the row that chunk q starts at, or n
abbrev pub row_at : Shape → ℕ → ℕ
row_at g q = min (q * g.slots) g.rows

pub chunk_high : (g : Shape) (c : ℕ) → c < g.upper → chunk_at g c ≡ Some (g.first + (c - g.internal))
chunk_high g c h = cond-true _ _ _ (lt-ltb c g.upper h)

pub chunk_low : (g : Shape) (c : ℕ) → g.upper ≤ c → c - g.upper < g.first → chunk_at g c ≡ Some (c - g.upper)
chunk_low g c h k = cond-false _ _ _ (le-ltb c g.upper h) ∙ cond-true _ _ _ (lt-ltb (c - g.upper) g.first k)

pub chunk_none : (g : Shape) (c : ℕ) → g.upper ≤ c → g.first ≤ c - g.upper → chunk_at g c ≡ None
chunk_none g c h k = cond-false _ _ _ (le-ltb c g.upper h) ∙ cond-false _ _ _ (le-ltb (c - g.upper) g.first k)

-- the four ends in numbers
pub end_high : (g : Shape) (c : ℕ) → c < g.upper → end_of g (chunk_at g c) ≡ g.first + (c - g.internal) + 1
end_high g c h = rw (chunk_high g c h)

pub end_low : (g : Shape) (c : ℕ) → g.upper ≤ c → end_of g (chunk_at g c) ≡ min (c - g.upper + 1) g.first
end_low g c h = elim (cases_lt (c - g.upper) g.first) [
  | inl lt ↦ rw (chunk_low g c h lt) (omega arith)
  | inr ge ↦ rw (chunk_none g c h ge) (omega arith)
]

pub start_high : (g : Shape) (c : ℕ) → c < g.upper → start_of g (chunk_at g c) ≡ g.first + (c - g.internal)
start_high g c h = rw (chunk_high g c h)

pub start_low : (g : Shape) (c : ℕ) → g.upper ≤ c → start_of g (chunk_at g c) ≡ min (c - g.upper) g.first
start_low g c h = elim (cases_lt (c - g.upper) g.first) [
  | inl lt ↦ rw (chunk_low g c h lt) (omega arith)
  | inr ge ↦ rw (chunk_none g c h ge) (omega arith)
]

module _ (g : Shape) (ok : Lawful g) where
  pub ends_stop : (c : ℕ) → g.internal ≤ c → ends g c ≡ end_of g (chunk_at g c)
  unfolding ends
  ends_stop c h = rw (along_stop g (g.children - 1) g.internal c h)

  pub opens_stop : (c : ℕ) → g.internal ≤ c → opens g c ≡ start_of g (chunk_at g c)
  unfolding opens
  opens_stop c h = rw (along_stop g 0 g.internal c h)

  pub ends_go : (c : ℕ) → c < g.internal → ends g c ≡ ends g (child g c (g.children - 1))
  unfolding ends
  ends_go c h = ap (λ y. end_of g (chunk_at g y)) (along_go g (g.children - 1) c (omega (arith, ok.two)) h)

  pub opens_go : (c : ℕ) → c < g.internal → opens g c ≡ opens g (child g c 0)
  unfolding opens
  opens_go c h = ap (λ y. start_of g (chunk_at g y)) (along_go g 0 c (omega (arith, ok.two)) h)

  -- c is not the last node of its depth
  abbrev Inside : ℕ → Type 0
  Inside c = (d : ℕ) → c + 1 ≡ starts g.children d → ⊥

  pub times : (i : ℕ) → g.children * i ≡ (g.children - 1) * i + i
  times i =
      let s : suc (g.children - 1) ≡ g.children = omega (arith, ok.two) in
      let p : suc (g.children - 1) * i ≡ g.children * i = ap (λ y. y * i) s in
      omega arith

  inside_last : (c : ℕ) → Inside c → Inside (child g c (g.children - 1))
  unfolding starts
  inside_last c h zero e = omega arith
  inside_last c h (suc d) e = h d
      (eq_of_mul-eq-mul_left g.children (omega (arith, ok.two)) (c + 1) (starts g.children d) (omega (arith, ok.two)))

  meets_bottom : (c : ℕ) → g.internal ≤ c → Inside c → end_of g (chunk_at g c) ≡ start_of g (chunk_at g (c + 1))
  meets_bottom c h inside =
      let apart : c + 1 ≡ g.upper → ⊥ = λ e. inside g.levels (e ∙ ok.upper) in
      elim (cases_lt (c + 1) g.upper) [
        | inl lt ↦ rw (end_high g c (omega arith), start_high g (c + 1) lt) (omega arith)
        | inr ge ↦ rw (end_low g c (omega arith), start_low g (c + 1) ge) (omega arith)
      ]

  pub first_some : 1 ≤ g.internal → 1 ≤ g.first
  first_some h = ok.first (omega (arith, ok.many h))

  -- the children of the internal nodes reach past U, and hold the first part
  pub reach : 1 ≤ g.internal → g.upper + g.first ≤ g.children * g.internal + 1
  reach h = omega (arith, times g.internal, ok.room h)

  next_last : (c : ℕ) → child g c (g.children - 1) + 1 ≡ child g (c + 1) 0
  next_last c = omega (arith, ok.two)

  meets_between : (c : ℕ) → c + 1 ≡ g.internal → g.internal ≢ g.upper → end_of g (chunk_at g (child g c (g.children - 1))) ≡ start_of g (chunk_at g (c + 1))
  meets_between c e ne =
      let h : 1 ≤ g.internal = omega arith in
      let r : g.upper + g.first ≤ g.children * g.internal + 1 = reach h in
      let s : 1 ≤ g.first = first_some h in
      let p : (c + 1) * g.children ≡ g.internal * g.children = ap (λ y. y * g.children) e in
      let q : child g c (g.children - 1) ≡ g.children * g.internal = omega (arith, ok.two) in
      rw (end_low g (child g c (g.children - 1)) (omega arith), start_high g (c + 1) (omega arith)) (omega arith)

  pub meets : (c : ℕ) → Inside c → ends g c ≡ opens g (c + 1)
  meets = upward g.internal (λ c. Inside c → ends g c ≡ opens g (c + 1))
      (λ c h inside. rw (ends_stop c h, opens_stop (c + 1) (omega arith)) (meets_bottom c h inside))
      (λ c lt ih inside.
      let one : 1 ≤ g.children = omega (arith, ok.two) in
      let up : c < child g c (g.children - 1) = child_above g c (g.children - 1) one in
      elim (cases_lt (c + 1) g.internal) [
        | inl more ↦
            ends_go c lt ∙ ih (child g c (g.children - 1)) up (inside_last c inside)
            ∙ ap (opens g) (next_last c) ∙ sym (opens_go (c + 1) more)
        | inr ge ↦
            let e : c + 1 ≡ g.internal = omega arith in
            let ne : g.internal ≢ g.upper = λ s. inside g.levels (e ∙ s ∙ ok.upper) in
            ends_go c lt ∙ ends_stop (child g c (g.children - 1)) (omega arith)
            ∙ meets_between c e ne ∙ sym (opens_stop (c + 1) ge)
      ])

  -- neighbours under one parent
  inside_child : (b i : ℕ) → i + 1 < g.children → Inside (child g b i)
  unfolding starts
  inside_child b i h zero e = omega arith
  inside_child b i h (suc d) e = elim (cases_lt b (starts g.children d)) [
    | inl lt ↦ omega (arith, mul-le-mul_left g.children lt)
    | inr ge ↦ omega (arith, mul-le-mul_left g.children ge)
  ]

  pub siblings : (b i : ℕ) → i + 1 < g.children → ends g (child g b i) ≡ opens g (child g b (i + 1))
  siblings b i h =
      let e : child g b i + 1 ≡ child g b (i + 1) = omega arith in
      meets (child g b i) (inside_child b i h) ∙ ap (opens g) e

  pub opens_below_ends : (c : ℕ) → opens g c ≤ ends g c
  opens_below_ends = upward g.internal (λ c. opens g c ≤ ends g c)
      (λ c h. rw (ends_stop c h, opens_stop c h) (bottoms c))
      (λ c lt ih. rw (ends_go c lt, opens_go c lt) (chain c ih (g.children - 1) (omega (arith, ok.two))))
    where
      bottoms : (c : ℕ) → start_of g (chunk_at g c) ≤ end_of g (chunk_at g c)
      bottoms c = elim (chunk_at g c) as (λ v. start_of g v ≤ end_of g v) [ Some q ↦ omega arith | None ↦ omega arith ]

      chain : (c : ℕ) → ((e : ℕ) → c < e → opens g e ≤ ends g e) → (i : ℕ) → i < g.children → opens g (child g c 0) ≤ ends g (child g c i)
      chain c ih zero h = ih (child g c 0) (child_above g c 0 (omega arith))
      chain c ih (suc i) h =
          let e : i + 1 ≡ suc i = omega arith in
          let s : ends g (child g c i) ≡ opens g (child g c (suc i)) = rw e at (siblings c i (omega arith)) in
          omega (arith, chain c ih i (omega arith), s, ih (child g c (suc i)) (child_above g c (suc i) (omega arith)))

  pub ends_rise : (b i j : ℕ) → i ≤ j → j < g.children → ends g (child g b i) ≤ ends g (child g b j)
  ends_rise b i zero le h = let e : i ≡ 0 = omega arith in rw e (omega arith)
  ends_rise b i (suc j) le h = elim (cases_lt j i) [
    | inl lt ↦ let e : i ≡ suc j = omega arith in rw e (omega arith)
    | inr ge ↦
        let e : j + 1 ≡ suc j = omega arith in
        let s : ends g (child g b j) ≡ opens g (child g b (suc j)) = rw e at (siblings b j (omega arith)) in
        omega (arith, ends_rise b i j ge (omega arith), s, opens_below_ends (child g b (suc j)))
  ]

  -- the first node of each depth starts with the first chunk
  left_edge : (j d : ℕ) → d + j ≡ g.levels → opens g (starts g.children d) ≡ 0
  unfolding starts
  left_edge zero d e =
      let k : d ≡ g.levels = omega arith in
      let u : starts g.children d ≡ g.upper = ap (starts g.children) k ∙ sym ok.upper in
      rw (u, opens_stop g.upper (omega (arith, ok.inner)), start_low g g.upper (omega arith)) (omega arith)
  left_edge (suc j) d e =
      let next : child g (starts g.children d) 0 ≡ starts g.children (suc d) = omega arith in
      opens_go (starts g.children d) (ok.deep d (omega arith)) ∙ ap (opens g) next ∙ left_edge j (suc d) (omega arith)

  pub root_opens : opens g 0 ≡ 0
  unfolding starts
  root_opens = left_edge g.levels 0 (omega arith)

  -- the last node of each depth down to a leaf ends with the last chunk
  right_edge : (j d c : ℕ) → d + j ≡ g.levels → (d ≡ g.levels → g.internal ≡ g.upper) → c + 1 ≡ starts g.children (suc d) → ends g c ≡ g.chunks
  unfolding starts
  right_edge zero d c e whole at =
      let k : d ≡ g.levels = omega arith in
      let i : g.internal ≡ g.upper = whole k in
      let u : starts g.children d ≡ g.upper = ap (starts g.children) k ∙ sym ok.upper in
      let p : g.children * starts g.children d ≡ g.children * g.upper = ap (λ y. g.children * y) u in
      let t : g.children * g.upper ≡ (g.children - 1) * g.upper + g.upper = times g.upper in
      let q : (g.children - 1) * g.internal ≡ (g.children - 1) * g.upper = ap (λ y. (g.children - 1) * y) i in
      rw (ends_stop c (omega arith), end_low g c (omega arith)) (elim (cases_lt 0 g.internal) [
        | inl some ↦ let r : g.chunks ≤ (g.children - 1) * g.internal + 1 = ok.room some in omega (arith, ok.parts, ok.inner)
        | inr none ↦ let r : g.chunks ≤ 1 = (ok.none (omega arith)).0 in omega (arith, ok.parts, ok.inner)
      ])
  right_edge (suc j) d c e whole at = elim (cases_lt c g.internal) [
    | inl lt ↦
        ends_go c lt
        ∙ right_edge j (suc d) (child g c (g.children - 1)) (omega arith)
        (λ k. let u : starts g.children (suc d) ≡ g.upper = ap (starts g.children) k ∙ sym ok.upper in omega (arith, ok.inner))
        (let p : g.children * (c + 1) ≡ g.children * starts g.children (suc d) = ap (λ y. g.children * y) at in omega (arith, ok.two))
    | inr ge ↦
        elim (cases_lt (suc d) g.levels) [
          | inl less ↦ absurd (omega (arith, ok.deep (suc d) less))
          | inr last ↦
              let k : suc d ≡ g.levels = omega arith in
              let u : starts g.children (suc d) ≡ g.upper = ap (starts g.children) k ∙ sym ok.upper in
              rw (ends_stop c ge, end_high g c (omega arith)) (omega (arith, ok.inner, ok.parts))
        ]
  ]

  pub root_ends : ends g 0 ≡ g.chunks
  unfolding starts
  root_ends = right_edge g.levels 0 0 (omega arith)
      (λ z. let u : g.upper ≡ 0 = ok.upper ∙ sym (ap (starts g.children) z) in omega (arith, ok.inner))
      (omega arith)

  along_down : (i c : ℕ) → g.internal ≤ along g i g.internal c
  along_down i = upward g.internal (λ c. g.internal ≤ along g i g.internal c)
      (λ c h. rw (along_stop g i g.internal c h) h)
      (λ c lt ih.
      let one : 1 ≤ g.children = omega (arith, ok.two) in
      rw (along_go g i c one lt) (ih (child g c i) (child_above g c i one)))

  -- a leaf's chunk is one of the N, and starts before the end of the column
  pub leaf_below : (c q : ℕ) → g.internal ≤ c → chunk_at g c ≡ Some q → q < g.chunks
  leaf_below c q h e = elim (cases_lt c g.upper) [
    | inl lt ↦
        let f : q ≡ g.first + (c - g.internal) = let z = chunk_high g c lt in cc in
        omega (arith, ok.inner, ok.parts)
    | inr ge ↦ elim (cases_lt (c - g.upper) g.first) [
      | inl low ↦
          let f : q ≡ c - g.upper = let z = chunk_low g c ge low in cc in
          omega (arith, ok.parts)
      | inr past ↦
          let z : ◌≡◌ {A = ℕ} 0 1 = let y = chunk_none g c ge past in cc in
          omega arith
    ]
  ]

  pub chunk_starts : (q : ℕ) → q < g.chunks → q * g.slots < g.rows
  chunk_starts q h = omega (arith, mul-le-mul_right g.slots h, ok.rows_over, ok.some (omega arith))

  pub last_is : (q : ℕ) → q < g.chunks → last_row g q ≡ row_at g (q + 1) - 1
  last_is q h = omega (arith, chunk_starts q h, ok.some (omega arith))

  held_is : (c : ℕ) → 1 ≤ g.internal → g.internal ≤ c → last_held g (chunk_at g c) ≡ row_at g (end_of g (chunk_at g c)) - 1
  held_is c some h =
      let s : 1 ≤ g.first = first_some some in
      go (chunk_at g c) refl s
    where
      go : (v : Option ℕ) → chunk_at g c ≡ v → 1 ≤ g.first → last_held g v ≡ row_at g (end_of g v) - 1
      go (Some q) e s = last_is q (leaf_below c q h e)
      go None e s =
          let f : g.first - 1 + 1 ≡ g.first = omega arith in
          last_is (g.first - 1) (omega (arith, ok.parts)) ∙ ap (λ y. row_at g y - 1) f

  -- a slot in closed form
  pub slot_is : (b i : ℕ) → b < g.internal → slot_row g b i ≡ row_at g (ends g (child g b i)) - 1
  unfolding slot_row ends
  slot_is b i h = held_is (along g (g.children - 1) g.internal (child g b i)) (omega arith) (along_down (g.children - 1) (child g b i))

  pub ends_some : (c : ℕ) → 1 ≤ g.internal → 1 ≤ ends g c
  unfolding ends
  ends_some c h =
      let s : 1 ≤ g.first = first_some h in
      elim (chunk_at g (along g (g.children - 1) g.internal c)) as (λ v. 1 ≤ end_of g v) [ Some q ↦ omega arith | None ↦ s ]

  pub ends_most : (c : ℕ) → ends g c ≤ g.chunks
  unfolding ends
  ends_most c = go (chunk_at g (along g (g.children - 1) g.internal c)) refl
    where
      go : (v : Option ℕ) → chunk_at g (along g (g.children - 1) g.internal c) ≡ v → end_of g v ≤ g.chunks
      go (Some q) e = omega (arith, leaf_below (along g (g.children - 1) g.internal c) q (along_down (g.children - 1) c) e)
      go None e = omega (arith, ok.parts)

  pub rows_some : 1 ≤ g.internal → 1 ≤ g.rows
  rows_some h = omega (arith, chunk_starts 0 (omega (arith, ok.many h)))

  pub slot_below : (b i : ℕ) → b < g.internal → slot_row g b i < g.rows
  slot_below b i h = rw (slot_is b i h) (omega (arith, rows_some (omega arith)))
