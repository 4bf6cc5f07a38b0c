-- The walk down a directory, without its count of steps: a node's children have larger numbers than the node.
use Rattle.std.proofs.Common.{◌≡◌, ℕ, zero, suc, ◌+◌, ◌<◌, ◌≤◌, sym, refl, ◌∙◌, inl, inr, le-mul_of_pos_right, arith}
use Rattle.std.proofs.lemmas.Bool.{lt-ltb, le-ltb, cases_lt}
use Rattle.shapes.specs.declared.shape.Shape.{Shape}
use Rattle.shapes.specs.Nodes.{child, along}

-- induction up to I: P holds from I on, and below I if it holds of every larger number
pub upward : (I : ℕ) (P : ℕ → Type 0) → ((c : ℕ) → I ≤ c → P c)
    → ((c : ℕ) → c < I → ((e : ℕ) → c < e → P e) → P c) → (c : ℕ) → P c
upward I P stop step c = go I c (omega arith)
  where
    go : (f c : ℕ) → I ≤ c + f → P c
    go zero c h = stop c (omega arith)
    go (suc f) c h = elim (cases_lt c I) [
      | inl lt ↦ step c lt (λ e more. go f e (omega arith))
      | inr ge ↦ stop c ge
    ]

pub child_above : (g : Shape) (b i : ℕ) → 1 ≤ g.children → b < child g b i
child_above g b i h = omega (arith, le-mul_of_pos_right b h)

pub along_stop : (g : Shape) (i f c : ℕ) → g.internal ≤ c → along g i f c ≡ c
unfolding along
along_stop g i zero c h = refl
along_stop g i (suc f) c h = rw (le-ltb c g.internal h, along)

along_more : (g : Shape) (i f c : ℕ) → 1 ≤ g.children → g.internal ≤ c + f → along g i (suc f) c ≡ along g i f c
unfolding along
along_more g i zero c p h = let k : g.internal ≤ c = omega arith in rw (le-ltb c g.internal k, along)
along_more g i (suc f) c p h = elim (cases_lt c g.internal) [
  | inl lt ↦
      let ih = along_more g i f (child g c i) p (omega (arith, child_above g c i p)) in
      rw (lt-ltb c g.internal lt, along) ih
  | inr ge ↦ along_stop g i (suc (suc f)) c ge ∙ sym (along_stop g i (suc f) c ge)
]

along_first : (g : Shape) (i f c : ℕ) → c < g.internal → along g i (suc f) c ≡ along g i f (child g c i)
unfolding along
along_first g i f c lt = rw (lt-ltb c g.internal lt, along)

pub along_go : (g : Shape) (i c : ℕ) → 1 ≤ g.children → c < g.internal → along g i g.internal c ≡ along g i g.internal (child g c i)
along_go g i c p lt = sym (along_more g i g.internal c p (omega arith)) ∙ along_first g i g.internal c lt
