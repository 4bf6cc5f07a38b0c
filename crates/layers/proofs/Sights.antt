-- What is in sight once rows are hidden: how many rows, which row at a place, the place of a key, the order.
use Rattle.std.proofs.Common.{◌≡◌, ℕ, zero, suc, ◌+◌, ◌-◌, ◌<◌, ◌≤◌, Bool, true, false, cond, not, List, [], ◌∷◌, length, get_or, sym, refl, ap, ◌∙◌, subst, ⊎_elim, add-zero, arith}
use Rattle.std.proofs.lemmas.Bool.{lt-ltb, le-ltb, eq-eqb, ne_eqb, cases_order, cases_lt, cases_Bool, not-false}
use Rattle.std.proofs.ByRecursion.{All-weaker}
use Rattle.std.specs.List.{AllByRecursion}
use Rattle.keys.specs.Order.{Lawful}
use Rattle.keys.specs.Orders.{laws}
use Rattle.indexes.specs.Meaning.{count, passed, place_of, Meaning, Meant}
use Rattle.indexes.specs.declared.index.Side.{Side}
use Rattle.indexes.specs.declared.index.Side.TheVariants.{At, After}
use Rattle.layers.specs.Table.{Ascending, has, under}
use Rattle.layers.specs.Sight.{sighted, out_below}
use Rattle.layers.specs.Hiding.{length_sighted, Sorted, sorted}
use Rattle.layers.proofs.Ascending.{has_none}

-- ---- counts

pub count_le : {K : Type 0} (p : K → Bool) (xs : List K) → count p xs ≤ length xs
count_le p [] = omega arith
count_le p (x ∷ xs) = let ih = count_le p xs in elim (p x) as (λ b. cond b 1 0 + count p xs ≤ suc (length xs)) [ true ↦ omega arith | false ↦ omega arith ]

pub count_sighted_le : {K : Type 0} (p : K → Bool) (out : ℕ → Bool) (xs : List K) → count p (sighted out xs) ≤ count p xs
count_sighted_le p out [] = omega arith
count_sighted_le p out (x ∷ xs) =
    let rest = λ (i : ℕ). out (suc i) in
    let ih : count p (sighted rest xs) ≤ count p xs = count_sighted_le p rest xs in
    elim (out 0) as (λ b. count p (cond b (sighted rest xs) (x ∷ sighted rest xs)) ≤ cond (p x) 1 0 + count p xs) [ true ↦ omega arith | false ↦ omega arith ]

-- a test that fails at a row fails at every later one
abbrev pub Front : {K : Type 0} → (K → Bool) → List K → Type 0
Front p [] = Unit {0}
Front p (x ∷ xs) = (p x ≡ false → count p xs ≡ 0) × Front p xs

pub front_count : {K : Type 0} (p : K → Bool) (out : ℕ → Bool) (xs : List K) → Front p xs → count p (sighted out xs) + out_below out (count p xs) ≡ count p xs
front_count p out [] f = refl
front_count p out (x ∷ xs) f =
    let rest = λ (i : ℕ). out (suc i) in
    let ih : count p (sighted rest xs) + out_below rest (count p xs) ≡ count p xs = front_count p rest xs f.1 in
    ⊎_elim
    (λ e. let c1 : cond (p x) 1 0 + count p xs ≡ suc (count p xs) = rw e (omega arith) in
    let P : ℕ → Type 0 = λ n. count p (sighted out (x ∷ xs)) + out_below out n ≡ n in
    let at_suc : P (suc (count p xs)) = elim (out 0) as (λ b. count p (cond b (sighted rest xs) (x ∷ sighted rest xs)) + (cond b 1 0 + out_below rest (count p xs)) ≡ suc (count p xs)) [ true ↦ omega arith | false ↦ rw e (omega arith) ] in
    subst P (sym c1) at_suc)
    (λ e. let z : count p xs ≡ 0 = f.0 e in
    let le = count_sighted_le p out (x ∷ xs) in
    let zz : cond (p x) 1 0 + count p xs ≡ 0 = rw (e, z) refl in
    let P : ℕ → Type 0 = λ n. count p (sighted out (x ∷ xs)) + out_below out n ≡ n in
    let at_zero : P 0 = omega arith in
    subst P (sym zz) at_zero)
    (cases_Bool (p x))

pub out_below_le : (out : ℕ → Bool) (n : ℕ) → out_below out n ≤ n
out_below_le out zero = omega arith
out_below_le out (suc n) =
    let ih = out_below_le (λ i. out (suc i)) n in
    elim (out 0) as (λ b. cond b 1 0 + out_below (λ i. out (suc i)) n ≤ suc n) [ true ↦ omega arith | false ↦ omega arith ]

pub out_below_more : (out : ℕ → Bool) (n : ℕ) → out_below out (suc n) ≡ out_below out n + cond (out n) 1 0
out_below_more out zero = omega arith
out_below_more out (suc n) = let ih = out_below_more (λ i. out (suc i)) n in omega arith

pub out_below_grows : (out : ℕ → Bool) (n k : ℕ) → out_below out (n + k) ≤ out_below out n + k
out_below_grows out n zero = rw add-zero (omega arith)
out_below_grows out n (suc k) =
    let ih = out_below_grows out n k in
    let e : n + suc k ≡ suc (n + k) = omega arith in
    let m = out_below_more out (n + k) in
    let b : cond (out (n + k)) 1 0 ≤ 1 = elim (out (n + k)) as (λ b. cond b 1 0 ≤ 1) [ true ↦ omega arith | false ↦ omega arith ] in
    rw e (omega arith)

-- ---- the table's numbers

pub under_more : (l : List ℕ) (c : ℕ) → Ascending l → under l (suc c) ≡ under l c + cond (has l c) 1 0
under_more [] c asc = refl
under_more (x ∷ xs) c asc =
    let ih : under xs (suc c) ≡ under xs c + cond (has xs c) 1 0 = under_more xs c (λ i j ij jl. asc (suc i) (suc j) (omega arith) (omega arith)) in
    ⊎_elim
    (λ e. let none : has xs c ≡ false = has_none xs c (λ k l h. let a = asc 0 (suc k) (omega arith) (omega arith) in omega arith) in
    let ih2 : under xs (suc c) ≡ under xs c = ih ∙ rw none (omega arith) in
    rw (lt-ltb x (suc c) (omega arith), le-ltb x c (omega arith), eq-eqb x c e) (omega arith))
    (λ o. ⊎_elim
    (λ l. rw (lt-ltb x (suc c) (omega arith), lt-ltb x c l, ne_eqb x c (λ e. omega arith)) (omega arith))
    (λ g. rw (le-ltb x (suc c) (omega arith), le-ltb x c (omega arith), ne_eqb x c (λ e. omega arith)) (omega arith)) o)
    (cases_order x c)

pub out_under : (l : List ℕ) → Ascending l → (c : ℕ) → out_below (has l) c ≡ under l c
out_under l asc zero = sym (none l)
  where
    none : (l : List ℕ) → under l 0 ≡ 0
    none [] = refl
    none (x ∷ xs) = rw (le-ltb x 0 (omega arith), none xs) refl
out_under l asc (suc c) = out_below_more (has l) c ∙ ap (λ n. n + cond (has l c) 1 0) (out_under l asc c) ∙ sym (under_more l c asc)

-- ---- rows

pub sighted_at : {K : Type 0} (out : ℕ → Bool) (xs : List K) (r j : ℕ) (d : K) → r < length xs → out r ≡ false → j + out_below out r ≡ r → get_or (sighted out xs) j d ≡ get_or xs r d
sighted_at out [] r j d lt free e = absurd (omega arith)
sighted_at out (x ∷ xs) zero j d lt free e =
    let z : j ≡ 0 = omega arith in
    rw (free, z) refl
sighted_at {K} out (x ∷ xs) (suc r) j d lt free e =
    let rest = λ (i : ℕ). out (suc i) in
    ⊎_elim
    (λ o. let e1 : j + out_below rest r ≡ r = (let h : j + (cond (out 0) 1 0 + out_below rest r) ≡ suc r = e in let h2 = rw o at h in omega arith) in
    rw o (sighted_at rest xs r j d (omega arith) free e1))
    (λ o. let h : j + (cond (out 0) 1 0 + out_below rest r) ≡ suc r = e in
    let h2 : j + (0 + out_below rest r) ≡ suc r = rw o at h in
    let le = out_below_le rest r in
    let back : suc (j - 1) ≡ j = omega arith in
    let P : ℕ → Type 0 = λ n. get_or (x ∷ sighted rest xs) n d ≡ get_or xs r d in
    rw o (subst P back (sighted_at rest xs r (j - 1) d (omega arith) free (omega arith))))
    (cases_Bool (out 0))

pub sighted_past : {K : Type 0} (out : ℕ → Bool) (xs : List K) (r j : ℕ) → length xs ≤ r → j + out_below out r ≡ r → length (sighted out xs) ≤ j
sighted_past out xs r j le e =
    let h = length_sighted out xs in
    let g = out_below_grows out (length xs) (r - length xs) in
    let s : length xs + (r - length xs) ≡ r = omega arith in
    let g2 : out_below out r ≤ out_below out (length xs) + (r - length xs) = subst (λ n. out_below out n ≤ out_below out (length xs) + (r - length xs)) s g in
    omega arith

-- ---- places

module _ {K : Type 0} (before : K → K → Bool) (lawful : Lawful before) where
  none_passed : (p : K → Bool) (xs : List K) → AllByRecursion (λ y. p y ≡ false) xs → count p xs ≡ 0
  none_passed p [] a = refl
  none_passed p (x ∷ xs) a = rw (a.0, none_passed p xs a.1) refl

  -- a row behind one that is not passed is not passed
  later : (key : K) (side : Side) (x y : K) → before y x ≡ false → passed before key side x ≡ false → passed before key side y ≡ false
  later key At x y yx px = (laws lawful).chain y x key yx px
  later key After x y yx px = ap not ((laws lawful).before_later key x y (not-false (before key x) px) yx)

  pub front : (key : K) (side : Side) (xs : List K) → Sorted before xs → Front (passed before key side) xs
  front key side [] s = tt
  front key side (x ∷ xs) s =
      ((λ px. none_passed (passed before key side) xs (All-weaker (λ y. before y x ≡ false) (λ y. passed before key side y ≡ false) (λ y h. later key side x y h px) xs s.0)), front key side xs s.1)

-- ---- a strike list, whole

module _ {K : Type 0} {before : K → K → Bool} (lawful : Lawful before) {m : Meaning K} (keeps : Meant before m) where
  pub place_sighted : (l : List ℕ) → Ascending l → (key : K) (side : Side) → place_of before (sighted (has l) m.rows) key side + under l (place_of before m.rows key side) ≡ place_of before m.rows key side
  place_sighted l asc key side =
      let h = front_count (passed before key side) (has l) m.rows (front before lawful key side m.rows (sorted before lawful m.rows keeps.ordered)) in
      let u = out_under l asc (place_of before m.rows key side) in
      omega arith

  pub place_few : (key : K) (side : Side) → place_of before m.rows key side ≤ 1048576
  place_few key side = let h = count_le (passed before key side) m.rows in let f = keeps.few in omega arith

pub len_sighted : {K : Type 0} (rows : List K) (l : List ℕ) → Ascending l → length (sighted (has l) rows) + under l (length rows) ≡ length rows
len_sighted rows l asc = let h = length_sighted (has l) rows in let u = out_under l asc (length rows) in omega arith

pub row_sighted : {K : Type 0} (rows : List K) (l : List ℕ) (r j : ℕ) (d : K) → Ascending l → has l r ≡ false → r ≡ j + under l r → j < length (sighted (has l) rows) → get_or (sighted (has l) rows) j d ≡ get_or rows r d
row_sighted rows l r j d asc free e lt =
    let u = out_under l asc r in
    ⊎_elim
    (λ h. sighted_at (has l) rows r j d h free (omega arith))
    (λ h. let p = sighted_past (has l) rows r j h (omega arith) in absurd (omega arith))
    (cases_lt r (length rows))

pub row_within : {K : Type 0} (rows : List K) (l : List ℕ) (r j : ℕ) → Ascending l → r ≡ j + under l r → j < length (sighted (has l) rows) → r < length rows
row_within rows l r j asc e lt =
    let u = out_under l asc r in
    ⊎_elim (λ h. h) (λ h. let p = sighted_past (has l) rows r j h (omega arith) in absurd (omega arith)) (cases_lt r (length rows))
