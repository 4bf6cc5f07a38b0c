-- Which numbers are in a list after an edit, and how many are below a bound.
use Rattle.std.proofs.Common.{◌≡◌, ℕ, suc, ◌+◌, ◌<◌, Bool, true, false, cond, ◌||◌, eqb, List, [], ◌∷◌, ◌++◌, length, get_or, take, drop, sym, refl, ap, ◌∙◌, ⊎_elim, arith, drop-cons}
use Rattle.std.proofs.lemmas.Bool.{lt-ltb, eq-eqb, ne_eqb, cases_eq, cases_lt}
use Rattle.std.proofs.lemmas.List.{take-append-drop}
use Rattle.std.proofs.lemmas.List.Edits.{length-remove, get_or-remove_below, get_or-remove_above}
use Rattle.std.specs.List.{insert, remove}
use Rattle.layers.specs.Table.{Ascending, has, under, Within}
use Rattle.layers.proofs.Ascending.{has_none}

or_assoc : (a b c : Bool) → ((a || b) || c) ≡ (a || (b || c))
or_assoc true b c = refl
or_assoc false b c = refl

pub has_append : (xs ys : List ℕ) (q : ℕ) → has (xs ++ ys) q ≡ (has xs q || has ys q)
has_append [] ys q = refl
has_append (x ∷ xs) ys q = rw (has_append xs ys q) (sym (or_assoc (eqb x q) (has xs q) (has ys q)))

or_true : (a : Bool) → (a || true) ≡ true
or_true true = refl
or_true false = refl

pub has_inserted : (l : List ℕ) (i r q : ℕ) → has (insert l i r) q ≡ cond (eqb q r) true (has l q)
has_inserted l i r q =
    has_append (take i l) (r ∷ drop i l) q ∙ ⊎_elim
    (λ e. rw (eq-eqb r q (sym e), eq-eqb q r e) (or_true (has (take i l) q)))
    (λ ne. rw (ne_eqb r q (λ e. ne (sym e)), ne_eqb q r ne) (sym (has_append (take i l) (drop i l) q) ∙ ap (λ m. has m q) (take-append-drop i l)))
    (cases_eq q r)

pub parts : (l : List ℕ) (i : ℕ) → i < length l → l ≡ take i l ++ (get_or l i 0 ∷ drop (suc i) l)
parts l i lt = sym (take-append-drop i l) ∙ ap (λ m. take i l ++ m) (drop-cons l i 0 lt)

pub has_removed : (l : List ℕ) (i r q : ℕ) → Ascending l → i < length l → get_or l i 0 ≡ r → has (remove l i) q ≡ cond (eqb q r) false (has l q)
has_removed l i r q asc lt e =
    let len = length-remove l i lt in
    ⊎_elim
    (λ same. rw (eq-eqb q r same) (has_none (remove l i) q (λ k kl h. ⊎_elim
    (λ b. let g = get_or-remove_below l i 0 k b lt in let a = asc k i b lt in omega arith)
    (λ g. let f = get_or-remove_above l i 0 k g lt in let a = asc i (k + 1) (omega arith) (omega arith) in omega arith)
    (cases_lt k i))))
    (λ ne. rw (ne_eqb q r ne) (has_append (take i l) (drop (suc i) l) q ∙ sym (
    ap (λ m. has m q) (parts l i lt) ∙ has_append (take i l) (get_or l i 0 ∷ drop (suc i) l) q ∙ rw (ne_eqb (get_or l i 0) q (λ h. ne (sym h ∙ e))) refl)))
    (cases_eq q r)

-- where each number is below n, as many are below it as there are
pub under_all : (l : List ℕ) (n : ℕ) → Within l n → under l n ≡ length l
under_all [] n w = refl
under_all (x ∷ xs) n w =
    let here : x < n = w x (rw (eq-eqb x x refl) refl) in
    let rest = under_all xs n (λ r h. w r (rw h (or_true (eqb x r)))) in
    rw (lt-ltb x n here) (omega arith)
