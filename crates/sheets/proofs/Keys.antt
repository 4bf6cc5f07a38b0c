-- Keys that stand one after the other in bytes, read part by part.
use Rattle.std.proofs.Common.{◌≡◌, ℕ, zero, suc, ◌-◌, ◌*◌, ◌/◌, ◌<◌, ◌≤◌, List, ◌∷◌, ◌++◌, length, take, drop, Some, None, sym, refl, ap, ◌∙◌, add-one, arith, length-append, length-drop, Bor}
use Rattle.std.proofs.Math.Nat.{div-eq_of_lt, div-eq-sub-div, div-mul-le_self}
use Rattle.std.proofs.lemmas.Bool.{eq-eqb}
use Rattle.std.proofs.lemmas.Iterator.{YieldsList}
use Rattle.std.proofs.lemmas.Iterator.Splits.{YieldsList-from_shown_while}
use Rattle.std.proofs.lemmas.List.{length-take-le, take_at, drop_at}
use Rattle.std.specs.declared.slice.ChunksExact.{ChunksExact}
use Rattle.std.specs.List.{filter_map, cons_option}
use Rattle.std.specs.Simd.{first_chunks}
use Rattle.std.specs.Slice.Iter.{chunks_exact_steps, chunks_exact_size, chunks_exact_rest}
use Rattle.sheets.specs.Grammar.{when}
use Rattle.sheets.specs.Said.{key_of, first_keys, keys_of}

-- the parts of w bytes that are left
abbrev pub parts : ℕ → List ℕ → List (List ℕ)
parts w bs = first_chunks w (length bs / w) bs

abbrev pub left : ChunksExact ℕ → List (List ℕ)
left s = parts (chunks_exact_size s) (chunks_exact_rest s)

none_left : (s t : ChunksExact ℕ) → 0 < chunks_exact_size s → chunks_exact_steps s None t → length (left s) ≡ 0
none_left s t some h = ap (λ n. length (first_chunks (chunks_exact_size s) n (chunks_exact_rest s))) (div-eq_of_lt h.1.0)

first_part : (w : ℕ) (x bs : List ℕ) → 0 < w → length x ≡ w → parts w (x ++ bs) ≡ x ∷ parts w bs
first_part w x bs some long =
    let sum = length-append x bs in
    let more : length (x ++ bs) / w ≡ suc ((length (x ++ bs) - w) / w) = div-eq-sub-div some (omega arith) ∙ add-one _ in
    let less : length (x ++ bs) - w ≡ length bs = omega arith in
    ap (λ n. first_chunks w n (x ++ bs)) more
    ∙ (λ i. take_at x bs w long i ∷ first_chunks w (less i / w) (drop_at x bs w long i))

one_left : (s : ChunksExact ℕ) (x : Bor (List ℕ)) (t : ChunksExact ℕ) → 0 < chunks_exact_size s → chunks_exact_steps s (Some x) t → (0 < chunks_exact_size t) × (left s ≡ x.now ∷ left t)
one_left s x t some h =
    let same = h.0 in (
      omega arith,
      ap (parts (chunks_exact_size s)) h.1.0 ∙ first_part _ x.now (chunks_exact_rest t) some h.1.1 ∙ ap (λ w. x.now ∷ parts w (chunks_exact_rest t)) (sym same),
    )

-- an iterator over the parts of bs
pub yields_parts : (s : ChunksExact ℕ) → 0 < chunks_exact_size s → YieldsList (chunks_exact_steps {A = ℕ}) (λ y. y.now) s (left s)
yields_parts s some = YieldsList-from_shown_while chunks_exact_steps (λ y. y.now) left (λ t. 0 < chunks_exact_size t) none_left one_left s some

-- what the parts spell
pub spelled_by_parts : {K : Type 0} (w : ℕ) (spelled : List ℕ → K) (n : ℕ) (bs : List ℕ) → n * w ≤ length bs → filter_map (key_of w spelled) (first_chunks w n bs) ≡ first_keys w spelled n bs
spelled_by_parts w spelled zero bs fits = refl
spelled_by_parts w spelled (suc n) bs fits =
    let front = take w bs in
    let key : key_of w spelled front ≡ Some (spelled front) = ap (λ b. when b (spelled front)) (eq-eqb (length front) w (length-take-le w bs (omega arith))) in
    let less = length-drop w bs in
    ap (λ o. cons_option o (filter_map (key_of w spelled) (first_chunks w n (drop w bs)))) key
    ∙ ap (λ ks. spelled front ∷ ks) (spelled_by_parts w spelled n (drop w bs) (omega arith))

pub keys_in_parts : {K : Type 0} (w : ℕ) (spelled : List ℕ → K) (bs : List ℕ) (s : ChunksExact ℕ) → chunks_exact_rest s ≡ bs → chunks_exact_size s ≡ w → filter_map (key_of w spelled) (left s) ≡ keys_of w spelled bs
keys_in_parts w spelled bs s rest size =
    (λ i. filter_map (key_of w spelled) (parts (size i) (rest i))) ∙ spelled_by_parts w spelled (length bs / w) bs (div-mul-le_self (length bs) w)
