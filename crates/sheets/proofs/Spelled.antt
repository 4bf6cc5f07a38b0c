-- What is written is read, and what is read was written so: the relation and the grammar agree on bytes. Assumes nothing.
use Rattle.std.proofs.Common.{◌≡◌, ℕ, zero, suc, ◌+◌, ◌-◌, ◌*◌, ◌/◌, ◌%◌, ◌<◌, ◌≤◌, cond, leb, List, [], ◌∷◌, ◌++◌, length, take, drop, Some, None, sym, refl, ap, ◌∙◌, subst, append_assoc, div-add-mod', arith, length-append, take-append-drop}
use lib.Arith.{digits_div, digits_mod}
use Rattle.std.specs.List.{flat_map, AllByRecursion}
use Rattle.std.proofs.lemmas.List.{length-take-le, take_at, drop_at}
use Rattle.std.proofs.lemmas.Bool.{le-leb, leb-true}
use Rattle.sheets.specs.declared.reader.Stage.{Stage}
use Rattle.sheets.specs.declared.reader.Stage.TheVariants as stage
use Rattle.sheets.specs.Fields.{letter, Piece}
use Rattle.sheets.specs.Grammar.{next, step_at, value_step, bind, Step, pieces, fields}
use Rattle.sheets.specs.Written.{framed, Placed, Within, Spells, Spelled}
use Rattle.sheets.proofs.Letters.{letter_kind, kind_letter}
use Rattle.sheets.proofs.Left.{ended_nil}
use Rattle.std.proofs.lemmas.Option.{same_Some, none-some}
use Rattle.sheets.proofs.Options.{bind_parts, when_parts}
use Rattle.sheets.proofs.Stages.{Runs, ordered_runs, runs_ordered}
use Rattle.sheets.proofs.Steps.{Taken, taken}

-- a field in its bytes, where it is allowed
framed_step : (s s' : Stage) (z : ℕ) (f : Piece) (rest : List ℕ) → next s f.kind f.value ≡ Some s' → f.place ≡ z - length (f.value ++ rest) → step_at s z (framed f ++ rest) ≡ Some (record {
  read = f;
  then = record { stage = s'; whole = z; rest = rest };
})
framed_step s s' z f rest allowed at =
    let v = f.value in
    let fits : length v ≤ length (v ++ rest) = omega (arith, length-append v rest) in
    ap (λ n. value_step s z (letter f.kind) n (v ++ rest)) (div-add-mod' (length v) 256)
    ∙ rw (le-leb (length v) (length (v ++ rest)) fits, letter_kind f.kind, take_at v rest _ refl, drop_at v rest _ refl, allowed, ← at)

wrote : (fs : List Piece) (s : Stage) (p z n : ℕ) → Runs s fs → Placed p fs → p + length (flat_map framed fs) ≡ z → length (flat_map framed fs) ≤ n → pieces n s z (flat_map framed fs) ≡ Some fs
wrote [] s p z n r at sum l = r
wrote (f ∷ fs) s p z zero r at sum l = absurd (omega arith)
wrote (f ∷ fs) s p z (suc n) r at sum l =
    let rest = flat_map framed fs in
    let long = length-append f.value rest in
    let here : f.place ≡ z - length (f.value ++ rest) = (let a = at.0 in omega arith) in
    ap (λ o. bind o (λ (t : Step). bind (pieces n t.then.stage t.then.whole t.then.rest) (λ gs. Some (t.read ∷ gs)))) (framed_step s r.0 z f rest r.1 here)
    ∙ ap (λ o. bind o (λ gs. Some (f ∷ gs))) (wrote fs r.0 (p + 3 + length f.value) z n r.2 at.1 (omega arith) (omega arith))

-- what the bytes spell is read, so they spell it alone
pub spells_read : (bs : List ℕ) (fs : List Piece) → Spells bs fs → fields bs ≡ Some fs
spells_read bs fs h =
    ap (λ b. cond b (pieces (length bs) stage.Start (length bs) bs) None) (le-leb (length bs) 65536 h.small)
    ∙ subst (λ (l : List ℕ). pieces (length l) stage.Start (length l) l ≡ Some fs) h.bytes
    (wrote fs stage.Start 0 (length (flat_map framed fs)) (length (flat_map framed fs)) (ordered_runs fs h.ordered) h.placed (omega arith) (omega arith))

abbrev pub Bytes : List ℕ → Type 0
Bytes bs = AllByRecursion (λ b. b < 256) bs

bytes_back : (xs ys : List ℕ) → Bytes (xs ++ ys) → Bytes ys
bytes_back [] ys w = w
bytes_back (x ∷ xs) ys w = bytes_back xs ys w.1

-- a step took the bytes in which its field is written
took : {s : Stage} {z : ℕ} {bs : List ℕ} {t : Step} → Bytes bs → Taken s z bs t → framed t.read ++ t.then.rest ≡ bs
took {s} {z} {bs} {t} w g =
    let n = g.hi * 256 + g.lo in
    let w' = subst Bytes g.bytes w in
    let hi : g.hi < 256 = w'.1.0 in
    let lo : g.lo < 256 = w'.1.1.0 in
    let long : length t.read.value ≡ n = ap length g.value ∙ length-take-le n g.after g.fits in
    (λ i. kind_letter g.tag t.read.kind g.named i
    ∷ (ap (λ j. j / 256) long ∙ digits_div g.hi lo) i
    ∷ (ap (λ j. j % 256) long ∙ digits_mod g.hi lo) i
    ∷ (g.value i ++ g.rest i))
    ∙ ap (λ l. g.tag ∷ g.hi ∷ g.lo ∷ l) (take-append-drop n g.after)
    ∙ sym g.bytes

-- fs may stand from s and p on, and bs are their bytes
record Stand (s : Stage) (p : ℕ) (bs : List ℕ) (fs : List Piece) : Type 0 where
  runs : Runs s fs
  placed : Placed p fs
  bytes : flat_map framed fs ≡ bs

read_back : (n : ℕ) (s : Stage) (p z : ℕ) (bs : List ℕ) (fs : List Piece) → Bytes bs → p + length bs ≡ z → pieces n s z bs ≡ Some fs → Stand s p bs fs
read_back n s p z [] fs w sum e =
    let none = ended_nil s fs e in
    subst (Stand s p []) (sym none) (record { runs = e ∙ ap Some none; placed = tt; bytes = refl })
read_back zero s p z (b ∷ bs) fs w sum e = absurd (none-some fs e)
read_back (suc n) s p z (b ∷ bs) fs w sum e =
    let x = bind_parts (step_at s z (b ∷ bs)) _ fs e in
    let t : Step = x.0 in
    let y = bind_parts (pieces n t.then.stage t.then.whole t.then.rest) _ fs x.2 in
    let g = taken s z (b ∷ bs) t x.1 in
    let all = took w g in
    let v = t.read.value in
    let rest = t.then.rest in
    let long : 3 + length v + length rest ≡ length (b ∷ bs) = (let k = ap length all in let m = length-append v rest in omega arith) in
    let split : 3 + length g.after ≡ length (b ∷ bs) = (let k = ap length g.bytes in omega arith) in
    let whole = g.whole in
    let at = g.at in
    let r = read_back n t.then.stage (p + 3 + length v) t.then.whole rest y.0 (bytes_back (framed t.read) rest (subst Bytes (sym all) w)) (omega arith) y.1 in
    subst (Stand s p (b ∷ bs)) (same_Some _ _ y.2) (record {
      runs = (t.then.stage, g.allowed, r.runs);
      placed = (omega arith, r.placed);
      bytes = ap (λ l. framed t.read ++ l) r.bytes ∙ all;
    })

read_spells : (bs : List ℕ) (fs : List Piece) → Bytes bs → fields bs ≡ Some fs → Spells bs fs
read_spells bs fs w e =
    let c = when_parts (leb (length bs) 65536) _ fs e in
    let r = read_back (length bs) stage.Start 0 (length bs) bs fs w (omega arith) c.1 in
    record { small = leb-true (length bs) 65536 c.0; ordered = runs_ordered fs r.runs; placed = r.placed; bytes = r.bytes }

-- after the bytes xs, each of fs lies at its place
places : (xs : List ℕ) (fs : List Piece) → Placed (length xs) fs → AllByRecursion (Within (xs ++ flat_map framed fs)) fs
places xs [] at = tt
places xs (f ∷ fs) at =
    let v = f.value in
    let rest = flat_map framed fs in
    let head : List ℕ = letter f.kind ∷ length v / 256 ∷ length v % 256 ∷ [] in
    let before : List ℕ = xs ++ head in
    let la = length-append xs head in
    let lb = length-append before v in
    let here = at.0 in
    let start : f.place ≡ length before = omega arith in
    let there : length xs + 3 + length v ≡ length (before ++ v) = omega arith in
    let same : xs ++ (framed f ++ rest) ≡ before ++ (v ++ rest) = sym (append_assoc xs head (v ++ rest)) in
    let same' : (before ++ v) ++ rest ≡ xs ++ (framed f ++ rest) = append_assoc before v rest ∙ sym same in
    let off : drop f.place (xs ++ (framed f ++ rest)) ≡ v ++ rest = (λ i. drop (start i) (same i)) ∙ drop_at before (v ++ rest) _ refl in
    let total = ap length same in
    let lc = length-append before (v ++ rest) in
    let ld = length-append v rest in
    let inside : f.place + length v ≤ length (xs ++ (framed f ++ rest)) = omega arith in (
      (inside, sym (ap (take (length v)) off ∙ take_at v rest _ refl)),
      subst (λ (l : List ℕ). AllByRecursion (Within l) fs) same' (places (before ++ v) fs (subst (λ p. Placed p fs) there at.1)),
    )

pub spelled : (bs : List ℕ) (fs : List Piece) → Bytes bs → fields bs ≡ Some fs → Spelled bs fs
spelled bs fs w e =
    let h = read_spells bs fs w e in
    record {
      spells = h;
      within = subst (λ (l : List ℕ). AllByRecursion (Within l) fs) h.bytes (places [] fs h.placed);
      alone = λ gs k. same_Some gs fs (sym (spells_read bs gs k) ∙ e);
    }
