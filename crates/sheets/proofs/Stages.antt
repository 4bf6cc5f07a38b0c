-- The stages let pass exactly a directory, then a column, then calls over its keys. Assumes nothing.
use Rattle.std.proofs.Common.{◌≡◌, ℕ, ◌/◌, ◌%◌, true, eqb, List, [], ◌∷◌, length, Some, sym, refl, ap, ◌∙◌, subst, ⊎_elim, arith}
use Rattle.std.specs.List.{AllByRecursion}
use Rattle.std.proofs.lemmas.Bool.{eq-eqb, eqb-true, cases_Bool}
use Rattle.std.proofs.lemmas.Bool.Decides.{nat_tests}
use Rattle.sheets.specs.declared.field.Kind.{Kind}
use Rattle.sheets.specs.declared.field.Kind.TheVariants.{Directory, Accounts, Labels, Strike, Restore, Place}
use Rattle.sheets.specs.declared.reader.Stage.{Stage}
use Rattle.sheets.specs.declared.reader.Stage.TheVariants as stage
use Rattle.sheets.specs.Fields.{full, level, bare, at, after, choice, keys, row, sought, Piece}
use Rattle.sheets.specs.Grammar.{when, call, next, ended}
use Rattle.sheets.specs.Written.{Chooses, by_full, by_level, by_none, Holds, accounts, labels, Calls, strikes, restores, seeks_at, seeks_after, Ordered}
use Rattle.std.proofs.lemmas.Option.{cond_some, none-some}

-- fields may stand from a stage on to the end
abbrev pub Runs : Stage → List Piece → Type 0
Runs s [] = ended s ≡ Some []
Runs s (f ∷ fs) = (s' : Stage) × (next s f.kind f.value ≡ Some s') × Runs s' fs

-- the stage after a column of keys of w bytes
pub data Over : ℕ → Stage → Type 0 where
  over_accounts : Over 4 stage.Accounts
  over_labels : Over 16 stage.Labels

chosen : (k : Kind) (v : List ℕ) → Chooses k v → next stage.Start k v ≡ Some stage.Chosen
chosen _ _ (by_full m) = refl
chosen _ _ (by_level m) = refl
chosen _ _ by_none = refl

held : (w : ℕ) (k : Kind) (v : List ℕ) → Holds w k v → (s : Stage) × (next stage.Chosen k v ≡ Some s) × Over w s
held _ _ v (accounts n e) = (stage.Accounts, ap (λ b. when b stage.Accounts) (eq-eqb (length v % 4) 0 (omega arith)), over_accounts)
held _ _ v (labels n e) = (stage.Labels, ap (λ b. when b stage.Labels) (eq-eqb (length v % 16) 0 (omega arith)), over_labels)

called : (s : Stage) (w : ℕ) (k : Kind) (v : List ℕ) → Calls w k v → call s w k v ≡ Some s
called s w _ v (strikes e) = ap (λ b. when b s) (eq-eqb (length v) 4 e)
called s w _ v (restores e) = ap (λ b. when b s) (eq-eqb (length v) 4 e)
called s w _ (_ ∷ key) (seeks_at e) = ap (λ b. when b s) (eq-eqb (length key) w e)
called s w _ (_ ∷ key) (seeks_after e) = ap (λ b. when b s) (eq-eqb (length key) w e)

chooses_pair : (a m : ℕ) → choice (a ∷ m ∷ []) ≡ true → Chooses Directory (a ∷ m ∷ [])
chooses_pair a m e =
    ⊎_elim
    (λ f. subst (λ x. Chooses Directory (x ∷ m ∷ [])) (sym (eqb-true a full f)) (by_full m))
    (λ f. ⊎_elim
    (λ l. subst (λ x. Chooses Directory (x ∷ m ∷ [])) (sym (eqb-true a level l)) (by_level m))
    (λ l. ⊎_elim
    (λ b.
    let z : eqb m 0 ≡ true = grind (arith, nat_tests) in
    subst (λ x. Chooses Directory (x ∷ m ∷ [])) (sym (eqb-true a bare b)) (subst (λ y. Chooses Directory (bare ∷ y ∷ [])) (sym (eqb-true m 0 z)) by_none))
    (λ b. let z : ◌≡◌ {A = ℕ} 0 1 = grind (arith, nat_tests) in absurd (omega arith))
    (cases_Bool (eqb a bare)))
    (cases_Bool (eqb a level)))
    (cases_Bool (eqb a full))

chooses_value : (v : List ℕ) → choice v ≡ true → Chooses Directory v
chooses_value [] e = absurd (grind (arith, nat_tests))
chooses_value (a ∷ []) e = absurd (grind (arith, nat_tests))
chooses_value (a ∷ m ∷ []) e = chooses_pair a m e
chooses_value (a ∷ m ∷ b ∷ bs) e = absurd (grind (arith, nat_tests))

pub chooses : (k : Kind) (v : List ℕ) (s : Stage) → next stage.Start k v ≡ Some s → Chooses k v × (stage.Chosen ≡ s)
chooses Directory v s e = let g = cond_some (choice v) stage.Chosen s e in (chooses_value v g.0, g.1)
chooses Accounts v s e = absurd (none-some s e)
chooses Labels v s e = absurd (none-some s e)
chooses Strike v s e = absurd (none-some s e)
chooses Restore v s e = absurd (none-some s e)
chooses Place v s e = absurd (none-some s e)

pub holds : (k : Kind) (v : List ℕ) (s : Stage) → next stage.Chosen k v ≡ Some s → (w : ℕ) × Holds w k v × Over w s
holds Directory v s e = absurd (none-some s e)
holds Accounts v s e =
    let g = cond_some (keys 4 v) stage.Accounts s e in
    let z = eqb-true (length v % 4) 0 g.0 in
    (4, accounts (length v / 4) (omega arith), subst (Over 4) g.1 over_accounts)
holds Labels v s e =
    let g = cond_some (keys 16 v) stage.Labels s e in
    let z = eqb-true (length v % 16) 0 g.0 in
    (16, labels (length v / 16) (omega arith), subst (Over 16) g.1 over_labels)
holds Strike v s e = absurd (none-some s e)
holds Restore v s e = absurd (none-some s e)
holds Place v s e = absurd (none-some s e)

seeks : (w : ℕ) (v : List ℕ) → sought w v ≡ true → Calls w Place v
seeks w [] e = absurd (grind (arith, nat_tests))
seeks w (a ∷ key) e =
    ⊎_elim
    (λ y.
    let z : eqb (length key) w ≡ true = grind (arith, nat_tests) in
    subst (λ x. Calls w Place (x ∷ key)) (sym (eqb-true a at y)) (seeks_at (eqb-true (length key) w z)))
    (λ n. ⊎_elim
    (λ y.
    let z : eqb (length key) w ≡ true = grind (arith, nat_tests) in
    subst (λ x. Calls w Place (x ∷ key)) (sym (eqb-true a after y)) (seeks_after (eqb-true (length key) w z)))
    (λ m. let z : ◌≡◌ {A = ℕ} 0 1 = grind (arith, nat_tests) in absurd (omega arith))
    (cases_Bool (eqb a after)))
    (cases_Bool (eqb a at))

calls : (s : Stage) (w : ℕ) (k : Kind) (v : List ℕ) (s' : Stage) → call s w k v ≡ Some s' → Calls w k v × (s ≡ s')
calls s w Directory v s' e = absurd (none-some s' e)
calls s w Accounts v s' e = absurd (none-some s' e)
calls s w Labels v s' e = absurd (none-some s' e)
calls s w Strike v s' e = let g = cond_some (row v) s s' e in (strikes (eqb-true (length v) 4 g.0), g.1)
calls s w Restore v s' e = let g = cond_some (row v) s s' e in (restores (eqb-true (length v) 4 g.0), g.1)
calls s w Place v s' e = let g = cond_some (sought w v) s s' e in (seeks w v g.0, g.1)

over_next : {w : ℕ} {s : Stage} → Over w s → (k : Kind) (v : List ℕ) → next s k v ≡ call s w k v
over_next over_accounts k v = refl
over_next over_labels k v = refl

over_ends : {w : ℕ} {s : Stage} → Over w s → ended s ≡ Some []
over_ends over_accounts = refl
over_ends over_labels = refl

calls_run : {w : ℕ} {s : Stage} → Over w s → (fs : List Piece) → AllByRecursion (λ f. Calls w f.kind f.value) fs → Runs s fs
calls_run o [] h = over_ends o
calls_run {w} {s} o (f ∷ fs) h = (s, over_next o f.kind f.value ∙ called s w f.kind f.value h.0, calls_run o fs h.1)

run_calls : {w : ℕ} {s : Stage} → Over w s → (fs : List Piece) → Runs s fs → AllByRecursion (λ f. Calls w f.kind f.value) fs
run_calls o [] r = tt
run_calls {w} {s} o (f ∷ fs) r =
    let c = calls s w f.kind f.value r.0 (sym (over_next o f.kind f.value) ∙ r.1) in
    (c.0, run_calls o fs (subst (λ (q : Stage). Runs q fs) (sym c.1) r.2))

pub ordered_runs : (fs : List Piece) → Ordered fs → Runs stage.Start fs
ordered_runs [] h = absurd h
ordered_runs (d ∷ []) h = absurd h
ordered_runs (d ∷ c ∷ fs) h =
    let k = held h.1.0 c.kind c.value h.1.1 in
    (stage.Chosen, chosen d.kind d.value h.0, (k.0, k.1, calls_run k.2 fs h.1.2))

pub runs_ordered : (fs : List Piece) → Runs stage.Start fs → Ordered fs
runs_ordered [] r = absurd (none-some [] r)
runs_ordered (d ∷ fs) r =
    let k = chooses d.kind d.value r.0 r.1 in
    runs_column d fs k.0 (subst (λ (q : Stage). Runs q fs) (sym k.1) r.2)
  where
    runs_column : (d : Piece) (fs : List Piece) → Chooses d.kind d.value → Runs stage.Chosen fs → Ordered (d ∷ fs)
    runs_column d [] h r = absurd (none-some [] r)
    runs_column d (c ∷ fs) h r =
        let k = holds c.kind c.value r.0 r.1 in
        (h, (k.0, k.1, run_calls k.2 fs r.2))
