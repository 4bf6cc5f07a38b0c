-- What the first two fields, and the test of the rest, say of the sheet: what `Sheet::read` owes at each exit. Assumes nothing.
use Rattle.std.proofs.Common.{◌≡◌, ℕ, suc, ◌≤◌, Bool, true, false, cond, List, [], ◌∷◌, length, get_or, is_some, Some, None, Option, sym, refl, ap, ◌∙◌, subst, arith, w8, Fits}
use Rattle.std.specs.Option.{option_map}
use Rattle.std.proofs.lemmas.Bool.{le-leb}
use Rattle.sheets.specs.declared.field.Field.{Field}
use Rattle.sheets.specs.declared.field.Field.TheVariants as field
use Rattle.sheets.specs.declared.field.Part.{Part}
use Rattle.sheets.specs.declared.field.Kind.{Kind}
use Rattle.sheets.specs.declared.field.Kind.TheVariants.{Directory, Accounts, Labels}
use Rattle.sheets.specs.declared.reader.Stage.TheVariants as stage
use Rattle.sheets.specs.declared.sheet.Sheet.{Sheet}
use Rattle.sheets.specs.Fields.{Piece, piece, told}
use Rattle.sheets.specs.Grammar.{is, when, bind, next, State, state, Step, opened, step, ended, left, fields, Said, said, sheet, column_of}
use Rattle.sheets.specs.Viewed.{col, viewed}
use Rattle.sheets.specs.Written.{Chooses, by_full, by_level, by_none, Holds, accounts, labels, listed, WrittenAs}
use Rattle.sheets.proofs.Left.{left_step, left_stop}
use Rattle.std.proofs.lemmas.Option.{same_Some, none-some}
use Rattle.sheets.proofs.Options.{none_tested, some_tested}
use Rattle.sheets.proofs.Spelled.{Bytes, spells_read, spelled}
use Rattle.sheets.proofs.Stages.{chooses, holds}
use Rattle.sheets.proofs.Steps.{taken}

-- what `Sheet::read` owes of its answer
pub record Owed (bs : List ℕ) (r : Option Sheet) : Type 0 where
  pub said : option_map viewed r ≡ option_map Some (sheet bs)
  pub written : WrittenAs bs r

pub none : (bs : List ℕ) (r : Option Sheet) → r ≡ None → fields bs ≡ None → Owed bs r
none bs r e no_fields = subst (Owed bs) (sym e) (record {
  said = ap (λ o. option_map Some (bind o said)) (sym no_fields);
  written = λ fs h. let f = spells_read bs fs h in let z : ◌≡◌ {A = ℕ} 0 1 = cc in omega arith;
})

pub some : (bs : List ℕ) (r : Sheet) (s : Said) → Bytes bs → viewed r ≡ Some s → fields bs ≡ Some (listed s) → Owed bs (Some r)
some bs r s w view all = record {
  said = ap Some view ∙ ap (λ o. option_map Some (bind o said)) (sym all);
  written = (s, view, spelled bs (listed s) w all);
}

-- the elements of a slice of bytes
pub bytes_fit : (bs : List ℕ) → ((i : ℕ) → Fits w8 (get_or bs i 0)) → Bytes bs
bytes_fit [] h = tt
bytes_fit (b ∷ bs) h = ((h 0).fits, bytes_fit bs (λ i. h (suc i)))

chooses_directory : (k : Kind) (v : List ℕ) → Chooses k v → k ≡ Directory
chooses_directory _ _ (by_full m) = refl
chooses_directory _ _ (by_level m) = refl
chooses_directory _ _ by_none = refl

holds_column : (w : ℕ) (k : Kind) (v : List ℕ) (f : Piece) → Holds w k v → cond (is k Accounts) (Some f) (when (is k Labels) f) ≡ Some f
holds_column _ _ _ f (accounts n e) = refl
holds_column _ _ _ f (labels n e) = refl

told_directory : (f : Field) → (told f).kind ≡ Directory → (p : Part) × (f ≡ field.Directory p)
told_directory (field.Directory p) e = (p, refl)
told_directory (field.Accounts p) e = absurd cc
told_directory (field.Labels p) e = absurd cc
told_directory (field.Strike p) e = absurd cc
told_directory (field.Restore p) e = absurd cc
told_directory (field.Place p) e = absurd cc

-- two fields before the rest
before : (d c : Piece) (o : Option (List Piece)) → bind (bind o (λ fs. Some (c ∷ fs))) (λ fs. Some (d ∷ fs)) ≡ bind o (λ fs. Some (d ∷ c ∷ fs))
before d c None = refl
before d c (Some fs) = refl

-- a reader at the start of bs
module _ (bs : List ℕ) (small : length bs ≤ 65536) (q : State) (start : q ≡ opened bs) where
  fields_left : fields bs ≡ left q
  fields_left = ap (λ b. cond b (left (opened bs)) None) (le-leb (length bs) 65536 small) ∙ ap left (sym start)

  starts : q.stage ≡ stage.Start
  starts = ap (λ (p : State). p.stage) start

  pub no_first : None ≡ step q → fields bs ≡ None
  no_first e = fields_left ∙ left_stop q e (ap ended starts)

  -- the first field is read
  module _ (t : Step) (first : Some t ≡ step q) where
    chosen : Chooses t.read.kind t.read.value × (stage.Chosen ≡ t.then.stage)
    chosen =
        let g = taken q.stage q.whole q.rest t (sym first) in
        chooses _ _ _ (ap (λ s. next s t.read.kind t.read.value) (sym starts) ∙ g.allowed)

    pub no_directory : (f : Field) → t.read ≡ told f → ((p : Part) → f ≡ field.Directory p → ⊥) → fields bs ≡ None
    no_directory f e h =
        let d = told_directory f (ap (λ (g : Piece). g.kind) (sym e) ∙ chooses_directory _ _ chosen.0) in
        absurd (h d.0 d.1)

    fields_then : fields bs ≡ bind (left t.then) (λ fs. Some (t.read ∷ fs))
    fields_then = fields_left ∙ left_step q t first

    pub no_second : None ≡ step t.then → fields bs ≡ None
    no_second e = fields_then ∙ ap (λ o. bind o (λ fs. Some (t.read ∷ fs))) (left_stop t.then e (ap ended (sym chosen.1)))

    -- the second field is read
    module _ (u : Step) (second : Some u ≡ step t.then) where
      columns : column_of u.read ≡ Some u.read
      columns =
          let g = taken t.then.stage t.then.whole t.then.rest u (sym second) in
          let h = holds _ _ _ (ap (λ s. next s u.read.kind u.read.value) chosen.1 ∙ g.allowed) in
          holds_column h.0 u.read.kind u.read.value u.read h.1

      pub no_column : None ≡ column_of u.read → fields bs ≡ None
      no_column e = absurd (none-some u.read (e ∙ columns))

      fields_last : fields bs ≡ bind (left u.then) (λ fs. Some (t.read ∷ u.read ∷ fs))
      fields_last =
          fields_then
          ∙ ap (λ o. bind o (λ fs. Some (t.read ∷ fs))) (left_step t.then u second)
          ∙ before t.read u.read (left u.then)

      no_rest : false ≡ is_some (left u.then) → fields bs ≡ None
      no_rest e = fields_last ∙ ap (λ o. bind o (λ fs. Some (t.read ∷ u.read ∷ fs))) (none_tested (left u.then) e)

      -- the whole is read
      all : (r : Sheet) → Bytes bs → piece Directory r.directory ≡ t.read → Some (col r.column) ≡ column_of u.read → state r.calls ≡ u.then → true ≡ is_some (left u.then) → Owed bs (Some r)
      all r w d c calls e =
          let rest = some_tested (left u.then) e in
          let same : col r.column ≡ u.read = same_Some _ _ (c ∙ columns) in
          some bs r (record { directory = t.read; column = u.read; calls = rest.0 }) w
          ((λ i. bind (left (calls i)) (λ fs. Some (record { directory = d i; column = same i; calls = fs }))) ∙ ap (λ o. bind o (λ fs. Some (record { directory = t.read; column = u.read; calls = fs }))) rest.1)
          (fields_last ∙ ap (λ o. bind o (λ fs. Some (t.read ∷ u.read ∷ fs))) rest.1)

      -- it is a sheet if what is left then is fields to the end
      pub whole : (r : Sheet) → Bytes bs → piece Directory r.directory ≡ t.read → Some (col r.column) ≡ column_of u.read → state r.calls ≡ u.then → (o : Option Sheet) → o ≡ when (is_some (left u.then)) r → Owed bs o
      whole r w d c calls o e = subst (Owed bs) (sym e) (by (is_some (left u.then)) refl)
        where
          by : (b : Bool) → b ≡ is_some (left u.then) → Owed bs (when b r)
          by false n = none bs None refl (no_rest n)
          by true y = all r w d c calls y
