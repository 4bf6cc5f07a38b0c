-- A sheet as it is written: which fields make a sheet, which bytes they are, and what a reading owes to both. Assumes nothing.
use Rattle.std.specs.Prelude.{◌≡◌, ℕ, ◌+◌, ◌*◌, ◌/◌, ◌%◌, ◌≤◌, List, [], ◌∷◌, length, take, drop, IfOk, Some, None, vec_items, Option, Result, Vec}
use Rattle.std.specs.List.{flat_map, AllByRecursion}
use Rattle.sheets.specs.declared.field.Kind.{Kind}
use Rattle.sheets.specs.declared.field.Kind.TheVariants.{Directory, Accounts, Labels, Strike, Restore, Place}
use Rattle.sheets.specs.declared.sheet.Sheet.{Sheet}
use Rattle.sheets.specs.Fields.{letter, full, level, bare, at, after, Piece}
use Rattle.sheets.specs.declared.request.Request.{Request}
use Rattle.sheets.specs.Grammar.{Said}
use Rattle.sheets.specs.Viewed.{viewed}
use Rattle.sheets.specs.Said.{requests_of}

-- a directory: F or L and a node size, or P and 0
pub data Chooses : Kind → List ℕ → Type 0 where
  by_full : (m : ℕ) → Chooses Directory (full ∷ m ∷ [])
  by_level : (m : ℕ) → Chooses Directory (level ∷ m ∷ [])
  by_none : Chooses Directory (bare ∷ 0 ∷ [])

-- a column of keys of w bytes, none or more of them
pub data Holds : ℕ → Kind → List ℕ → Type 0 where
  accounts : (n : ℕ) {v : List ℕ} → length v ≡ n * 4 → Holds 4 Accounts v
  labels : (n : ℕ) {v : List ℕ} → length v ≡ n * 16 → Holds 16 Labels v

-- a call over keys of w bytes: a row number of 4 bytes, or a side and a key
pub data Calls : ℕ → Kind → List ℕ → Type 0 where
  strikes : {w : ℕ} {v : List ℕ} → length v ≡ 4 → Calls w Strike v
  restores : {w : ℕ} {v : List ℕ} → length v ≡ 4 → Calls w Restore v
  seeks_at : {w : ℕ} {key : List ℕ} → length key ≡ w → Calls w Place (at ∷ key)
  seeks_after : {w : ℕ} {key : List ℕ} → length key ≡ w → Calls w Place (after ∷ key)

-- fields that are calls over keys of w bytes
abbrev pub CallsOver : ℕ → List Piece → Type 0
CallsOver w calls = AllByRecursion (λ f. Calls w f.kind f.value) calls

-- a directory, then one column, then calls over its keys
abbrev pub Ordered : List Piece → Type 0
Ordered [] = ⊥
Ordered (d ∷ []) = ⊥
Ordered (d ∷ c ∷ calls) =
    Chooses d.kind d.value × ((w : ℕ) × Holds w c.kind c.value × CallsOver w calls)

-- from the place p on, each value follows the three bytes of its head
abbrev pub Placed : ℕ → List Piece → Type 0
Placed p [] = Unit {0}
Placed p (f ∷ fs) = (f.place ≡ p + 3) × Placed (p + 3 + length f.value) fs

-- a field in bytes: its letter, its length in two bytes, its value
abbrev pub framed : Piece → List ℕ
framed f = letter f.kind ∷ length f.value / 256 ∷ length f.value % 256 ∷ f.value

-- fs make a sheet, and bs are its bytes
pub record Spells (bs : List ℕ) (fs : List Piece) : Type 0 where
  pub small : length bs ≤ 65536
  pub ordered : Ordered fs
  pub placed : Placed 0 fs
  pub bytes : flat_map framed fs ≡ bs

-- the value of a field lies in the bytes at its place
abbrev pub Within : List ℕ → Piece → Type 0
Within bs f = (f.place + length f.value ≤ length bs) × (f.value ≡ take (length f.value) (drop f.place bs))

-- fs, and no other fields, are what bs spell
pub record Spelled (bs : List ℕ) (fs : List Piece) : Type 0 where
  pub spells : Spells bs fs
  pub within : AllByRecursion (Within bs) fs
  pub alone : (gs : List Piece) → Spells bs gs → gs ≡ fs

-- all fields of a sheet
abbrev pub listed : Said → List Piece
listed s = s.directory ∷ s.column ∷ s.calls

-- what a reading owes: the fields that the bytes spell, and where there is no sheet, that they spell none
abbrev pub WrittenAs : List ℕ → Option Sheet → Type 0
WrittenAs bs None = (fs : List Piece) → Spells bs fs → ⊥
WrittenAs bs (Some r) = (s : Said) × (viewed r ≡ Some s) × Spelled bs (listed s)

-- what fields ask, once it is taken from them: each that is a call over keys of this width asks one thing
pub record Asks {K E : Type 0} {A : Type 0} (w : ℕ) (spelled : List ℕ → K) (calls : List Piece) (r : Result (Vec (Request K) A) E) : Type 0 where
  pub asks : IfOk r (λ v. vec_items v ≡ requests_of w spelled calls)
  pub one_each : CallsOver w calls → IfOk r (λ v. length (vec_items v) ≡ length calls)
