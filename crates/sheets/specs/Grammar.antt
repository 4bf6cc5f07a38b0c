-- The grammar: which field may come next, the fields of the bytes that are left, and the sheet that bytes are. Assumes nothing.
use Rattle.std.specs.Prelude.{◌≡◌, ℕ, zero, suc, ◌+◌, ◌-◌, ◌*◌, Bool, cond, List, [], ◌∷◌, length, take, drop, Some, None, Option, ◌==◌, nat_le}
use Rattle.std.specs.Option.{option_map, unwrap_or}
use Rattle.sheets.specs.declared.field.Field.{Field}
use Rattle.sheets.specs.declared.field.Kind.{Kind}
use Rattle.sheets.specs.declared.field.Kind.TheVariants.{Directory, Accounts, Labels, Strike, Restore, Place}
use Rattle.sheets.specs.declared.reader.Reader.{Reader}
use Rattle.sheets.specs.declared.reader.Stage.{Stage}
use Rattle.sheets.specs.declared.reader.Stage.TheVariants as stage
use Rattle.sheets.specs.Fields.{letter, kind, choice, keys, row, sought, Piece, told}

abbrev pub when : {A : Type 0} → Bool → A → Option A
when b a = cond b (Some a) None

abbrev pub bind : {A B : Type 0} → Option A → (A → Option B) → Option B
bind None f = None
bind (Some a) f = f a

abbrev pub is : Kind → Kind → Bool
is k j = letter k == letter j

-- a call over a column of keys of w bytes leaves the stage as it is
abbrev pub call : Stage → ℕ → Kind → List ℕ → Option Stage
call s w k v =
    cond (is k Strike) (when (row v) s) (cond (is k Restore) (when (row v) s) (cond (is k Place) (when (sought w v) s) None))

-- which field may come next, and the stage after it
abbrev pub next : Stage → Kind → List ℕ → Option Stage
next stage.Start k v = cond (is k Directory) (when (choice v) stage.Chosen) None
next stage.Chosen k v =
    cond (is k Accounts) (when (keys 4 v) stage.Accounts) (cond (is k Labels) (when (keys 16 v) stage.Labels) None)
next stage.Accounts k v = call stage.Accounts 4 k v
next stage.Labels k v = call stage.Labels 16 k v

-- a sheet may end once its column is read
abbrev pub ended : Stage → Option (List Piece)
ended stage.Start = None
ended stage.Chosen = None
ended stage.Accounts = Some []
ended stage.Labels = Some []

-- where a reader stands: its stage, the bytes of the whole sheet, and those that are left
pub record State : Type 0 where
  pub stage : Stage
  pub whole : ℕ
  pub rest : List ℕ

abbrev pub state : Reader → State
state r = record { stage = r.stage; whole = r.whole; rest = r.rest.now }

-- the start of a sheet
abbrev pub opened : List ℕ → State
opened bs = record { stage = stage.Start; whole = length bs; rest = bs }

-- one field more
pub record Step : Type 0 where
  pub read : Piece
  pub then : State

-- a field of tag t, whose n bytes stand at the front of bs, of a sheet of z bytes
abbrev pub value_step : Stage → ℕ → ℕ → ℕ → List ℕ → Option Step
value_step s z t n bs =
    cond (nat_le n (length bs))
    (bind (kind t) (λ k. bind (next s k (take n bs)) (λ s'. Some (record {
      read = record { kind = k; place = z - length bs; value = take n bs };
      then = record { stage = s'; whole = z; rest = drop n bs };
    }))))
    None

-- a field at the front of bytes: a tag, a big-endian length, and the value
abbrev pub step_at : Stage → ℕ → List ℕ → Option Step
step_at s z [] = None
step_at s z (t ∷ []) = None
step_at s z (t ∷ h ∷ []) = None
step_at s z (t ∷ h ∷ l ∷ bs) = value_step s z t (h * 256 + l) bs

abbrev pub step : State → Option Step
step q = step_at q.stage q.whole q.rest

-- the field that comes next
abbrev pub front : State → Option Piece
front q = option_map (λ t. t.read) (step q)

-- where the reader stands after it, or still where there is none
abbrev pub onward : State → State
onward q = unwrap_or (option_map (λ t. t.then) (step q)) q

-- what a reader that is asked for a field gives, and where it stands then
pub record Reads (r : Reader) (f : Option Field) (r' : Reader) : Type 0 where
  pub field : option_map told f ≡ front (state r)
  pub reader : state r' ≡ onward (state r)

-- a field has three bytes at least, so as many fields as there are bytes are enough
abbrev pub pieces : ℕ → Stage → ℕ → List ℕ → Option (List Piece)
pieces n s z [] = ended s
pieces zero s z (b ∷ bs) = None
pieces (suc n) s z (b ∷ bs) =
    bind (step_at s z (b ∷ bs)) (λ t. bind (pieces n t.then.stage t.then.whole t.then.rest) (λ fs. Some (t.read ∷ fs)))

-- the fields from a state on, to the end
abbrev pub left : State → Option (List Piece)
left q = pieces (length q.rest) q.stage q.whole q.rest

-- the fields that n turns of a reader give, up to the first that is not allowed
abbrev pub turns : ℕ → State → List Piece
turns zero q = []
turns (suc n) q = unwrap_or (option_map (λ t. t.read ∷ turns n t.then) (step q)) []

-- the fields that a reader hands on, whether a sheet may end after them or not
abbrev pub handed : State → List Piece
handed q = turns (length q.rest) q

-- the fields of a sheet, which is not too long
abbrev pub fields : List ℕ → Option (List Piece)
fields bs = cond (nat_le (length bs) 65536) (left (opened bs)) None

-- what a sheet says
pub record Said : Type 0 where
  pub directory : Piece
  pub column : Piece
  pub calls : List Piece

-- the first field is the directory, the second the column
abbrev pub said : List Piece → Option Said
said [] = None
said (d ∷ []) = None
said (d ∷ c ∷ fs) = Some (record { directory = d; column = c; calls = fs })

-- the sheet that bytes are, or none where they are malformed
abbrev pub sheet : List ℕ → Option Said
sheet bs = bind (fields bs) said

-- a field, if it is a column
abbrev pub column_of : Piece → Option Piece
column_of f = cond (is f.kind Accounts) (Some f) (when (is f.kind Labels) f)
