-- Fields: their letters and kinds, what their values may be, and a field as a piece of the sheet. Assumes nothing.
use Rattle.std.specs.Prelude.{ℕ, ◌%◌, Bool, true, false, cond, List, [], ◌∷◌, length, Some, None, Option, ◌==◌}
use Rattle.sheets.specs.declared.field.Kind.{Kind}
use Rattle.sheets.specs.declared.field.Kind.TheVariants.{Directory, Accounts, Labels, Strike, Restore, Place}
use Rattle.sheets.specs.declared.field.Field.{Field}
use Rattle.sheets.specs.declared.field.Field.TheVariants as field
use Rattle.sheets.specs.declared.field.Part.{Part}

-- the letters of the tags: D, K, T, S, R, Q
abbrev pub letter : Kind → ℕ
letter Directory = 68
letter Accounts = 75
letter Labels = 84
letter Strike = 83
letter Restore = 82
letter Place = 81

-- the kind that a tag names
abbrev pub kind : ℕ → Option Kind
kind t =
    cond (t == 68) (Some Directory)
    (cond (t == 75) (Some Accounts)
    (cond (t == 84) (Some Labels)
    (cond (t == 83) (Some Strike)
    (cond (t == 82) (Some Restore)
    (cond (t == 81) (Some Place) None)))))

-- the letters of a directory: F, L, P
abbrev pub full : ℕ
full = 70

abbrev pub level : ℕ
level = 76

abbrev pub bare : ℕ
bare = 80

-- the letters of a side: a, n
abbrev pub at : ℕ
at = 97

abbrev pub after : ℕ
after = 110

-- a directory's value: F or L and a node size, or P and 0
abbrev pub choice : List ℕ → Bool
choice [] = false
choice (a ∷ []) = false
choice (a ∷ m ∷ []) = cond (a == full) true (cond (a == level) true (cond (a == bare) (m == 0) false))
choice (a ∷ m ∷ b ∷ bs) = false

-- a column's value: keys of w bytes, none or more
abbrev pub keys : ℕ → List ℕ → Bool
keys w v = length v % w == 0

-- a row number's value
abbrev pub row : List ℕ → Bool
row v = length v == 4

-- what is sought: a side, and a key of w bytes
abbrev pub sought : ℕ → List ℕ → Bool
sought w [] = false
sought w (a ∷ key) = cond (a == at) (length key == w) (cond (a == after) (length key == w) false)

-- a field read: its kind, the place of its value in the sheet, and the value
pub record Piece : Type 0 where
  pub kind : Kind
  pub place : ℕ
  pub value : List ℕ

abbrev pub piece : Kind → Part → Piece
piece k p = record { kind = k; place = p.place; value = p.bytes.now }

-- what each case of a field says
abbrev pub told : Field → Piece
told (field.Directory p) = piece Directory p
told (field.Accounts p) = piece Accounts p
told (field.Labels p) = piece Labels p
told (field.Strike p) = piece Strike p
told (field.Restore p) = piece Restore p
told (field.Place p) = piece Place p
