-- What a sheet says: the layout that is asked for, the column's keys, and the calls. Assumes nothing.
use Rattle.std.specs.Prelude.{ℕ, zero, suc, ◌/◌, cond, List, [], ◌∷◌, length, take, drop, None, Option, ◌==◌}
use Rattle.std.specs.Int.Digits.{number_from_digits}
use Rattle.std.specs.List.{filter_map}
use Rattle.std.specs.Option.{option_map}
use Rattle.keys.specs.declared.account.Account.{Account}
use Rattle.keys.specs.declared.label.Label.{Label}
use Rattle.indexes.specs.declared.index.Side.TheVariants.{At, After}
use Rattle.indexes.specs.declared.layout.Layout.{Layout}
use Rattle.indexes.specs.declared.layout.Layout.TheVariants as layout
use Rattle.sheets.specs.declared.field.Kind.{Kind}
use Rattle.sheets.specs.declared.field.Kind.TheVariants.{Directory, Accounts, Labels, Strike, Restore, Place}
use Rattle.sheets.specs.declared.request.Request.{Request}
use Rattle.sheets.specs.declared.request.Request.TheVariants as request
use Rattle.sheets.specs.Fields.{full, level, at, after, Piece}
use Rattle.sheets.specs.Grammar.{when}

-- the layout that a directory's value asks for: F or L with m slots a node, or nothing
abbrev pub layout_of : List ℕ → Layout
layout_of [] = layout.Bare
layout_of (a ∷ []) = layout.Bare
layout_of (a ∷ m ∷ v) = cond (a == full) (layout.Full m) (cond (a == level) (layout.Level m) layout.Bare)

-- an account number, big-endian
abbrev pub account_spelled : List ℕ → Account
account_spelled bs = record { number = number_from_digits 256 bs }

-- a label, byte by byte
abbrev pub label_spelled : List ℕ → Label
label_spelled bs = record { bytes = bs }

-- the key that bytes spell, if there are w of them
abbrev pub key_of : {K : Type 0} → ℕ → (List ℕ → K) → List ℕ → Option K
key_of w spelled bs = when (length bs == w) (spelled bs)

-- the first n keys of w bytes that stand one after the other
abbrev pub first_keys : {K : Type 0} → ℕ → (List ℕ → K) → ℕ → List ℕ → List K
first_keys w spelled zero bs = []
first_keys w spelled (suc n) bs = spelled (take w bs) ∷ first_keys w spelled n (drop w bs)

-- all of them
abbrev pub keys_of : {K : Type 0} → ℕ → (List ℕ → K) → List ℕ → List K
keys_of w spelled bs = first_keys w spelled (length bs / w) bs

-- the number that four bytes are, big-endian
abbrev pub four_bytes : List ℕ → Option ℕ
four_bytes v = when (length v == 4) (number_from_digits 256 v)

-- a side's letter, and a key
abbrev pub place_of : {K : Type 0} → ℕ → (List ℕ → K) → List ℕ → Option (Request K)
place_of w spelled [] = None
place_of w spelled (a ∷ key) =
    cond (a == at) (option_map (request.Place At) (key_of w spelled key))
    (cond (a == after) (option_map (request.Place After) (key_of w spelled key)) None)

-- what a field of a kind and value asks
abbrev pub request_as : {K : Type 0} → ℕ → (List ℕ → K) → Kind → List ℕ → Option (Request K)
request_as w spelled Directory v = None
request_as w spelled Accounts v = None
request_as w spelled Labels v = None
request_as w spelled Strike v = option_map request.Strike (four_bytes v)
request_as w spelled Restore v = option_map request.Restore (four_bytes v)
request_as w spelled Place v = place_of w spelled v

abbrev pub request_of : {K : Type 0} → ℕ → (List ℕ → K) → Piece → Option (Request K)
request_of w spelled f = request_as w spelled f.kind f.value

-- what fields ask, in their order
abbrev pub requests_of : {K : Type 0} → ℕ → (List ℕ → K) → List Piece → List (Request K)
requests_of w spelled fs = filter_map (request_of w spelled) fs
