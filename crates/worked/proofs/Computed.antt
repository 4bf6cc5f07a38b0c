-- The definitions computed on the columns worked by hand.
use Rattle.std.proofs.Common.{◌≡◌, ℕ, ◌+◌, Bool, [], refl}
use Rattle.indexes.specs.declared.index.Side.{Side}
use Rattle.indexes.specs.declared.layout.Layout.{Layout}
use Rattle.indexes.specs.declared.layout.Layout.TheVariants.{Bare, Full, Level}
use Rattle.indexes.specs.Seeking.{halving, bits}
use Rattle.shapes.specs.Numbers.{shape, least}
use Rattle.shapes.specs.Nodes.{along, slot_row}
use Rattle.shapes.specs.Descent.{descend, descent}
use Rattle.directories.proofs.Agreeing.{no_chunks}
use Rattle.worked.specs.Cases.{column_a, one_to_40, Wide, Equal, Rising, Nothing, Sizes, Worked, look_up, place_with}

wide : Wide
unfolding shape least
wide = record { chunks = refl; upper = refl; internal = refl; first = refl; leaf = refl }

equal : Equal column_a
unfolding shape least along slot_row descend halving bits
equal = record { rows = refl; slots = refl; at_20 = refl; at_50 = refl; after_50 = refl; at_61 = refl; ceiling = refl }

rising : Rising one_to_40
unfolding shape least along slot_row descend halving bits
rising = record { rows = refl; node_4 = refl; at_41 = refl; node_0 = refl; at_17 = refl; ceiling = refl }

no_rows : (m w : ℕ) (pass : ℕ → Bool) → descent (shape 0 m w) pass ≡ place_with 0 0
unfolding shape least descend
no_rows m w pass = rw (no_chunks m)

nothing : Nothing
unfolding halving
nothing = record { slots = λ layout. refl; places = in_none }
  where
    in_none : (layout : Layout) (n : ℕ) (side : Side) → look_up layout [] n side ≡ place_with 0 0
    in_none Bare n side = refl
    in_none (Full m) n side = no_rows m (m + 1) _
    in_none (Level m) n side = no_rows m m _

sizes : Sizes
sizes = record { full_1 = refl; full_2 = refl; full_64 = refl; full_65 = refl; level_3 = refl; level_4 = refl }

pub worked : Worked column_a one_to_40
worked = record { wide = wide; column_a = equal; columns_b_c = rising; nothing = nothing; sizes = sizes }
