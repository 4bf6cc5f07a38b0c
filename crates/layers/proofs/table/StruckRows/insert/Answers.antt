-- A new row goes in at its rank, and the later ones move on.
use Rattle.std.proofs.Common.{◌≡◌, ◌+◌, true, false, leb, length, take, set, sym, refl, ap, ◌∙◌, subst, arith, length-set}
use Rattle.std.proofs.lemmas.Bool.{leb-false}
use Rattle.std.specs.List.{insert}
use Rattle.layers.specs.Table.{Ascending, listed}
use Rattle.layers.specs.Held.{numbers}
use Rattle.layers.proofs.Ascending.{Fits, fits, ascending_inserted}
use Rattle.layers.proofs.Entries.{struck_row, length_numbers, entries_inserted}
use Rattle.layers.proofs.table.StruckRows.insert.Goals as goal
use Rattle.layers.proofs.table.StruckRows.insert.Goals.{In_ok-at, After-copy_within}

gap : (c : In_ok-at) → Fits (numbers c.args.self.now) c.args.row c.in_ok-at.at
gap c = fits (numbers c.args.self.now) c.args.row c.in_ok-at.at c.args.self.now.rising c.in_ok-at.ensures.answers

goes_in : (c : After-copy_within) → listed (take (c.args.self.now.len + 1) (set c.copy_within.new.self c.in_ok-at.at (struck_row c.args.row))) ≡ insert (numbers c.args.self.now) c.in_ok-at.at c.args.row
goes_in c =
    let t = c.args.self.now in
    let size = length_numbers t in
    let w = (gap (goal.at.invariant_of-self c).In_ok-at).ranked.within in
    let free = leb-false 64 t.len (sym c.if-is_full.ensures) in
    entries_inserted t c.in_ok-at.at c.args.row c.copy_within.new.self (omega arith) (omega arith) c.copy_within.ensures.len c.copy_within.ensures.by_index.0 c.copy_within.ensures.by_index.1

pub returns-then-is_full : goal.returns-then-is_full
returns-then-is_full c =
    let t = c.args.self.now in
    let full : leb 64 (length (numbers t)) ≡ true = ap (leb 64) (length_numbers t) ∙ sym c.if-is_full.ensures in
    record { answers = rw ((gap (goal.at.returns-then-is_full c).In_ok-at).absent, full); holds = refl }

pub invariant_of-self : goal.invariant_of-self
invariant_of-self c =
    let t = c.args.self.now in
    let at = gap (goal.at.invariant_of-self c).In_ok-at in
    let free = leb-false 64 t.len (sym c.if-is_full.ensures) in
    record {
      few = omega arith;
      whole = length-set _ _ _ ∙ c.copy_within.ensures.len ∙ t.whole;
      rising = subst Ascending (sym (goes_in c)) (ascending_inserted (numbers t) c.args.row c.in_ok-at.at t.rising at.ranked at.absent);
    }

pub returns : goal.returns
returns c =
    let t = c.args.self.now in
    let at = gap (goal.at.returns c).In_ok-at in
    let room : leb 64 (length (numbers t)) ≡ false = ap (leb 64) (length_numbers t) ∙ sym c.if-is_full.ensures in
    record {
      answers = rw (at.absent, room);
      holds = goes_in (goal.at.returns c).After-copy_within ∙ ap (λ i. insert (numbers t) i c.args.row) at.rank;
    }
