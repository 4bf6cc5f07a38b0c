-- The row comes out of its rank, and the later ones move back.
use Rattle.std.proofs.Common.{◌≡◌, ◌-◌, take, sym, ap, ◌∙◌, subst, arith}
use Rattle.std.specs.List.{remove}
use Rattle.layers.specs.Table.{Ascending, listed}
use Rattle.layers.specs.Held.{numbers}
use Rattle.layers.proofs.Ascending.{Stands, stands, ascending_removed}
use Rattle.layers.proofs.Entries.{length_numbers, entries_removed}
use Rattle.layers.proofs.table.StruckRows.remove.Goals as goal
use Rattle.layers.proofs.table.StruckRows.remove.Goals.{In_ok-at, After-copy_within}

found : (c : In_ok-at) → Stands (numbers c.args.self.now) c.args.row c.in_ok-at.at
found c = stands (numbers c.args.self.now) c.args.row c.in_ok-at.at c.args.self.now.rising c.in_ok-at.ensures.answers

comes_out : (c : After-copy_within) → listed (take (c.args.self.now.len - 1) c.copy_within.new.self) ≡ remove (numbers c.args.self.now) c.in_ok-at.at
comes_out c =
    let t = c.args.self.now in
    let size = length_numbers t in
    let f = found (goal.at.invariant_of-self c).In_ok-at in
    entries_removed t c.in_ok-at.at c.copy_within.new.self (omega (arith, f.within)) c.copy_within.ensures.len c.copy_within.ensures.by_index.0 c.copy_within.ensures.by_index.1

pub invariant_of-self : goal.invariant_of-self
invariant_of-self c =
    let t = c.args.self.now in
    let size = length_numbers t in
    let few = t.few in
    let f = (found (goal.at.invariant_of-self c).In_ok-at).within in
    record {
      few = omega arith;
      whole = c.copy_within.ensures.len ∙ t.whole;
      rising = subst Ascending (sym (comes_out c)) (ascending_removed (numbers t) c.in_ok-at.at t.rising f);
    }

pub returns : goal.returns
returns c =
    let t = c.args.self.now in
    let f = found (goal.at.returns c).In_ok-at in
    let there = f.there in
    record {
      answers = rw there;
      holds = comes_out (goal.at.returns c).After-copy_within ∙ ap (λ i. remove (numbers t) i) f.rank;
    }
