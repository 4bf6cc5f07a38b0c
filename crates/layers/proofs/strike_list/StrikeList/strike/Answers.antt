-- The row is one of the index below, so the table answers; its numbers stay in range.
use Rattle.std.proofs.Common.{length, sym, subst}
use Rattle.layers.specs.Held.{numbers}
use Rattle.layers.specs.Table.{Within}
use Rattle.layers.proofs.Steps.{answered, with_within}
use Rattle.layers.proofs.strike_list.StrikeList.strike.Goals as goal

pub returns-clause-answers : goal.returns-clause-answers
returns-clause-answers g c = answered (length (g.I.Index.means c.args.self.now.below).rows) c.args.row _ c.in_ok-below_has.ensures c.insert.ensures.answers

pub returns-clause-opened : goal.returns-clause-opened
returns-clause-opened g c =
    let s = c.args.self.now in
    let n = length (g.I.Index.means s.below).rows in
    let is = answered n c.args.row _ c.in_ok-below_has.ensures c.insert.ensures.answers in
    record { opens = c.requires.opens; within = subst (λ l. Within l n) (sym c.insert.ensures.holds) (with_within n (numbers s.struck) c.args.row _ is c.requires.within) }
