-- The rows below less those struck are in sight.
use Rattle.std.proofs.Common.{ap, arith}
use Rattle.layers.specs.Table.{under}
use Rattle.layers.specs.Held.{numbers}
use Rattle.layers.proofs.Sights.{len_sighted}
use Rattle.layers.proofs.strike_list.as_index.StrikeListIndex.len.Goals as goal

pub in_sight-requires : goal.in_sight-requires
in_sight-requires g c =
    let s = c.args.self.now in
    let h = len_sighted (g.I.Index.means s.below).rows (numbers s.struck) s.struck.rising in
    let e = ap (under (numbers s.struck)) c.len.ensures in
    let f = (g.met.I.Index.meant s.below c.requires.opens).few in
    record { few = omega arith; enough = omega arith }

pub returns : goal.returns
returns g c =
    let s = c.args.self.now in
    let h = len_sighted (g.I.Index.means s.below).rows (numbers s.struck) s.struck.rising in
    let e = ap (under (numbers s.struck)) c.len.ensures in
    omega arith
