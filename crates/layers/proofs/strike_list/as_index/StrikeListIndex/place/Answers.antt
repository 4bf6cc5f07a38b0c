-- The rows passed below less those struck among them are passed.
use Rattle.std.proofs.Common.{ap, arith}
use Rattle.layers.specs.Table.{under}
use Rattle.layers.specs.Held.{numbers}
use Rattle.layers.proofs.Sights.{place_sighted, place_few}
use Rattle.layers.proofs.strike_list.as_index.StrikeListIndex.place.Goals as goal

pub in_sight-requires : goal.in_sight-requires
in_sight-requires g c =
    let s = c.args.self.now in
    let meant = g.met.I.Index.meant s.below c.requires.opens in
    let h = place_sighted g.met.K.Key.lawful meant (numbers s.struck) s.struck.rising c.args.key.now c.args.side in
    let f = place_few g.met.K.Key.lawful meant c.args.key.now c.args.side in
    let p = c.place-found.ensures.place in
    let e = ap (under (numbers s.struck)) p in
    record { few = omega arith; enough = omega arith }

pub returns : goal.returns
returns g c =
    let s = c.args.self.now in
    let meant = g.met.I.Index.meant s.below c.requires.opens in
    let h = place_sighted g.met.K.Key.lawful meant (numbers s.struck) s.struck.rising c.args.key.now c.args.side in
    let p = c.place-found.ensures.place in
    let e = ap (under (numbers s.struck)) p in
    record { place = omega arith; comparisons = c.place-found.ensures.comparisons }
