use Rattle.std.proofs.Common.{◌<◌, ◌≤◌, length, sym, ◌∙◌, arith}
use Rattle.std.proofs.lemmas.Bool.{le-ltb, lt-ltb}
use Rattle.std.proofs.lemmas.List.{get_or_past}
use Rattle.layers.specs.Table.{has}
use Rattle.layers.specs.Held.{numbers}
use Rattle.layers.specs.Sight.{sighted}
use Rattle.layers.specs.Hiding.{meant_sighted}
use Rattle.layers.proofs.Sights.{row_sighted, row_within}
use Rattle.layers.proofs.strike_list.as_index.StrikeListIndex.row.Goals as goal

pub returns-then-place-len : goal.returns-then-place-len
returns-then-place-len g c =
    let t = c.args.self.now.struck in
    let seen = sighted (has (numbers t)) (g.I.Index.means c.args.self.now.below).rows in
    let n = c.len.ensures in
    let past : length seen ≤ c.args.place = omega arith in
    record { answers = rw (le-ltb c.args.place (length seen) past); puts = sym (get_or_past seen c.args.place _ past) }

pub unstruck-requires : goal.unstruck-requires
unstruck-requires g c =
    let s = c.args.self.now in
    let f = (meant_sighted g.met.K.Key.lawful (g.met.I.Index.meant s.below c.requires.opens) (has (numbers s.struck))).few in
    let n = c.len.ensures in
    omega arith

pub returns : goal.returns
returns g c =
    let t = c.args.self.now.struck in
    let l = numbers t in
    let rows = (g.I.Index.means c.args.self.now.below).rows in
    let asc = t.rising in
    let seen = sighted (has l) rows in
    let n = c.len.ensures in
    let lt : c.args.place < length seen = omega arith in
    let inside = row_within rows l c.unstruck.result c.args.place asc c.unstruck.ensures.rank lt in
    record {
      answers = c.row.ensures.answers ∙ rw (lt-ltb c.unstruck.result (length rows) inside, lt-ltb c.args.place (length seen) lt);
      puts = c.row.ensures.puts ∙ sym (row_sighted rows l c.unstruck.result c.args.place _ asc c.unstruck.ensures.free c.unstruck.ensures.rank lt);
    }
