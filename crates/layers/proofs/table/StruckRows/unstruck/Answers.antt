-- The first struck row that is above its place among those in sight has all earlier ones below it.
use Rattle.std.proofs.Common.{rules, sym, subst}
use Rattle.std.proofs.lemmas.Iterator.{first_from_Range}
use Rattle.layers.proofs.Entries.{Above, NotAbove, Free, free_at}
use Rattle.layers.proofs.table.StruckRows.unstruck.Goals as goal

pub returns : goal.returns
returns c =
    let t = c.args.self.now in
    let stops =
    free_at t c.args.place c.find.result
    (first_from_Range _ _ _ _ (Above t c.args.place) (NotAbove t c.args.place) c.find.ensures.ran (λ k f called. search rules) (λ k f called. search rules)) in
    let free = subst (Free t c.args.place) (sym c.unwrap_or-at.ensures) stops in
    record { rank = free.rank; free = free.free }
