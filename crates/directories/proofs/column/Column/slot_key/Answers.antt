use Rattle.std.proofs.Common.{get_or, sym, ap, ◌∙◌, arith}
use Rattle.std.proofs.lemmas.List.{get_or_read}
use Rattle.directories.proofs.SlotKeys.{slot_key}
use Rattle.directories.proofs.column.Column.slot_key.Goals as goal

pub returns : goal.returns
returns g c d =
    let x = c.args.self.now in
    sym c.index-self-row_of.is ∙ get_or_read x.rows.now c.row_of.result c.index-self-row_of.result (omega (arith, x.all, c.row_of.ensures.exists)) c.index-self-row_of.is d
    ∙ ap (λ n. get_or x.rows.now n d) c.row_of.ensures.is ∙ sym (slot_key x.tree x.rows.now x.all c.args.place d c.requires)
