-- The slots written are those that an opening wants.
use Rattle.std.proofs.Common.{◌≡◌, length, ap, ◌∙◌}
use Rattle.directories.specs.Opening.{opening}
use Rattle.directories.specs.Slots.{slot_keys, slots_under}
use Rattle.directories.proofs.Agreeing.{built_opens}
use Rattle.directories.proofs.Models.{column_shaped}
use Rattle.directories.proofs.directory.build.Goals as goal

pub returns-clause-opens : goal.returns-clause-opens
returns-clause-opens g c _ =
    let fits = c.in_ok-over.ensures in
    let column = c.in_ok-over.field-0 in
    let written : c.fill.new.slots ≡ slots_under c.args.layout c.args.column.now =
    c.fill.ensures ∙ ap (λ s. slot_keys s column.rows.now) (column_shaped column) ∙ (λ j. slots_under (fits.1 j) (fits.2 j)) in
    ap (opening g.K.Key.before c.args.layout c.args.column.now) written ∙ built_opens g.met.K.Key.lawful c.args.layout c.args.column.now (length c.args.slots.now) fits.0
