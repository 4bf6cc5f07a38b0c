-- Declined by a reason against the column or the number of slots, or by a slot; or accepted.
use Rattle.std.proofs.Common.{◌≡◌, false, Err, refl, rules}
use Rattle.indexes.specs.declared.decline.Decline.TheVariants.{SlotDiffers}
use Rattle.directories.proofs.Openings.{declined, unfit_opening, decided_opening, accepted}
use Rattle.directories.proofs.frozen.FrozenIndex.open.Goals as goal

pub returns-in_err-column : goal.returns-in_err-column
returns-in_err-column g c =
    let why = c.in_err-column.field-0.0 in
    let is : c.from_residual.result ≡ Err why = search rules in
    declined g.K.Key.before c.args.layout c.args.column.now c.args.slots.now c.args.self.now c.args.self.now c.from_residual.result why is
    (unfit_opening g.K.Key.before c.args.layout c.args.column.now c.args.slots.now why c.in_err-column.ensures) refl

pub returns-then-not-agrees : goal.returns-then-not-agrees
returns-then-not-agrees g c =
    let fits = c.in_ok-column.ensures in
    declined g.K.Key.before c.args.layout c.args.column.now c.args.slots.now c.args.self.now c.args.self.now (Err SlotDiffers) SlotDiffers refl
    (decided_opening g.K.Key.before c.args.layout c.args.column.now c.args.slots.now c.in_ok-column.column fits.0 fits.1 fits.2 false c.if-not-agrees.ensures)
    refl

pub returns : goal.returns
returns g c = let fits = c.in_ok-column.ensures in accepted g.K.Key.before g.met.K.Key.lawful c.args.layout c.args.column.now c.args.self.now _ fits.0 fits.1 fits.2 c.if-not-agrees.ensures
