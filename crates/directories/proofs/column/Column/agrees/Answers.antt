use Rattle.std.proofs.Common.{◌∙◌, ℕ, get_or, arith, rules, tests}
use Rattle.std.proofs.lemmas.Iterator.{YieldsList-from_slice}
use Rattle.std.proofs.lemmas.Iterator.Consumers.{YieldsList-from_enumerate}
use Rattle.std.proofs.lemmas.Iterator.Search.{all_from_yields_List}
use Rattle.keys.specs.Order.{equivalent_under}
use Rattle.directories.specs.Slots.{slot_keys}
use Rattle.directories.proofs.SlotKeys.{length_slot_keys, all_agree}
use Rattle.directories.proofs.column.Column.agrees.Goals as goal

pub returns : goal.returns
returns g c =
    let before = g.K.Key.before in
    let x = c.args.self.now in
    let slots = c.args.slots.now in
    let keys = slot_keys x.tree.shape x.rows.now in
    all_from_yields_List (λ (p : ℕ × g.row.K.Denot). equivalent_under before p.1 (get_or keys p.0 p.1)) _ _ c.all.result c.all.ensures.ran
    (YieldsList-from_enumerate (YieldsList-from_slice slots cc) cc) (λ x b q k. search (rules, tests))
    ∙ all_agree before 0 slots keys (omega (arith, c.requires, length_slot_keys x.tree x.rows.now x.all))
