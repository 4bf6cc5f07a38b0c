-- No rows are in order, and no slots agree with them.
use Rattle.std.proofs.Common.{[], length, ap, arith}
use Rattle.directories.specs.Slots.{slot_keys, agree}
use Rattle.directories.proofs.Models.{opened}
use Rattle.directories.proofs.frozen.FrozenIndex.empty.Goals as goal

pub returns-clause-opened : goal.returns-clause-opened
returns-clause-opened g c =
    let none = c.empty.ensures.rows in
    opened g.K.Key.before _ (λ i d h. absurd (omega (arith, ap length none))) (ap (λ rows. agree g.K.Key.before [] (slot_keys c.empty.result.tree.shape rows)) none)
