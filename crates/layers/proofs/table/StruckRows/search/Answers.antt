-- A binary search among numbers that ascend ends at the row's rank.
use Rattle.std.proofs.Common.{rules}
use Rattle.std.proofs.lemmas.List.Sorted.{answers_always}
use Rattle.layers.proofs.Entries.{searched}
use Rattle.layers.proofs.table.StruckRows.search.Goals as goal

pub returns-in_default-clause-answers : goal.returns-in_default-clause-answers
returns-in_default-clause-answers c =
    let facts = c.binary_search_by_key.ensures in
    let by_number = facts.position (λ struck. struck.number) (answers_always _ _ _ (λ f a r g called. search rules)) in
    searched c.args.self.now c.args.row _ (rw c.as_slice-struck.ensures at facts.bound) (rw c.as_slice-struck.ensures at by_number)
