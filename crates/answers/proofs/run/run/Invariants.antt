-- The lines so far, and then those of the requests that are left, are all; the list stays one that answers, above the same
-- index.
use Rattle.std.proofs.Common.{◌≡◌, ◌++◌, drop, string_bytes}
use Rattle.layers.specs.Table.{has}
use Rattle.layers.specs.Views.{out_of, Kept}
use Rattle.answers.specs.Text.{lines}
use Rattle.answers.proofs.run.run.Given as goal

abbrev pub invariant-loop-request : goal.invariant-loop-request
invariant-loop-request g l =
    let before = g.K.Key.before in
    let m = g.I.Index.means l.initial.list.below in
    Kept g.I.Index.opened g.I.Index.means l.list
    × (l.list.below ≡ l.initial.list.below)
    × (string_bytes l.text ++ lines before m (has (out_of l.list)) (drop l.request-index l.requests) ≡ lines before m (has (out_of l.initial.list)) l.requests)
