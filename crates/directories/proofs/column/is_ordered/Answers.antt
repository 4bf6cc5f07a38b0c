use Rattle.std.proofs.Common.{not, rules, tests}
use Rattle.std.proofs.lemmas.List.Sorted.{answers_always}
use Rattle.directories.proofs.Columns.{ordered_answer}
use Rattle.directories.proofs.column.is_ordered.Goals as goal

pub returns : goal.returns
returns g c =
    let before = g.K.Key.before in
    ordered_answer before c.args.rows.now _
    (c.is_sorted_by.ensures.cases (λ x y. not (before y x)) (answers_always _ _ _ (λ f a r f' k. search (rules, tests))))
