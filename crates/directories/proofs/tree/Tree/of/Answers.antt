-- An accepted shape passed the tests.
use Rattle.std.proofs.Common.{◌∙◌, sym, ap, arith}
use Rattle.shapes.specs.declared.shape.Shape.{Shape}
use Rattle.shapes.specs.Layouts.{shape_under}
use Rattle.shapes.proofs.Sizes.{rows_under}
use Rattle.shapes.proofs.Trees.{accepted}
use Rattle.directories.proofs.tree.Tree.of.Goals as goal

pub invariant_of-result : goal.invariant_of-result
invariant_of-result c =
    let ok = accepted c.args.layout c.args.rows c.in_ok-shape.shape c.in_ok-shape.ensures.answers in
    let rows = ap (λ (g : Shape). g.rows) ok.is ∙ rows_under c.args.layout c.args.rows in
    record { fine = ok.fine; few = omega (arith, ok.small, rows); shaped = ok.is ∙ ap (shape_under c.args.layout) (sym rows) }

pub returns-clause-rows : goal.returns-clause-rows
returns-clause-rows c =
    let ok = accepted c.args.layout c.args.rows c.in_ok-shape.shape c.in_ok-shape.ensures.answers in
    ap (λ (g : Shape). g.rows) ok.is ∙ rows_under c.args.layout c.args.rows
