-- What was read, opened and asked gives the text; a declined column its one line.
use Rattle.std.proofs.Common.{◌≡◌, IfOk, string_bytes, refl, ap, ◌∙◌, subst}
use mathlib.Core.Path.{fun_ext}
use Rattle.directories.specs.Frozen.{column_of, layout_of}
use Rattle.directories.specs.Meanings.{frozen}
use Rattle.layers.specs.Table.{has}
use Rattle.answers.proofs.Sheets.{opened_lines}
use Rattle.answers.proofs.sheet_text.over.Goals as goal

pub returns : goal.returns
returns g c s says =
    let before = g.K.Key.before in
    let w = g.K.SheetKey.width in
    let spelled = g.K.SheetKey.spelled in
    let opens = c.in_default.ensures in
    subst (λ x. IfOk c.run.result (λ t. string_bytes t ≡ x))
    (opened_lines before w spelled c.args.letter _ s.calls _ _ _ _ _
    (c.as_slice.ensures.value ∙ c.in_ok-rows.ensures)
    (opens.bare_answers refl refl)
    (ap (λ x. frozen before (layout_of x) (column_of x)) c.new.ensures.below ∙ (λ j. frozen before (opens.under j) (opens.holds j)))
    (ap has c.new.ensures.none ∙ fun_ext (λ r. refl))
    (c.as_slice-2.ensures.value ∙ (c.in_ok-requests.ensures.asks s says).asks))
    c.run.ensures
