-- A malformed sheet, a bare one, and one that asks for a directory.
use Rattle.std.proofs.Common.{Some, sym, ap, ◌∙◌, inl, inr}
use Rattle.answers.specs.Printed.{text_under}
use Rattle.answers.proofs.Sheets.{some_sheet, text_by}
use Rattle.answers.proofs.sheet_text.answer.Goals as goal

pub returns-in_ok-bare-in-Bare : goal.returns-in_ok-bare-in-Bare
returns-in_ok-bare-in-Bare c =
    let e = some_sheet c.args.bytes.now c.in-Some.sheet c.in-Some.ensures.said in
    text_by c.args.bytes.now c.in-Some.sheet e.0 _ e.2 e.1 c.in-Bare.ensures ∙ ap Some (sym (c.in_ok-bare-in-Bare.ensures e.0 e.1))

pub returns-in-Full : goal.returns-in-Full
returns-in-Full c =
    let e = some_sheet c.args.bytes.now c.in-Some.sheet c.in-Some.ensures.said in
    text_by c.args.bytes.now c.in-Some.sheet e.0 _ e.2 e.1 c.layout.ensures
    ∙ elim c.in-Full.is [ inl m ↦ ap (λ l. text_under l e.0) m.1 | inr m ↦ ap (λ l. text_under l e.0) m.1 ]
