-- One request more, answered by the reference.
use Rattle.std.proofs.Common.{◌++◌, string_bytes, refl, ap, ◌∙◌}
use Rattle.layers.specs.Reference.{reply, set_after}
use Rattle.layers.specs.Table.{has}
use Rattle.layers.specs.Views.{out_of}
use Rattle.answers.specs.Letters.{code}
use Rattle.answers.specs.Text.{lines, line, told}
use Rattle.answers.proofs.Lines.{lines_more, lines_none}
use Rattle.answers.proofs.run.run.Goals as goal

pub loop-request-init : goal.loop-request-init
loop-request-init g c = (c.requires, refl, ap (λ l. l ++ lines g.K.Key.before (g.I.Index.means c.args.list.now.below) (has (out_of c.args.list.now)) c.args.requests.now) c.new-text.ensures.bytes)

pub loop-request-preserved : goal.loop-request-preserved
loop-request-preserved g c =
    let before = g.K.Key.before in
    let m = g.I.Index.means c.args.list.now.below in
    let inv = c.loop-request.invariant in
    let step = c.answer-answer.ensures.step in
    let out = has (out_of c.loop-request.list) in
    let r = c.request-item.result in
    let means = g.I.Index.means in (
      c.answer-answer.ensures.opened,
      step.below ∙ inv.1,
      lines_more before m c.args.requests.now c.loop-request.request-index r c.answer-answer.result out (has (out_of c.answer-answer.new.self)) (string_bytes c.loop-request.text) _ c.loop-request-test.true c.request-item.is
          (step.answer ∙ (λ j. reply before (means (inv.1 j)) out (c.call.ensures j)))
          (step.set ∙ (λ j. set_after before (means (inv.1 j)) out (c.call.ensures j)))
          (c.in_ok-writeln.ensures.bytes ∙ ap (λ x. string_bytes c.loop-request.text ++ line (code x) (told c.answer-answer.result)) c.from-letter.ensures)
          ∙ inv.2,
    )

pub returns : goal.returns
returns g c = lines_none g.K.Key.before (g.I.Index.means c.args.list.now.below) c.args.requests.now c.loop-request.request-index _ _ _ c.loop-request-test.false c.loop-request.invariant.2
