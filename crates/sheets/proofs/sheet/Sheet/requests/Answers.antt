-- Field by field, what those that the reader hands on ask; where they go to the end, they are the sheet's calls.
use Rattle.std.proofs.Common.{length, ap, ◌∙◌, rules, tests}
use Rattle.std.proofs.lemmas.Iterator.{items_from_collect}
use Rattle.std.proofs.lemmas.Iterator.Consumers.{YieldsList-at, YieldsList-from_filter_map}
use Rattle.std.proofs.lemmas.Result.{IfOk-weaker}
use Rattle.sheets.specs.Grammar.{state}
use Rattle.sheets.specs.Said.{request_of, requests_of}
use Rattle.sheets.proofs.Left.{handed_left}
use Rattle.sheets.proofs.Turns.{yields_handed}
use Rattle.sheets.proofs.Requests.{calls_left, asks_each}
use Rattle.sheets.proofs.sheet.Sheet.requests.Goals as goal

pub returns : goal.returns
returns g c =
    let w = g.K.SheetKey.width in
    let spelled = g.K.SheetKey.spelled in
    let calls = c.args.self.now.calls in
    let each = items_from_collect _ c.collect.ensures.ran
    (YieldsList-from_filter_map _ (request_of w spelled) (YieldsList-at c.filter_map.ensures.source (yields_handed calls)) c.filter_map.ensures.closure (λ x r q k. search (rules, tests))) in
    record {
      asks = λ s says.
          let asks = IfOk-weaker c.collect.result _ _ (λ v e. e ∙ ap (requests_of w spelled) (handed_left (state calls) s.calls (calls_left c.args.self.now s says))) each in
          record { asks = asks; one_each = λ all. IfOk-weaker c.collect.result _ _ (λ v e. ap length e ∙ asks_each w spelled s.calls all) asks };
      each = each;
    }
