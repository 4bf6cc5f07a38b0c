-- Each call is one step of the reference.
use Rattle.std.proofs.Common.{Ok, refl, ap, ◌∙◌}
use Rattle.layers.specs.Held.{numbers}
use Rattle.layers.specs.Table.{has}
use Rattle.layers.specs.Views.{out_of}
use Rattle.layers.specs.declared.calls.Call.TheVariants as call
use Rattle.layers.specs.declared.calls.Answer.TheVariants as answer
use Rattle.layers.proofs.Steps.{called, quiet, counted_is, strike_told, strike_leaves, restore_told, restore_leaves}
use Rattle.layers.proofs.strike_list.StrikeList.answer.Goals as goal

pub returns-in-Strike-clause-step : goal.returns-in-Strike-clause-step
returns-in-Strike-clause-step g c =
    let before = g.K.Key.before in
    let s = c.args.self.now in
    let m = g.I.Index.means s.below in
    let l = numbers s.struck in
    let struck = c.strike.ensures in
    called c.in-Strike.is (record {
      answer = c.done.ensures ∙ strike_told before m l s.struck.rising c.requires.within _ _ struck.answers;
      set = ap has struck.holds ∙ strike_leaves before m l s.struck.rising c.requires.within _ _ struck.answers;
      below = struck.below;
    })

pub returns-in-Restore-clause-step : goal.returns-in-Restore-clause-step
returns-in-Restore-clause-step g c =
    let before = g.K.Key.before in
    let s = c.args.self.now in
    let m = g.I.Index.means s.below in
    let l = numbers s.struck in
    let restored = c.restore.ensures in
    called c.in-Restore.is (record {
      answer = c.done-in-Restore.ensures ∙ restore_told before m l s.struck.rising c.requires.within _ _ restored.answers;
      set = ap has restored.holds ∙ restore_leaves before m l s.struck.rising c.requires.within _ _ restored.answers;
      below = restored.below;
    })

pub returns-in-Length-clause-step : goal.returns-in-Length-clause-step
returns-in-Length-clause-step g c =
    let s = c.args.self.now in
    called c.in-Length.is (record {
      answer = ap (λ n. Ok (answer.Rows n)) c.len.ensures;
      set = quiet g.K.Key.before (g.I.Index.means s.below) (has (out_of s)) call.Length refl;
      below = refl;
    })

pub returns-in-Row-clause-step : goal.returns-in-Row-clause-step
returns-in-Row-clause-step g c =
    let s = c.args.self.now in
    called c.in-Row.is (record {
      answer = c.read.ensures;
      set = quiet g.K.Key.before (g.I.Index.means s.below) (has (out_of s)) (call.Row c.in-Row.place c.in-Row.key) refl;
      below = refl;
    })

pub returns-in-Place-clause-step : goal.returns-in-Place-clause-step
returns-in-Place-clause-step g c =
    let s = c.args.self.now in
    called c.in-Place.is (record {
      answer = counted_is c.sought.ensures.place c.sought.ensures.comparisons;
      set = quiet g.K.Key.before (g.I.Index.means s.below) (has (out_of s)) (call.Place c.in-Place.key c.in-Place.side) refl;
      below = refl;
    })
