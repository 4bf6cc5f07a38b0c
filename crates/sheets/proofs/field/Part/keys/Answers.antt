-- Part by part, the keys that the bytes spell.
use Rattle.std.proofs.Common.{◌∙◌, subst, rules, tests, arith}
use Rattle.std.proofs.lemmas.Iterator.{YieldsList, items_from_collect}
use Rattle.std.proofs.lemmas.Iterator.Consumers.{YieldsList-at, YieldsList-from_filter_map}
use Rattle.sheets.specs.Said.{key_of}
use Rattle.sheets.proofs.Keys.{yields_parts, keys_in_parts}
use Rattle.sheets.proofs.field.Part.keys.Goals as goal

pub returns : goal.returns
returns g c =
    let w = g.K.SheetKey.width in
    let spelled = g.K.SheetKey.spelled in
    let s = c.chunks_exact.result in
    let size = c.chunks_exact.ensures.size in
    let some = c.width.ensures.some in
    items_from_collect _ c.collect.ensures.ran
    (subst (YieldsList _ (λ y. y) _) (keys_in_parts w spelled _ s c.chunks_exact.ensures.rest (size ∙ c.width.ensures.value))
    (YieldsList-from_filter_map _ (key_of w spelled) (YieldsList-at c.filter_map.ensures.source (yields_parts s (omega arith))) c.filter_map.ensures.closure (λ x r q k. search (rules, tests))))
