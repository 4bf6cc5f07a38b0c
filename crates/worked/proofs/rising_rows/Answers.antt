-- The number at each place is the place's, and one more.
use Rattle.std.proofs.Common.{◌≡◌, ◌+◌, ◌<◌, get_or, sym, ◌∙◌, arith, rules, tests}
use Rattle.std.proofs.lemmas.List.{same_lists}
use Rattle.std.proofs.lemmas.List.FromFn.{get_or-map-range_with_len}
use Rattle.worked.specs.Cases.{account, one_to_40}
use Rattle.worked.proofs.rising_rows.Goals as goal

pub returns : goal.returns
returns c =
    let made = c.from_fn.ensures.items in
    same_lists c.from_fn.result one_to_40 made.long
    (λ k d h.
    let below : k < 40 = omega (arith, made.long) in
    let call = (made.at k d below).2 in
    let is : get_or c.from_fn.result k d ≡ account (k + 1) = search (rules, tests) in
    is ∙ sym (get_or-map-range_with_len account 1 40 k (k + 1) d below (omega arith)))
