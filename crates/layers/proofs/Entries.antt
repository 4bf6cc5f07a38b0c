-- The entries of the table of struck rows: their numbers as a list, what a search finds in it, and what edits leave of it.
use Rattle.std.proofs.Common.{◌≡◌, ℕ, suc, ◌+◌, ◌-◌, ◌<◌, ◌≤◌, ◌≢◌, List, length, false, get_or, take, set, Option, Some, None, unwrap_or, Ok, Err, Result, sym, ap, ◌∙◌, ⊎_elim, arith}
use lib.ListN.{get_or-map}
use Rattle.std.proofs.lemmas.Bool.{cases_order, cases_lt, cases_eq}
use Rattle.std.proofs.lemmas.List.{ext_get_or, get_or-set_same, get_or-set_other, length-set, length-take-le, get_or-take, length-map}
use Rattle.std.proofs.lemmas.List.Edits.{length-insert, get_or-insert_below, get_or-insert_at, get_or-insert_above, length-remove, get_or-remove_below, get_or-remove_above}
use Rattle.std.specs.List.{insert, remove}
use Rattle.std.specs.List.Sorted.{IsSearchInRange, IsBinarySearchResult, IsNonDecreasingBy}
use Rattle.std.specs.Option.{MatchOption}
use Rattle.std.specs.Ordering.{nat_cmp, ordering_index}
use Rattle.std.proofs.lemmas.Cmp.{ranked}
use Rattle.std.proofs.lemmas.List.Sorted.{IsNonDecreasingBy-from_default}
use Rattle.std.proofs.lemmas.Bool.Decides.{nat_tests}
use Rattle.layers.specs.Table.{listed, none, has, under, search_answer}
use Rattle.layers.specs.Held.{numbers}
use Rattle.layers.proofs.Ascending.{found_is, gap_is, rank_is, above_from, has_none}
use Rattle.layers.specs.declared.table.StruckRow.{StruckRow}
use Rattle.layers.specs.declared.table.StruckRows.{StruckRows}

abbrev pub struck_row : ℕ → StruckRow
struck_row row = record { number = row }

number_at : (es : List StruckRow) (i : ℕ) → get_or (listed es) i 0 ≡ (get_or es i none).number
number_at es i = get_or-map (λ e. e.number) es i none

-- the number at a place of the first n entries
number_within : (n : ℕ) (es : List StruckRow) (i : ℕ) → i < n → get_or (listed (take n es)) i 0 ≡ (get_or es i none).number
number_within n es i h = number_at (take n es) i ∙ ap (λ (s : StruckRow). s.number) (get_or-take n es i none h)

length_within : (n : ℕ) (es : List StruckRow) → n ≤ length es → length (listed (take n es)) ≡ n
length_within n es h = length-map (take n es) (λ e. e.number) ∙ length-take-le n es h

module _ (t : StruckRows) where
  pub length_numbers : length (numbers t) ≡ t.len
  length_numbers = let w = t.whole in let f = t.few in length_within t.len t.entries (omega arith)

  pub entry_at : (i : ℕ) → i < t.len → (get_or t.entries i none).number ≡ get_or (numbers t) i 0
  entry_at i h = sym (number_within t.len t.entries i h)

  -- the entries with those from `at` on moved one further, and a row in the gap
  pub entries_inserted : (at row : ℕ) (moved : List StruckRow) → at ≤ t.len → t.len < 64 → length moved ≡ length t.entries
      → ((k : ℕ) (d : StruckRow) → at + 1 ≤ k → k < at + 1 + (t.len - at) → get_or moved k d ≡ get_or t.entries (at + (k - (at + 1))) d)
      → ((k : ℕ) (d : StruckRow) → k < at + 1 → get_or moved k d ≡ get_or t.entries k d)
      → listed (take (t.len + 1) (set moved at (struck_row row))) ≡ insert (numbers t) at row
  entries_inserted at row moved le lt long shifted kept =
      let w = t.whole in
      let new = set moved at (struck_row row) in
      let long-new : length new ≡ 64 = length-set moved at (struck_row row) ∙ long ∙ w in
      let size = length_numbers in
      let size-new : length (listed (take (t.len + 1) new)) ≡ t.len + 1 = length_within (t.len + 1) new (omega arith) in
      let size-inserted = length-insert (numbers t) at row (omega arith) in
      ext_get_or 0 _ _ (omega arith) (λ k kl. number_within (t.len + 1) new k (omega arith) ∙ ⊎_elim
      (λ e. ap (λ i. (get_or new i none).number) e ∙ ap (λ (s : StruckRow). s.number) (get_or-set_same moved at (struck_row row) none (omega arith)) ∙ sym (ap (λ i. get_or (insert (numbers t) at row) i 0) e ∙ get_or-insert_at (numbers t) at row 0 (omega arith)))
      (λ o. ⊎_elim
      (λ l. let ne : k ≢ at = omega arith in
      ap (λ (s : StruckRow). s.number) (get_or-set_other moved at k (struck_row row) none ne ∙ kept k none (omega arith)) ∙ entry_at k (omega arith) ∙ sym (get_or-insert_below (numbers t) at row 0 k l (omega arith)))
      (λ g. let ne : k ≢ at = omega arith in
      let back : (k - 1) + 1 ≡ k = omega arith in
      let from : at + (k - (at + 1)) ≡ k - 1 = omega arith in
      ap (λ (s : StruckRow). s.number) (get_or-set_other moved at k (struck_row row) none ne ∙ shifted k none (omega arith) (omega arith)) ∙ ap (λ i. (get_or t.entries i none).number) from ∙ entry_at (k - 1) (omega arith)
      ∙ sym (ap (λ i. get_or (insert (numbers t) at row) i 0) (sym back) ∙ get_or-insert_above (numbers t) at row 0 (k - 1) (omega arith) (omega arith))) o)
      (cases_order k at))

  -- the entries with those behind `at` moved one back
  pub entries_removed : (at : ℕ) (moved : List StruckRow) → at < t.len → length moved ≡ length t.entries
      → ((k : ℕ) (d : StruckRow) → at ≤ k → k < at + (t.len - (at + 1)) → get_or moved k d ≡ get_or t.entries (at + 1 + (k - at)) d)
      → ((k : ℕ) (d : StruckRow) → k < at → get_or moved k d ≡ get_or t.entries k d)
      → listed (take (t.len - 1) moved) ≡ remove (numbers t) at
  entries_removed at moved lt long shifted kept =
      let w = t.whole in
      let f = t.few in
      let long-new : length moved ≡ 64 = long ∙ w in
      let size = length_numbers in
      let size-new : length (listed (take (t.len - 1) moved)) ≡ t.len - 1 = length_within (t.len - 1) moved (omega arith) in
      let size-removed = length-remove (numbers t) at (omega arith) in
      ext_get_or 0 _ _ (omega arith) (λ k kl. number_within (t.len - 1) moved k (omega arith) ∙ ⊎_elim
      (λ l. ap (λ (s : StruckRow). s.number) (kept k none l) ∙ entry_at k (omega arith) ∙ sym (get_or-remove_below (numbers t) at 0 k l (omega arith)))
      (λ g. let from : at + 1 + (k - at) ≡ k + 1 = omega arith in
      ap (λ (s : StruckRow). s.number) (shifted k none g (omega arith)) ∙ ap (λ i. (get_or t.entries i none).number) from ∙ entry_at (k + 1) (omega arith) ∙ sym (get_or-remove_above (numbers t) at 0 k g (omega arith)))
      (cases_lt k at))

module _ (t : StruckRows) (row : ℕ) where
  abbrev held : List StruckRow
  held = take t.len t.entries

  length_held : length held ≡ t.len
  length_held = let w = t.whole in let f = t.few in length-take-le t.len t.entries (omega arith)

  -- the comparisons with a row rise along the entries, as a binary search asks
  comparisons_rise : IsNonDecreasingBy (λ e. ordering_index (nat_cmp e.number row)) held
  comparisons_rise = IsNonDecreasingBy-from_default (λ e. ordering_index (nat_cmp e.number row)) held none (λ i j le lt.
      let i_is = number_at held i in
      let j_is = number_at held j in
      let size = length_held in
      let many = length_numbers t in
      let rise : get_or (numbers t) i 0 ≤ get_or (numbers t) j 0 =
      ⊎_elim (λ (e : i ≡ j). let same = ap (λ k. get_or (numbers t) k 0) e in omega arith) (λ ne. let up = t.rising i j (omega arith) (omega arith) in omega arith) (cases_eq i j) in
      let numbers_rise : (get_or held i none).number ≤ (get_or held j none).number = omega arith in
      grind (arith, nat_tests))

  -- a binary search among the entries ends at the row's rank
  pub searched : (r : Result ℕ ℕ) → IsSearchInRange r (length held) → IsBinarySearchResult (λ e. nat_cmp e.number row) held r → r ≡ search_answer (numbers t) row
  searched (Ok at) lt equal =
      let size = length_held in
      let many = length_numbers t in
      found_is (numbers t) row at t.rising (omega arith) (number_at held at ∙ ranked _ row _ (sym (equal none)))
  searched (Err at) le parted =
      let size = length_held in
      let many = length_numbers t in
      let gap = parted comparisons_rise in
      gap_is (numbers t) row at (omega arith)
      (λ k h. let is = number_at held k in let below = ranked _ row _ (sym (gap.0 k none (omega arith) h)) in omega arith)
      (λ k g h. let is = number_at held k in let above = ranked _ row _ (sym (gap.1 k none g (omega arith))) in omega arith)

  -- and a row below the first entry's number goes before them all
  pub before_first : (first : StruckRow) → 0 < length held → get_or held 0 none ≡ first → row < first.number → Err 0 ≡ search_answer (numbers t) row
  before_first first some is below =
      let size = length_held in
      let many = length_numbers t in
      let here = number_at held 0 ∙ ap (λ (s : StruckRow). s.number) is in
      gap_is (numbers t) row 0 (omega arith) (λ k h. absurd (omega arith)) (above_from (numbers t) (suc row) 0 t.rising (omega arith) (omega arith))

module _ (t : StruckRows) (place : ℕ) where
  -- is the struck row at k above the place counted on by those before it?
  abbrev pub Above : ℕ → Type 0
  Above k = place + k < (get_or t.entries k none).number

  abbrev pub NotAbove : ℕ → Type 0
  NotAbove k = (get_or t.entries k none).number ≤ place + k

  -- the number with so many in sight below it that is in sight itself, behind `at` of those struck
  pub record Free (at : ℕ) : Type 0 where
    pub rank : place + at ≡ place + under (numbers t) (place + at)
    pub free : has (numbers t) (place + at) ≡ false

  stops_at : (at : ℕ) → at ≤ t.len → ((k : ℕ) → k < at → NotAbove k) → (at < t.len → Above at) → Free at
  stops_at at le below above =
      let size = length_numbers t in
      let low : (k : ℕ) → k < at → get_or (numbers t) k 0 < place + at = λ k h. let is = entry_at t k (omega arith) in let b = below k h in omega arith in
      let high : (k : ℕ) → at ≤ k → k < length (numbers t) → place + at < get_or (numbers t) k 0 = λ k g h.
      (let is = entry_at t at (omega arith) in let a = above (omega arith) in above_from (numbers t) (suc (place + at)) at t.rising (omega arith) (omega arith) k g h) in
      record {
        rank = ap (λ n. place + n) (rank_is (record { within = omega arith; below = low; above = λ k g h. let a = high k g h in omega arith }));
        free = has_none (numbers t) (place + at) (λ k h e. ⊎_elim (λ lt. let b = low k lt in omega arith) (λ ge. let a = high k ge h in omega arith) (cases_lt k at));
      }

  pub free_at : (r : Option ℕ)
      → MatchOption r ((k : ℕ) → 0 ≤ k → k < t.len → NotAbove k) (λ at. (0 ≤ at) × (at < t.len) × Above at × ((k : ℕ) → 0 ≤ k → k < at → NotAbove k))
      → Free (unwrap_or r t.len)
  free_at None none_above = stops_at t.len (omega arith) (λ k h. none_above k (omega arith) h) (λ h. absurd (omega arith))
  free_at (Some at) first = stops_at at (omega (arith, first.1)) (λ k h. first.3 k (omega arith) h) (λ h. first.2)
