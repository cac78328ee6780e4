-- No page may be merged where no map is, or after a map's pages.
use Rattle.page_table.proofs.Base.{◌≡◌, ◌+◌, ◌*◌, ◌<◌, ◌≤◌, false, drop, slice_index_or, MatchOption, Option, None, Some, ℕ, arith, nat_tests, ◌∙◌, ◌-◌, List, [], length, option_map, sym, ap, first_mergeable, is_mergeable, states_of, Shape, part_of, page_count, TableState, IsTable, AreMaps, contents_of, state_of}
use Rattle.page_table.proofs.Creating.{length-contents}
use Rattle.page_table.proofs.Reading.{few_pages, content_in}
use Rattle.page_table.proofs.Entries.{reported_at, no_entry_of_content}
use Rattle.page_table.proofs.search.next_in_map.Goals as goal

module _ (table : TableState) (shapes : List (Option Shape)) (k i : ℕ) (fits : IsTable table) (are : AreMaps shapes (contents_of table)) (inside : k < length shapes) (from : k * 256 ≤ i) (to : i < k * 256 + 256) where
  no_merge : slice_index_or (part_of (contents_of table) (k * 256) 256) (i - k * 256) [] ≡ [] → is_mergeable (slice_index_or (states_of table.entries) i None) ≡ false
  no_merge none =
      let page_index : k * 256 + (i - k * 256) ≡ i = omega (arith, from) in
      let small : i - k * 256 < 256 = omega (arith, from, to) in
      let empty : slice_index_or (contents_of table) i [] ≡ [] =
      ap (λ (n : ℕ). slice_index_or (contents_of table) n []) (sym page_index) ∙ content_in (contents_of table) k (i - k * 256) small ∙ none in
      ap is_mergeable (reported_at state_of table.entries i ∙ ap (option_map state_of) (no_entry_of_content table i fits empty))

  without-map : slice_index_or shapes k None ≡ None → is_mergeable (slice_index_or (states_of table.entries) i None) ≡ false
  without-map h1 = grind (arith, nat_tests, no_merge)

  at_or_before-pages : (shape : Shape) → slice_index_or shapes k None ≡ Some shape → k * 256 + page_count shape ≤ i → is_mergeable (slice_index_or (states_of table.entries) i None) ≡ false
  at_or_before-pages shape h1 h2 = grind (arith, nat_tests, no_merge)

pub returns-in_default : goal.returns-in_default
returns-in_default c = grind (arith, nat_tests, without-map)

pub next_mergeable-requires : goal.next_mergeable-requires
next_mergeable-requires c = grind (arith, nat_tests, few_pages, length-contents)

-- what is known of a map's pages holds of all its indices
whole : (result : Option ℕ) (mergeable : ℕ → Type 0) (first : ℕ → Type 0) (from end last : ℕ) → MatchOption result ((i : ℕ) → from ≤ i → i < end → mergeable i) first
    → ((i : ℕ) → end ≤ i → i < last → from ≤ i → mergeable i) → MatchOption result ((i : ℕ) → from ≤ i → i < last → mergeable i) first
whole result mergeable first from end last h1 h2 = grind (arith, nat_tests)

pub returns : goal.returns
returns c =
    whole c.next_mergeable.result (λ i. is_mergeable (slice_index_or (states_of c.args.table.now.entries) i None) ≡ false)
    (λ i. first_mergeable c.args.from (drop c.args.from (states_of c.args.table.now.entries)) ≡ Some i)
    c.args.from (c.args.index * 256 + c.pages.result) (c.args.index * 256 + 256) c.next_mergeable.ensures
    (λ i past less le. at_or_before-pages c.args.table.now c.args.shapes.now c.args.index i (c.facts.ensures.1).fits c.requires.maps c.requires.map (omega (arith, c.requires.first, le)) less c.in-Some.shape c.in-Some.is (omega (arith, past, c.pages.ensures)))
