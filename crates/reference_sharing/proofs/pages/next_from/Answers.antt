use Rattle.std.proofs.Common.{◌≡◌, ◌<◌, ◌∙◌, length, get_or, None, option_map, sym, ap, arith}
use Rattle.std.proofs.lemmas.List.{length-map}
use Rattle.std.proofs.Math.ListN.{get_or-map}
use Rattle.host_types.specs.Visits.{is_mergeable}
use Rattle.reference_sharing.specs.View.{page_of, page_states}
use Rattle.host_types.proofs.Next.{next-after, next-here, next-none}
use Rattle.reference_sharing.proofs.pages.next_from.Goals as goal
use Rattle.reference_sharing.proofs.pages.next_from.Goals.{After-is_mergeable}

-- the page at the index, as it was asked
asked : (c : After-is_mergeable) → (c.loop-page_index.page_index < length (page_states c.args.pages.now)) × (is_mergeable (get_or (page_states c.args.pages.now) c.loop-page_index.page_index None) ≡ c.is_mergeable.result)
asked c =
    let long = length-map c.args.pages.now (option_map page_of) in
    (omega (arith, long, c.loop-page_index-test.true), ap is_mergeable (get_or-map (option_map page_of) c.args.pages.now c.loop-page_index.page_index None) ∙ sym c.is_mergeable.ensures)

pub returns-then-is_mergeable : goal.returns-then-is_mergeable
returns-then-is_mergeable c =
    let page = asked (goal.at.returns-then-is_mergeable c).After-is_mergeable in
    sym (next-here (page_states c.args.pages.now) c.loop-page_index.page_index page.0 (page.1 ∙ c.if-is_mergeable.true)) ∙ c.loop-page_index.invariant

pub loop-page_index-preserved : goal.loop-page_index-preserved
loop-page_index-preserved c =
    let page = asked (goal.at.loop-page_index-preserved c).After-is_mergeable in
    sym (next-after (page_states c.args.pages.now) c.loop-page_index.page_index page.0 (page.1 ∙ c.if-is_mergeable.false)) ∙ c.loop-page_index.invariant

pub returns : goal.returns
returns c =
    let long = length-map c.args.pages.now (option_map page_of) in
    sym (next-none (page_states c.args.pages.now) c.loop-page_index.page_index (omega (arith, long, c.loop-page_index-test.false))) ∙ c.loop-page_index.invariant
