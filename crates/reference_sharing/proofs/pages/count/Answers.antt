use Rattle.std.proofs.Common.{◌+◌, sum_by, option_map, ap, ◌∙◌, arith}
use Rattle.std.proofs.lemmas.List.{take_all, length-map}
use Rattle.reference_sharing.specs.View.{page_of, page_states, one_of}
use Rattle.reference_sharing.proofs.Lists.{counted_more}
use Rattle.reference_sharing.proofs.pages.count.Goals as goal

pub returns-clause-count : goal.returns-clause-count
returns-clause-count c =
    let long = length-map c.args.pages.now (option_map page_of) in
    c.loop-page.invariant.count ∙ ap (sum_by (one_of c.args.sort)) (take_all c.loop-page.page-index (page_states c.args.pages.now) (omega (arith, long, c.loop-page-test.false)))

pub loop-page-preserved : goal.loop-page-preserved
loop-page-preserved c = record {
  count = ap (λ n. c.loop-page.count + n) c.one-count.ensures.value ∙ counted_more (one_of c.args.sort) c.args.pages.now c.loop-page.page-index c.loop-page.count c.loop-page-test.true c.loop-page.invariant.count;
  small = omega arith;
}
