use Rattle.std.proofs.Common.{◌∙◌, slice_index_or, sym}
use Rattle.reference_sharing.proofs.Joins.{is-less, is-not-less, joined_here, joined_later, joined_last}
use Rattle.reference_sharing.proofs.groups.index_for.Goals as goal

pub returns-then-page_index-group-clause-value : goal.returns-then-page_index-group-clause-value
returns-then-page_index-group-clause-value c =
    sym (joined_here c.args.page_index c.args.group.now c.loop-index.index c.loop-index-test.true (is-less c.args.page_index (slice_index_or c.args.group.now c.loop-index.index 0) c.if-page_index-group.true)) ∙ c.loop-index.invariant

pub loop-index-preserved : goal.loop-index-preserved
loop-index-preserved c =
    sym (joined_later c.args.page_index c.args.group.now c.loop-index.index c.loop-index-test.true (is-not-less c.args.page_index (slice_index_or c.args.group.now c.loop-index.index 0) c.if-page_index-group.false)) ∙ c.loop-index.invariant

pub returns-clause-value : goal.returns-clause-value
returns-clause-value c = sym (joined_last c.args.page_index c.args.group.now c.loop-index.index c.loop-index-test.false) ∙ c.loop-index.invariant
