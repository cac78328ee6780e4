use Rattle.std.proofs.Common.{suc, ap, arith}
use Rattle.host_types.specs.Sharing.{pages_broken}
use Rattle.reference_sharing.proofs.sharing.PlainSharing.break_all.Goals as goal

pub loop-page_index-init : goal.loop-page_index-init
loop-page_index-init c = λ rest e. ap (pages_broken c.args.self.now 0) (omega (arith, e))

pub loop-page_index-preserved : goal.loop-page_index-preserved
unfolding pages_broken
loop-page_index-preserved c = λ rest e. rw (c.break_page.ensures) (c.loop-page_index.invariant (suc rest) (omega (arith, e)))

pub returns : goal.returns
unfolding pages_broken
returns c = c.loop-page_index.invariant 0 (omega (arith, c.page_indices-page_index-end.ensures, c.loop-page_index-test.false, c.loop-page_index.auto.page_index-end))
