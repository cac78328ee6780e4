use Rattle.std.proofs.Common.{◌≡◌, ◌∙◌, ◌+◌, suc, arith}
use Rattle.host_types.specs.Sharing.{gone_from}
use Rattle.reference_sharing.proofs.sharing.PlainSharing.remove_pages.Goals as goal

pub loop-number-preserved : goal.loop-number-preserved
unfolding gone_from
loop-number-preserved c =
    let next : c.args.first + (c.loop-number.number + 1) ≡ c.args.first + c.loop-number.number + 1 = omega arith in
    record {
      gone = λ rest e. rw (c.remove_page.ensures.gone, next) (c.loop-number.invariant.gone (suc rest) (omega (arith, e)));
      waiting = c.remove_page.ensures.waiting ∙ c.loop-number.invariant.waiting;
    }

pub returns-clause-gone : goal.returns-clause-gone
unfolding gone_from
returns-clause-gone c = c.loop-number.invariant.gone 0 (omega (arith, c.loop-number-test.false, c.loop-number.auto.number-end))
