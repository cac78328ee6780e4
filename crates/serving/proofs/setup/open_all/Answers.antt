use Rattle.std.proofs.Common.{arith, refl}
use Rattle.std.proofs.lemmas.List.Elements.{All-nil}
use Rattle.serving.specs.Opened.{IsSettable}
use Rattle.serving.proofs.Opened.{opened-else, opened-none, opened-upto, opened-whole, stopped-at}
use Rattle.serving.proofs.Settings.{settable-else, settable-upto, settable-whole}
use Rattle.serving.proofs.setup.open_all.Goals as goal

pub loop-number-init : goal.loop-number-init
loop-number-init g c = record { own = c.requires.own; opened = opened-none c.args.plans.now; settable = All-nil IsSettable }

pub loop-number-preserved : goal.loop-number-preserved
loop-number-preserved g c = record {
  own = c.apply.ensures.own;
  opened = opened-upto c.args.commands.now c.loop-number.number c.index-commands-number.result _ _ _
      c.loop-number-test.true c.index-commands-number.is c.loop-number.invariant.opened (rw c.in-Apply.is c.in_default-apply.ensures.opened);
  settable = settable-upto c.args.commands.now c.loop-number.number c.index-commands-number.result
      c.loop-number-test.true c.index-commands-number.is c.loop-number.invariant.settable (rw c.in-Apply.is c.in_default-apply.ensures.settable);
}

pub loop-number-preserved-in_default : goal.loop-number-preserved-in_default
loop-number-preserved-in_default g c = record {
  own = c.loop-number.invariant.own;
  opened = opened-upto c.args.commands.now c.loop-number.number c.index-commands-number.result _ _ _
      c.loop-number-test.true c.index-commands-number.is c.loop-number.invariant.opened
      (opened-else c.index-commands-number.result c.loop-number.plans c.in_default.not-Apply);
  settable = settable-upto c.args.commands.now c.loop-number.number c.index-commands-number.result
      c.loop-number-test.true c.index-commands-number.is c.loop-number.invariant.settable
      (settable-else c.index-commands-number.result c.in_default.not-Apply);
}

pub returns-in-Err-clause-stopped : goal.returns-in-Err-clause-stopped
returns-in-Err-clause-stopped g c =
    stopped-at c.args.commands.now c.loop-number.number c.index-commands-number.result c.in-Apply.event c.in-Err.fault c.args.plans.now c.loop-number.plans
    c.loop-number-test.true c.index-commands-number.is c.in-Apply.is c.requires.new c.loop-number.invariant.opened c.loop-number.invariant.settable c.in-Err.ensures.refused

pub returns-clause-opened : goal.returns-clause-opened
returns-clause-opened g c =
    opened-whole c.args.commands.now c.loop-number.number c.args.plans.now c.loop-number.plans (omega (arith, c.loop-number-test.false)) c.loop-number.invariant.opened

pub returns-clause-settable : goal.returns-clause-settable
returns-clause-settable g c =
    settable-whole c.args.commands.now c.loop-number.number (omega (arith, c.loop-number-test.false)) c.loop-number.invariant.settable
