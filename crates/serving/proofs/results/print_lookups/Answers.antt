use Rattle.std.proofs.Common.{◌∙◌, [], arith, refl}
use Rattle.host_file.specs.declared.command.Command.TheVariants.{Apply}
use Rattle.serving.proofs.Lookups.{lookups-all, lookups-end, lookups-none, lookups-on, lookups-step, lookups-printed}
use Rattle.serving.proofs.results.print_lookups.Goals as goal
use Rattle.serving.proofs.results.print_lookups.Goals.{in-Some+in_ok-print+in-Value-1, in-Some+in_ok-print+in-Map-1, in_default-looked_up}

pub loop-number-init : goal.loop-number-init
loop-number-init g c = record { parts = refl; lines = lookups-none _ _ c.args.printed.now.has_refused _ }

pub loop-number-preserved : goal.loop-number-preserved
loop-number-preserved g c = elim c.match-looked_up.branch [
  | in-Some+in_ok-print+in-Value-1 w ↦ rw (w.printed-is, w.writer-is) (record {
    parts = c.looked_up.ensures.parts ∙ c.loop-number.invariant.parts;
    lines = lookups-printed _ _ c.args.commands.now c.loop-number.number c.index-commands-number.result c.in-Apply.event w.in-Some.reply _ _ _ _ _ _
        c.loop-number-test.true c.index-commands-number.is c.in-Apply.is c.loop-number.invariant.parts w.in-Some.ensures.answers
        w.in_ok-print.ensures.refused w.in_ok-print.ensures.written c.loop-number.invariant.lines;
  })
  | in-Some+in_ok-print+in-Map-1 w ↦ rw (w.printed-is, w.writer-is) (record {
    parts = c.looked_up.ensures.parts ∙ c.loop-number.invariant.parts;
    lines = lookups-printed _ _ c.args.commands.now c.loop-number.number c.index-commands-number.result c.in-Apply.event w.in-Some.reply _ _ _ _ _ _
        c.loop-number-test.true c.index-commands-number.is c.in-Apply.is c.loop-number.invariant.parts w.in-Some.ensures.answers
        w.in_ok-print.ensures.refused w.in_ok-print.ensures.written c.loop-number.invariant.lines;
  })
  | in_default-looked_up w ↦ rw (w.printed-is, w.writer-is) (record {
    parts = c.looked_up.ensures.parts ∙ c.loop-number.invariant.parts;
    lines = lookups-on _ _ _ _ _ _ _ _
        (lookups-step c.args.commands.now c.loop-number.number c.index-commands-number.result (Apply c.in-Apply.event) []
        c.loop-number-test.true c.index-commands-number.is c.in-Apply.is w.in_default-looked_up.ensures.answers)
        c.loop-number.invariant.lines;
  })
]

pub returns-clause-printed : goal.returns-clause-printed
returns-clause-printed g c =
    lookups-all _ _ _ _ _ _ _ (lookups-end c.args.commands.now c.loop-number.number (omega (arith, c.loop-number-test.false))) c.loop-number.invariant.lines
