use Rattle.std.proofs.Common.{◌∙◌}
use Rattle.engines.proofs.Noting.{byte-status}
use Rattle.serving.proofs.Served.{printed-both}
use Rattle.serving.proofs.results.print_served.Goals as goal

pub returns-clause-printed : goal.returns-clause-printed
returns-clause-printed g c =
    let (answers, looked, written) = c.in_ok-print_lookups.ensures.printed in
    printed-both c.args.commands.now c.args.plans.now answers c.print_runs.new.printed.has_refused c.print_lookups.new.printed.has_refused c.from.result
    (g.W.Write.contents c.args.writer.now) (g.W.Write.contents c.print_runs.new.writer) (g.W.Write.contents c.print_lookups.new.writer)
    c.in_ok-print_runs.ensures.printed looked written (c.from.ensures ∙ byte-status c.print_lookups.new.printed.has_refused)
