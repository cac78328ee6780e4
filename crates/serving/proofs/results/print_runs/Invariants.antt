use Rattle.std.proofs.Common.{drop, map}
use Rattle.serving.specs.RunLines.{all_run_tellings}
use Rattle.serving.proofs.Tellings.{IsPrintedUpTo}
use Rattle.serving.proofs.results.print_runs.Given as goal

-- the lines of the tenants so far were reported, and those of the others are to follow
abbrev pub invariant-loop-tenant : goal.invariant-loop-tenant
invariant-loop-tenant g l =
    IsPrintedUpTo (all_run_tellings l.commands 0 (map (λ plan. plan.replies.items) l.plans)) (all_run_tellings l.commands l.tenant (map (λ plan. plan.replies.items) (drop l.tenant l.plans)))
    l.fn.printed.has_refused l.printed.has_refused (g.W.Write.contents l.fn.writer) (g.W.Write.contents l.writer)
