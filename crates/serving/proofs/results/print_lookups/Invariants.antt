use Rattle.std.proofs.Common.{◌≡◌, drop, map}
use Rattle.turn.specs.Seats.{own_part}
use Rattle.serving.specs.Lookups.{lookups_in}
use Rattle.serving.proofs.Lookups.{ArePrintedUpTo}
use Rattle.serving.proofs.results.print_lookups.Given as goal

-- the lines so far were reported, and those of the lookups that are left are to follow; the tenants' parts stay
abbrev pub invariant-loop-number : goal.invariant-loop-number
invariant-loop-number g l = record {
  parts : map (λ plan. own_part plan.seat) l.plans ≡ map (λ plan. own_part plan.seat) l.fn.plans;
  lines : ArePrintedUpTo (map (λ plan. own_part plan.seat) l.fn.plans) (lookups_in l.commands) (lookups_in (drop l.number l.commands))
      l.fn.printed.has_refused l.printed.has_refused (g.W.Write.contents l.fn.writer) (g.W.Write.contents l.writer);
}
