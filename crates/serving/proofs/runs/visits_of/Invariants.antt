use Rattle.std.proofs.Common.{◌≡◌, take, sum_by, min}
use Rattle.serving.specs.Prepared.{visits_by}
use Rattle.serving.proofs.runs.visits_of.Given as goal

abbrev pub invariant-loop-command : goal.invariant-loop-command
invariant-loop-command l = l.visits ≡ min 4294967295 (sum_by (visits_by l.pages) (take l.command-index l.commands))
