use Rattle.std.proofs.Common.{◌≡◌, take}
use Rattle.serving.specs.Prepared.{pages_set}
use Rattle.serving.proofs.runs.pages_at_last.Given as goal

abbrev pub invariant-loop-command : goal.invariant-loop-command
invariant-loop-command l = l.pages ≡ pages_set l.pages_to_scan (take l.command-index l.commands)
