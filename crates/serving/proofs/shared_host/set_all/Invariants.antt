use Rattle.std.proofs.Common.{take}
use Rattle.serving.proofs.Settings.{IsSetUpto}
use Rattle.serving.proofs.shared_host.set_all.Given as goal

abbrev pub invariant-loop-command : goal.invariant-loop-command
invariant-loop-command l = IsSetUpto (take l.command-index l.commands) l.fn.memory l.memory
