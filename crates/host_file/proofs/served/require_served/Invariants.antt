use Rattle.std.proofs.Common.{take}
use Rattle.std.specs.Prelude.{All}
use Rattle.host_file.specs.Served.{IsServedCommand}
use Rattle.host_file.proofs.served.require_served.Given as goal

-- the commands so far are served
abbrev pub invariant-loop-number : goal.invariant-loop-number
invariant-loop-number l = All (IsServedCommand l.file.tenants) (take l.number l.file.commands)
