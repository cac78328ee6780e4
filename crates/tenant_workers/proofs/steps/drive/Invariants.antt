use Rattle.std.proofs.Common.{◌-◌}
use Rattle.bpf_decode.specs.Text.{instructions_of}
use Rattle.turn.specs.Seats.{IsIdle, own_part}
use Rattle.tenant_workers.specs.Calls.{HasGoneOn, IsSameSeat}
use Rattle.tenant_workers.proofs.Driven.{IsDriven}
use Rattle.tenant_workers.proofs.steps.drive.Given as goal

abbrev pub decreases-loop-ret : goal.decreases-loop-ret
decreases-loop-ret g l = instructions_of l.program.subject.text - l.run.steps

abbrev pub invariant-loop-ret : goal.invariant-loop-ret
invariant-loop-ret g l = IsIdle l.shared l.seat × IsSameSeat l.fn.seat l.seat × HasGoneOn l.fn.seat l.seat × IsDriven l.program l.fn.run (own_part l.fn.seat) l.run (own_part l.seat)
