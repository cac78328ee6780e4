use Rattle.std.proofs.Common.{◌<◌}
use Rattle.turn.specs.Seats.{IsIdle}
use Rattle.tenant_workers.specs.Calls.{IsSameSeat, IsVisited, HasVisited, memory_left}
use Rattle.tenant_workers.proofs.shared.Shared.scan_answered.Given as goal

abbrev pub invariant-loop-visit : goal.invariant-loop-visit
invariant-loop-visit g l = IsIdle l.self l.seat × IsSameSeat l.fn.seat l.seat × HasVisited l._visit l.fn.seat l.seat × (0 < l._visit → IsVisited (memory_left l.seat))
