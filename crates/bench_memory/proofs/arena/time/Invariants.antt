use Rattle.std.proofs.Common.{◌≡◌, length}
use Rattle.bench_memory.proofs.arena.time.Given as goal

abbrev pub invariant-loop : goal.invariant-loop
invariant-loop g l = length l.arena ≡ 64
