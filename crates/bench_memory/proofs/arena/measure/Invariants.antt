use Rattle.std.proofs.Common.{◌≡◌, length}
use Rattle.bench_memory.proofs.arena.measure.Given as goal

abbrev pub invariant-loop-name : goal.invariant-loop-name
invariant-loop-name g l = length l.arena ≡ 64
