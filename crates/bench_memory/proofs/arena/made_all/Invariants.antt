use Rattle.std.proofs.Common.{◌≡◌, length}
use Rattle.bench_memory.proofs.arena.made_all.Given as goal

abbrev pub invariant-loop-number : goal.invariant-loop-number
invariant-loop-number l = length l.arena ≡ 64
