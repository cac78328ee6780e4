use Rattle.std.proofs.Common.{length, ◌-◌, ◌/◌}
use Rattle.bpf_decode.proofs.Walk.{IsReached}
use Rattle.bpf_decode.proofs.text.first_bad_insn.Given as goal

abbrev pub invariant-loop-slot : goal.invariant-loop-slot
invariant-loop-slot l = IsReached l.text l.slot

abbrev pub decreases-loop-slot : goal.decreases-loop-slot
decreases-loop-slot l = length l.text / 8 - l.slot
