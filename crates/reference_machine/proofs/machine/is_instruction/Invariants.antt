use Rattle.std.proofs.Common.{◌≡◌}
use Rattle.bpf_decode.specs.Text.{is_instruction}
use Rattle.reference_machine.proofs.machine.is_instruction.Given as goal

abbrev pub invariant-loop-before : goal.invariant-loop-before
invariant-loop-before l = l.begins ≡ is_instruction l.text l.before
