-- The registers of an instruction that fulfils its row of the table are R0 to R10, used or not.
use Rattle.std.proofs.Common.{◌≡◌, ◌≤◌, true, Option, Some, None, IsSome, refl, arith}
use Rattle.bpf_decode.specs.declared.insn.Insn.{Insn}
use Rattle.bpf_decode.specs.declared.operation.Source.TheVariants.{Immediate, Register}
use Rattle.bpf_decode.specs.declared.operation.Operation.{Operation}
use Rattle.bpf_decode.specs.declared.operation.Operation.TheVariants.{Alu, Load, Store, LoadImmediate, Jump, Branch, Call, Exit}
use Rattle.bpf_decode.specs.Opcodes.{operation_of, has_fields, has_registers, insn_fault}
use Rattle.bpf_decode.proofs.Accepted.{accepted_operation, accepted_fields, accepted_registers}

-- both registers are R0 to R10
pub record HasSmall (insn : Insn) : Type 0 where
  pub dst : insn.dst ≤ 10
  pub src : insn.src ≤ 10

small_by : (insn : Insn) (operation : Operation) → has_fields operation insn ≡ true → has_registers operation insn ≡ true → HasSmall insn
unfolding has_fields has_registers
small_by insn (Alu code width Immediate) fields there = record { dst = grind arith; src = grind arith }
small_by insn (Alu code width Register) fields there = record { dst = grind arith; src = grind arith }
small_by insn (Load size extension) fields there = record { dst = grind arith; src = grind arith }
small_by insn (Store size Immediate) fields there = record { dst = grind arith; src = grind arith }
small_by insn (Store size Register) fields there = record { dst = grind arith; src = grind arith }
small_by insn LoadImmediate fields there = record { dst = grind arith; src = grind arith }
small_by insn (Jump distance) fields there = record { dst = grind arith; src = grind arith }
small_by insn (Branch comparison width Immediate) fields there = record { dst = grind arith; src = grind arith }
small_by insn (Branch comparison width Register) fields there = record { dst = grind arith; src = grind arith }
small_by insn Call fields there = record { dst = grind arith; src = grind arith }
small_by insn Exit fields there = record { dst = grind arith; src = grind arith }

pub accepted_small : (insn : Insn) → insn_fault insn ≡ None → HasSmall insn
accepted_small insn accepted = by_operation (operation_of insn.opcode) refl (accepted_operation insn accepted)
  where
    by_operation : (found : Option Operation) → operation_of insn.opcode ≡ found → IsSome found → HasSmall insn
    by_operation None is some = absurd cc
    by_operation (Some operation) is some = small_by insn operation (accepted_fields insn operation accepted is) (accepted_registers insn operation accepted is)
