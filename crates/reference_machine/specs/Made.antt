-- What a step and a run of the machine made.
use Rattle.std.specs.Prelude.{◌≡◌, ℕ, ◌<◌, ◌≤◌, ℤ, pos, negsuc, Bool, List, Option, Some, None, option_map, IsNone}
use Rattle.host_types.specs.Memory.{◌>>=◌}
use Rattle.bpf_decode.specs.declared.insn.Insn.{Insn}
use Rattle.bpf_decode.specs.declared.operation.Comparison.{Comparison}
use Rattle.bpf_decode.specs.declared.operation.Source.{Source}
use Rattle.bpf_decode.specs.declared.operation.Width.{Width}
use Rattle.insn_alu.specs.Comparisons.{holds}
use Rattle.interp.specs.Machine.{MachineState, Next, Exits, register, operand, step}
use Rattle.interp.specs.Runs.{Reaches}
use Rattle.reference_machine.specs.declared.machine.Made.{Made}
use Rattle.reference_machine.specs.declared.machine.Made.TheVariants as made
use Rattle.reference_machine.specs.declared.machine.Ending.{Ending}
use Rattle.reference_machine.specs.declared.machine.Ending.TheVariants.{Exited, Faulted, Cut}

-- what a step is said to have made is what the standard's step makes; an exit and a fault leave the state
abbrev pub IsStepMade : List ℕ → MachineState → Made → MachineState → Type 0
IsStepMade text old made.Next new = step text old ≡ Some (Next new)
IsStepMade text old (made.Exits number) new = (step text old ≡ Some (Exits number old.memory.maps)) × (new ≡ old)
IsStepMade text old made.Fault new = (step text old ≡ None) × (new ≡ old)

-- a part of a step made of a state what it is said to make, at the same slot; a fault changes nothing
pub record IsPart (made : Option MachineState) (old : MachineState) (result : Option (Unit {0})) (new : MachineState) : Type 0 where
  pub value : made ≡ option_map (λ _. new) result
  pub slot : new.slot ≡ old.slot
  pub fault : IsNone result → new ≡ old

-- what an exit makes: R0's number, or a fault where it isn't set
abbrev pub IsExit : MachineState → Made → Type 0
IsExit s made.Next = ⊥
IsExit s (made.Exits number) = register s 0 ≡ Some number
IsExit s made.Fault = register s 0 ≡ None

-- what was done goes on at the slot after; what wasn't is a fault
abbrev pub GoesOnIfDone : Option (Unit {0}) → ℕ → MachineState → Made → MachineState → Type 0
GoesOnIfDone (Some _) following old result new = (result ≡ made.Next) × (new ≡ record old { slot = following })
GoesOnIfDone None following old result new = (result ≡ made.Fault) × (new ≡ old)

-- where a jump goes on; before the text there is nothing
abbrev pub IsLanded : ℤ → MachineState → Made → MachineState → Type 0
IsLanded (pos to) old result new = (result ≡ made.Next) × (new ≡ record old { slot = to })
IsLanded (negsuc n) old result new = (result ≡ made.Fault) × (new ≡ old)

-- whether the comparison of a conditional jump holds, where both operands are set
abbrev pub comparison_in : Comparison → Width → Source → Insn → MachineState → Option Bool
comparison_in comparison width source insn s = do
  a ← register s insn.dst
  b ← operand source insn s
  Some (holds comparison width a b)

-- The steps of a run, at most as many as were allowed, lead to its end: the exit with these maps, the
-- state whose step is a fault, or the state after as many steps as were allowed.
abbrev pub IsEnding : List ℕ → MachineState → ℕ → Ending → MachineState → Type 0
IsEnding text old most (Exited number steps) new = (steps ≤ most) × Reaches text old steps (Exits number new.memory.maps)
IsEnding text old most (Faulted steps) new = (steps < most) × Reaches text old steps (Next new) × (step text new ≡ None)
IsEnding text old most Cut new = Reaches text old most (Next new)
