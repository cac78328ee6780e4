-- What an instruction makes of a state doesn't depend on the state's slot.
use Rattle.std.specs.Prelude.{◌≡◌, ℕ, Option, Some, None, option_map}
use Rattle.std.proofs.Common.{refl, ap, ◌∙◌}
use Rattle.host_types.specs.declared.helper.MapHelper.{MapHelper}
use Rattle.host_types.specs.declared.helper.MapHelper.TheVariants.{Lookup, Update, Delete}
use Rattle.host_types.specs.Helpers.{helper}
use Rattle.host_types.specs.Memory.{fetch, write_number, ◌>>=◌}
use Rattle.bpf_decode.specs.declared.insn.Insn.{Insn}
use Rattle.bpf_decode.specs.declared.operation.Source.{Source}
use Rattle.bpf_decode.specs.declared.operation.Source.TheVariants.{Immediate, Register}
use Rattle.bpf_decode.specs.declared.operation.Width.{Width}
use Rattle.bpf_decode.specs.declared.operation.Size.{Size}
use Rattle.bpf_decode.specs.declared.operation.Extension.{Extension}
use Rattle.bpf_decode.specs.declared.operation.AluCode.{AluCode}
use Rattle.bpf_decode.specs.Opcodes.{byte_count}
use Rattle.insn_alu.specs.Arithmetic.{alu}
use Rattle.interp.specs.Machine.{MachineState, register, with_register, address_of, extended, wide_number, first_operand, operand, value_arguments, helper_call, step_alu, step_load, step_load_immediate, step_store, step_call}

-- the same state at another slot
abbrev pub moved : ℕ → MachineState → MachineState
moved slot s = record s { slot = slot }

-- two questions that go on alike from one answer are answered alike
pub then_alike : {A B C : Type 0} (h : B → C) (o : Option A) (f : A → Option C) (g : A → Option B) → ((a : A) → f a ≡ option_map h (g a)) → (o >>= f) ≡ option_map h (o >>= g)
then_alike h None f g e = refl
then_alike h (Some a) f g e = e a

-- the same of questions that have one answer
pub then_same : {A B C : Type 0} (h : B → C) (p o : Option A) (f : A → Option C) (g : A → Option B) → p ≡ o → ((a : A) → f a ≡ option_map h (g a)) → (p >>= f) ≡ option_map h (o >>= g)
then_same {A = A} h p o f g same e = ap (λ (z : Option A). z >>= f) same ∙ then_alike h o f g e

operand_slotless : (source : Source) (insn : Insn) (k : ℕ) (s : MachineState) → operand source insn (moved k s) ≡ operand source insn s
operand_slotless Immediate insn k s = refl
operand_slotless Register insn k s = refl

-- what is made of a state doesn't depend on its slot
abbrev pub IsSlotless : (MachineState → Option MachineState) → Type 0
IsSlotless f = (k : ℕ) (s : MachineState) → f (moved k s) ≡ option_map (moved k) (f s)

pub alu_slotless : (code : AluCode) (width : Width) (source : Source) (insn : Insn) → IsSlotless (step_alu code width source insn)
unfolding step_alu
alu_slotless code width source insn k s =
    then_alike (moved k) (first_operand code insn s) _ _ (λ a. then_same (moved k) (operand source insn (moved k s)) (operand source insn s) _ _ (operand_slotless source insn k s)
    (λ b. then_alike (moved k) (with_register s insn.dst (alu code width insn.offset a b)) _ _ (λ registers. refl)))

pub load_slotless : (size : Size) (extension : Extension) (insn : Insn) → IsSlotless (step_load size extension insn)
unfolding step_load
load_slotless size extension insn k s =
    then_alike (moved k) (register s insn.src) _ _ (λ base. then_alike (moved k) (fetch s.memory (address_of base insn.offset) (byte_count size)) _ _
    (λ number. then_alike (moved k) (with_register s insn.dst (extended size extension number)) _ _ (λ registers. refl)))

pub load_immediate_slotless : (insn : Insn) → IsSlotless (step_load_immediate insn)
unfolding step_load_immediate
load_immediate_slotless insn k s =
    then_alike (moved k) (wide_number s.memory.maps insn) _ _ (λ number. then_alike (moved k) (with_register s insn.dst number) _ _ (λ registers. refl))

pub store_slotless : (size : Size) (source : Source) (insn : Insn) → IsSlotless (step_store size source insn)
unfolding step_store
store_slotless size source insn k s =
    then_alike (moved k) (register s insn.dst) _ _ (λ base. then_same (moved k) (operand source insn (moved k s)) (operand source insn s) _ _ (operand_slotless source insn k s)
    (λ number. then_alike (moved k) (write_number s.memory (address_of base insn.offset) (byte_count size) number) _ _ (λ memory. refl)))

arguments_slotless : (helper : MapHelper) (k : ℕ) (s : MachineState) (m : ℕ) → value_arguments helper (moved k s) m ≡ value_arguments helper s m
arguments_slotless Lookup k s m = refl
arguments_slotless Update k s m = refl
arguments_slotless Delete k s m = refl

pub call_slotless : (insn : Insn) → IsSlotless (step_call insn)
unfolding step_call helper_call
call_slotless insn k s =
    then_alike (moved k) (helper_call insn s) _ _ (λ call. then_same (moved k) (value_arguments call.helper (moved k s) call.map) (value_arguments call.helper s call.map) _ _ (arguments_slotless call.helper k s call.map)
    (λ arguments. then_alike (moved k) (helper call.helper s.memory.maps call.map call.key arguments.0 arguments.1) _ _ (λ answered. refl)))
