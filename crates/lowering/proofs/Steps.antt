-- A copy steps as the original does at its origin.
use Rattle.std.specs.Prelude.{◌≡◌, ℕ, ◌+◌, ◌==◌, nat_lt, nat_le, int_lt, int_le, ℤ, pos, negsuc, ◌+ℤ◌, Bool, true, false, not, if◌then◌else◌, List, slice_index, Option, Some, None, option_map}
use Rattle.std.proofs.Common.{inl, inr, refl, sym, ap, ◌∙◌, arith}
use Rattle.std.proofs.lemmas.Bool.Decides.{nat_tests}
use Rattle.host_types.specs.Memory.{◌>>=◌}
use Rattle.bpf_decode.specs.declared.insn.Insn.{Insn}
use Rattle.bpf_decode.specs.declared.operation.Source.{Source}
use Rattle.bpf_decode.specs.declared.operation.Source.TheVariants.{Immediate, Register}
use Rattle.bpf_decode.specs.declared.operation.Width.{Width}
use Rattle.bpf_decode.specs.declared.operation.Comparison.{Comparison}
use Rattle.bpf_decode.specs.declared.operation.Comparison.TheVariants.{Equal, NotEqual, Greater, GreaterOrEqual, Less, LessOrEqual, AnyBit, SignedGreater, SignedGreaterOrEqual, SignedLess, SignedLessOrEqual}
use Rattle.bpf_decode.specs.declared.operation.Distance.TheVariants.{Offset, Imm}
use Rattle.bpf_decode.specs.declared.operation.Operation.{Operation}
use Rattle.bpf_decode.specs.declared.operation.Operation.TheVariants.{Alu, Load, Store, LoadImmediate, Jump, Branch, Call, Exit}
use Rattle.bpf_decode.specs.Opcodes.{operation_of, distance_of, sign_extended}
use Rattle.bpf_decode.specs.Text.{insn_at, slots_of, width_at, IsInstruction}
use Rattle.insn_alu.specs.Arithmetic.{low, signed}
use Rattle.insn_alu.specs.Comparisons.{compared, holds}
use Rattle.interp.specs.Machine.{MachineState, Outcome, Next, Exits, register, operand, fallen, at_slot, jumped, step_alu, step_load, step_store, step_load_immediate, step_call, step_branch, step_exit, operation_at, step_by, step}
use Rattle.loop_copies.specs.Slots.{falls_through, slot_numbered, slot_from, jump_by, jump_from}
use Rattle.lowering.specs.Covering.{without_distance, undirected, negation, LeadAlike, IsExactCopy, IsNegatedCopy, IsCopy}
use Rattle.lowering.specs.Laws.{at_origin}
use Rattle.lowering.proofs.Moved.{moved, then_alike, then_same, IsSlotless, alu_slotless, load_slotless, load_immediate_slotless, store_slotless, call_slotless}

-- an outcome of a lowered text, at the origin
abbrev pub outcome_at : List ℕ → Outcome → Outcome
outcome_at origins (Next s) = Next (at_origin origins s)
outcome_at origins (Exits number maps) = Exits number maps

gone_on : (text lowered origins : List ℕ) (o at : ℕ) (x : Option MachineState) → o + width_at text o ≡ slice_index origins (at + width_at lowered at)
    → (option_map (moved o) x >>= λ t. Some (fallen text t)) ≡ option_map (outcome_at origins) (option_map (moved at) x >>= λ t. Some (fallen lowered t))
gone_on text lowered origins o at None e = refl
gone_on text lowered origins o at (Some t) e = ap (λ (slot : ℕ). Some (Next (record t { slot = slot }))) e

-- what falls through goes on alike
goes_on : (f : MachineState → Option MachineState) → IsSlotless f → (text lowered origins : List ℕ) (o : ℕ) (s : MachineState) → o + width_at text o ≡ slice_index origins (s.slot + width_at lowered s.slot)
    → (f (moved o s) >>= λ t. Some (fallen text t)) ≡ option_map (outcome_at origins) (f s >>= λ t. Some (fallen lowered t))
goes_on f slotless text lowered origins o s e =
    let own : f s ≡ option_map (moved s.slot) (f s) = slotless s.slot s in
    ap (λ (z : Option MachineState). z >>= λ t. Some (fallen text t)) (slotless o s)
    ∙ gone_on text lowered origins o s.slot (f s) e
    ∙ ap (λ (z : Option MachineState). option_map (outcome_at origins) (z >>= λ t. Some (fallen lowered t))) (sym own)

-- a jump leads to alike slots
lands_alike : (origins : List ℕ) (o : ℕ) (s : MachineState) (there to : ℤ) → option_map (slice_index origins) (slot_numbered there) ≡ slot_numbered to
    → at_slot (moved o s) to ≡ option_map (outcome_at origins) (at_slot s there)
lands_alike origins o s (pos a) (pos b) e = ap (λ (x : Option ℕ). option_map (λ slot. Next (record s { slot = slot })) x) (sym e)
lands_alike origins o s (pos a) (negsuc b) e = absurd (cc)
lands_alike origins o s (negsuc a) (pos b) e = absurd (cc)
lands_alike origins o s (negsuc a) (negsuc b) e = refl

operand_alike : (source : Source) (insn copy : Insn) (o : ℕ) (s : MachineState) → copy.src ≡ insn.src → copy.imm ≡ insn.imm → operand source insn (moved o s) ≡ operand source copy s
operand_alike Immediate insn copy o s src imm = ap (λ (z : ℤ). Some (sign_extended z)) (sym imm)
operand_alike Register insn copy o s src imm = ap (λ (i : ℕ). register s i) (sym src)

edge_alike : (origins : List ℕ) (test : Bool) (x y : Option Outcome) (u v : Outcome) → x ≡ option_map (outcome_at origins) y → u ≡ outcome_at origins v
    → (if test then x else Some u) ≡ option_map (outcome_at origins) (if test then y else Some v)
edge_alike origins true x y u v jump fall = jump
edge_alike origins false x y u v jump fall = ap Some fall

-- a conditional jump leads to alike slots
branch_alike : (text lowered origins : List ℕ) (o : ℕ) (s : MachineState) (comparison : Comparison) (width : Width) (source : Source) (insn copy : Insn)
    → copy.dst ≡ insn.dst → copy.src ≡ insn.src → copy.imm ≡ insn.imm
    → o + width_at text o ≡ slice_index origins (s.slot + width_at lowered s.slot)
    → option_map (slice_index origins) (slot_from lowered s.slot copy.offset) ≡ slot_from text o insn.offset
    → step_branch text comparison width source insn (moved o s) ≡ option_map (outcome_at origins) (step_branch lowered comparison width source copy s)
unfolding step_branch
branch_alike text lowered origins o s comparison width source insn copy dst src imm fall jump =
    let there = pos (s.slot + width_at lowered s.slot) +ℤ copy.offset in
    let to = pos (o + width_at text o) +ℤ insn.offset in
    let edges : (a b : ℕ) → (if holds comparison width a b then jumped text insn.offset (moved o s) else Some (fallen text (moved o s)))
    ≡ option_map (outcome_at origins) (if holds comparison width a b then jumped lowered copy.offset s else Some (fallen lowered s))
    = λ a b. edge_alike origins (holds comparison width a b) _ _ _ _ (lands_alike origins o s there to jump) (ap (λ (slot : ℕ). Next (record s { slot = slot })) fall) in
    let second = operand_alike source insn copy o s src imm in
    let first : register s insn.dst ≡ register s copy.dst = ap (λ (i : ℕ). register s i) (sym dst) in
    then_same (outcome_at origins) (register s insn.dst) (register s copy.dst) _ _ first
    (λ a. then_same (outcome_at origins) (operand source insn (moved o s)) (operand source copy s) _ _ second (λ b. edges a b))

-- a comparison and its negation
twice_not : (a : Bool) → a ≡ not (not a)
twice_not true = refl
twice_not false = refl

nat_below : (a b : ℕ) → nat_lt a b ≡ not (nat_le b a)
nat_below a b = grind (arith, nat_tests)

int_below : (a b : ℤ) → int_lt a b ≡ not (int_le b a)
int_below (pos a) (pos b) = nat_below a b
int_below (pos a) (negsuc b) = refl
int_below (negsuc a) (pos b) = refl
int_below (negsuc a) (negsuc b) = nat_below b a

pub compared_negated : (comparison other : Comparison) (width : Width) (a b : ℕ) → negation comparison ≡ Some other → compared other width a b ≡ not (compared comparison width a b)
unfolding negation
compared_negated Equal other width a b e = let is : NotEqual ≡ other = cc in rw (sym is) refl
compared_negated NotEqual other width a b e = let is : Equal ≡ other = cc in rw (sym is) (twice_not (a == b))
compared_negated Greater other width a b e = let is : LessOrEqual ≡ other = cc in rw (sym is) (grind (arith, nat_tests))
compared_negated GreaterOrEqual other width a b e = let is : Less ≡ other = cc in rw (sym is) (nat_below a b)
compared_negated Less other width a b e = let is : GreaterOrEqual ≡ other = cc in rw (sym is) (grind (arith, nat_tests))
compared_negated LessOrEqual other width a b e = let is : Greater ≡ other = cc in rw (sym is) (nat_below b a)
compared_negated AnyBit other width a b e = absurd (cc)
compared_negated SignedGreater other width a b e =
    let is : SignedLessOrEqual ≡ other = cc in
    rw (sym is) (twice_not (int_le (signed width a) (signed width b)) ∙ ap not (sym (int_below (signed width b) (signed width a))))
compared_negated SignedGreaterOrEqual other width a b e = let is : SignedLess ≡ other = cc in rw (sym is) (int_below (signed width a) (signed width b))
compared_negated SignedLess other width a b e =
    let is : SignedGreaterOrEqual ≡ other = cc in
    rw (sym is) (twice_not (int_le (signed width b) (signed width a)) ∙ ap not (sym (int_below (signed width a) (signed width b))))
compared_negated SignedLessOrEqual other width a b e = let is : SignedGreater ≡ other = cc in rw (sym is) (int_below (signed width b) (signed width a))

holds_negated : (comparison other : Comparison) (width : Width) (a b : ℕ) → negation comparison ≡ Some other → holds other width a b ≡ not (holds comparison width a b)
unfolding holds
holds_negated comparison other width a b e = compared_negated comparison other width (low width a) (low width b) e

edge_negated : (origins : List ℕ) (test : Bool) (x y : Option Outcome) (u v : Outcome) → Some u ≡ option_map (outcome_at origins) y → x ≡ Some (outcome_at origins v)
    → (if not test then x else Some u) ≡ option_map (outcome_at origins) (if test then y else Some v)
edge_negated origins true x y u v jump fall = jump
edge_negated origins false x y u v jump fall = fall

-- a conditional jump and its negation lead to alike slots
branch_negated : (text lowered origins : List ℕ) (o : ℕ) (s : MachineState) (comparison other : Comparison) (width : Width) (source : Source) (insn copy : Insn)
    → negation comparison ≡ Some other → copy.dst ≡ insn.dst → copy.src ≡ insn.src → copy.imm ≡ insn.imm
    → Some (slice_index origins (s.slot + width_at lowered s.slot)) ≡ slot_from text o insn.offset
    → option_map (slice_index origins) (slot_from lowered s.slot copy.offset) ≡ Some (o + width_at text o)
    → step_branch text other width source insn (moved o s) ≡ option_map (outcome_at origins) (step_branch lowered comparison width source copy s)
unfolding step_branch
branch_negated text lowered origins o s comparison other width source insn copy negates dst src imm fall jump =
    let there = pos (s.slot + width_at lowered s.slot) +ℤ copy.offset in
    let to = pos (o + width_at text o) +ℤ insn.offset in
    let edges : (a b : ℕ) → (if holds other width a b then jumped text insn.offset (moved o s) else Some (fallen text (moved o s)))
    ≡ option_map (outcome_at origins) (if holds comparison width a b then jumped lowered copy.offset s else Some (fallen lowered s))
    = λ a b. ap (λ (test : Bool). if test then jumped text insn.offset (moved o s) else Some (fallen text (moved o s))) (holds_negated comparison other width a b negates)
    ∙ edge_negated origins (holds comparison width a b) _ _ _ _ (lands_alike origins o s there (pos (o + width_at text o)) jump) (lands_alike origins o s (pos (s.slot + width_at lowered s.slot)) to fall) in
    let second = operand_alike source insn copy o s src imm in
    let first : register s insn.dst ≡ register s copy.dst = ap (λ (i : ℕ). register s i) (sym dst) in
    then_same (outcome_at origins) (register s insn.dst) (register s copy.dst) _ _ first
    (λ a. then_same (outcome_at origins) (operand source insn (moved o s)) (operand source copy s) _ _ second (λ b. edges a b))

exit_alike : (origins : List ℕ) (o : ℕ) (s : MachineState) → step_exit (moved o s) ≡ option_map (outcome_at origins) (step_exit s)
exit_alike origins o s = then_alike (outcome_at origins) (register s 0) _ _ (λ number. refl)

-- what an operation makes of a state
abbrev pub by : List ℕ → Option Operation → MachineState → Option Outcome
by text operation s = operation >>= λ known. step_by text known s

-- an operation makes the same of a state at its origin, where it goes on alike
steps_by : (text lowered origins : List ℕ) (o : ℕ) (s : MachineState) (operation : Option Operation)
    → without_distance operation (insn_at lowered s.slot) ≡ without_distance operation (insn_at text o)
    → (falls_through operation ≡ true → slice_index origins (s.slot + width_at lowered s.slot) ≡ o + width_at text o)
    → option_map (slice_index origins) (jump_by lowered s.slot operation) ≡ jump_by text o operation
    → by text operation (moved o s) ≡ option_map (outcome_at origins) (by lowered operation s)
unfolding step_by
steps_by text lowered origins o s None same fall jump = refl
steps_by text lowered origins o s (Some (Alu code width source)) same fall jump =
    goes_on (step_alu code width source (insn_at text o)) (alu_slotless code width source (insn_at text o)) text lowered origins o s (sym (fall refl))
    ∙ ap (λ (insn : Insn). option_map (outcome_at origins) (step_alu code width source insn s >>= λ t. Some (fallen lowered t))) (sym same)
steps_by text lowered origins o s (Some (Load size extension)) same fall jump =
    goes_on (step_load size extension (insn_at text o)) (load_slotless size extension (insn_at text o)) text lowered origins o s (sym (fall refl))
    ∙ ap (λ (insn : Insn). option_map (outcome_at origins) (step_load size extension insn s >>= λ t. Some (fallen lowered t))) (sym same)
steps_by text lowered origins o s (Some (Store size source)) same fall jump =
    goes_on (step_store size source (insn_at text o)) (store_slotless size source (insn_at text o)) text lowered origins o s (sym (fall refl))
    ∙ ap (λ (insn : Insn). option_map (outcome_at origins) (step_store size source insn s >>= λ t. Some (fallen lowered t))) (sym same)
steps_by text lowered origins o s (Some LoadImmediate) same fall jump =
    goes_on (step_load_immediate (insn_at text o)) (load_immediate_slotless (insn_at text o)) text lowered origins o s (sym (fall refl))
    ∙ ap (λ (insn : Insn). option_map (outcome_at origins) (step_load_immediate insn s >>= λ t. Some (fallen lowered t))) (sym same)
steps_by text lowered origins o s (Some Call) same fall jump =
    goes_on (step_call (insn_at text o)) (call_slotless (insn_at text o)) text lowered origins o s (sym (fall refl))
    ∙ ap (λ (insn : Insn). option_map (outcome_at origins) (step_call insn s >>= λ t. Some (fallen lowered t))) (sym same)
steps_by text lowered origins o s (Some (Jump distance)) same fall jump =
    lands_alike origins o s (pos (s.slot + width_at lowered s.slot) +ℤ distance_of distance (insn_at lowered s.slot)) (pos (o + width_at text o) +ℤ distance_of distance (insn_at text o)) jump
steps_by text lowered origins o s (Some (Branch comparison width source)) same fall jump =
    branch_alike text lowered origins o s comparison width source (insn_at text o) (insn_at lowered s.slot)
    (ap (λ (insn : Insn). insn.dst) same) (ap (λ (insn : Insn). insn.src) same) (ap (λ (insn : Insn). insn.imm) same) (sym (fall refl)) jump
steps_by text lowered origins o s (Some Exit) same fall jump = exit_alike origins o s

-- an instruction's operation is reported by its opcode
pub operation_here : (text : List ℕ) (slot : ℕ) → IsInstruction text slot → operation_at text slot ≡ operation_of (insn_at text slot).opcode
unfolding operation_at
operation_here text slot here =
    let within : nat_lt slot (slots_of text) ≡ true = grind (arith, nat_tests) in
    rw (within, here.begins) refl

opcode_kept : (operation : Option Operation) (insn : Insn) → (without_distance operation insn).opcode ≡ insn.opcode
opcode_kept (Some (Jump Offset)) insn = refl
opcode_kept (Some (Jump Imm)) insn = refl
opcode_kept (Some (Branch comparison width source)) insn = refl
opcode_kept operation insn = refl

-- instructions with the same operands have the same opcode
same_opcode : (insn copy : Insn) → undirected copy ≡ undirected insn → copy.opcode ≡ insn.opcode
unfolding undirected
same_opcode insn copy e = sym (opcode_kept (operation_of copy.opcode) copy) ∙ ap (λ (x : Insn). x.opcode) e ∙ opcode_kept (operation_of insn.opcode) insn

-- and the same operation
pub same_operation : (insn copy : Insn) → undirected copy ≡ undirected insn → operation_of copy.opcode ≡ operation_of insn.opcode
same_operation insn copy e = ap operation_of (same_opcode insn copy e)

-- a step is made by the operation at the slot
pub step_is : (text : List ℕ) (s : MachineState) (operation : Option Operation) → operation_at text s.slot ≡ operation → step text s ≡ by text operation s
unfolding step
step_is text s operation e = ap (λ (z : Option Operation). z >>= λ known. step_by text known s) e

-- jumps that lead alike lead to the same slot, by the origins
origins_alike : (lowered origins : List ℕ) (there to : Option ℕ) → LeadAlike lowered origins there to → option_map (slice_index origins) there ≡ to
origins_alike lowered origins None None alike = refl
origins_alike lowered origins None (Some to) alike = absurd alike
origins_alike lowered origins (Some there) None alike = absurd alike
origins_alike lowered origins (Some there) (Some to) alike = ap Some alike.origin

-- an exact copy steps as the original does
exact_copy_steps : (text lowered origins : List ℕ) (o : ℕ) (s : MachineState) → IsInstruction lowered s.slot → IsExactCopy text lowered origins s.slot o
    → step text (moved o s) ≡ option_map (outcome_at origins) (step lowered s)
unfolding undirected jump_from
exact_copy_steps text lowered origins o s here copy =
    let operation = operation_of (insn_at text o).opcode in
    let operations : operation_of (insn_at lowered s.slot).opcode ≡ operation = same_operation (insn_at text o) (insn_at lowered s.slot) copy.same in
    let same : without_distance operation (insn_at lowered s.slot) ≡ without_distance operation (insn_at text o)
    = ap (λ (z : Option Operation). without_distance z (insn_at lowered s.slot)) (sym operations) ∙ copy.same in
    let jump : option_map (slice_index origins) (jump_by lowered s.slot operation) ≡ jump_by text o operation
    = ap (λ (z : Option Operation). option_map (slice_index origins) (jump_by lowered s.slot z)) (sym operations) ∙ origins_alike lowered origins (jump_from lowered s.slot) (jump_from text o) copy.jumps in
    step_is text (moved o s) operation (operation_here text o copy.instruction)
    ∙ steps_by text lowered origins o s operation same (λ falls. (copy.falls falls).origin) jump
    ∙ ap (option_map (outcome_at origins)) (sym (step_is lowered s operation (operation_here lowered s.slot here ∙ operations)))

-- a negated copy steps as the original does
negated_copy_steps : (text lowered origins : List ℕ) (o : ℕ) (s : MachineState) → IsInstruction lowered s.slot → IsNegatedCopy text lowered origins s.slot o
    → step text (moved o s) ≡ option_map (outcome_at origins) (step lowered s)
unfolding jump_from step_by
negated_copy_steps text lowered origins o s here copy =
    let two = copy.negates in
    let fall : Some (slice_index origins (s.slot + width_at lowered s.slot)) ≡ slot_from text o (insn_at text o).offset
    = origins_alike lowered origins (Some (s.slot + width_at lowered s.slot)) (jump_from text o) copy.falls ∙ ap (jump_by text o) two.other_is in
    let jump : option_map (slice_index origins) (slot_from lowered s.slot (insn_at lowered s.slot).offset) ≡ Some (o + width_at text o)
    = ap (λ (z : Option Operation). option_map (slice_index origins) (jump_by lowered s.slot z)) (sym two.is) ∙ origins_alike lowered origins (jump_from lowered s.slot) (Some (o + width_at text o)) copy.jumps in
    step_is text (moved o s) (Some (Branch two.negated two.width two.source)) (operation_here text o copy.instruction ∙ two.other_is)
    ∙ branch_negated text lowered origins o s two.comparison two.negated two.width two.source (insn_at text o) (insn_at lowered s.slot) two.negation
    (ap (λ (insn : Insn). insn.dst) copy.same) (ap (λ (insn : Insn). insn.src) copy.same) (ap (λ (insn : Insn). insn.imm) copy.same) fall jump
    ∙ ap (option_map (outcome_at origins)) (sym (step_is lowered s (Some (Branch two.comparison two.width two.source)) (operation_here lowered s.slot here ∙ two.is)))

-- a copy steps as the original does
pub copy_steps : (text lowered origins : List ℕ) (o : ℕ) (s : MachineState) → IsInstruction lowered s.slot → IsCopy text lowered origins s.slot o
    → step text (moved o s) ≡ option_map (outcome_at origins) (step lowered s)
unfolding IsCopy
copy_steps text lowered origins o s here (inl copy) = exact_copy_steps text lowered origins o s here copy
copy_steps text lowered origins o s here (inr copy) = negated_copy_steps text lowered origins o s here copy
