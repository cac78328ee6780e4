-- Runs of a text that covers another, step by step.
use Rattle.std.specs.Prelude.{◌≡◌, ◌≤◌, ℕ, zero, suc, ◌+◌, ◌⊎◌, ℤ, pos, negsuc, ◌+ℤ◌, Bool, true, false, if◌then◌else◌, List, slice_index, Option, Some, None, option_map}
use Rattle.std.proofs.Common.{refl, sym, ap, subst, ◌∙◌, inl, inr, arith}
use Rattle.host_types.specs.Memory.{FlatMaps, ◌>>=◌}
use Rattle.bpf_decode.specs.declared.operation.Source.{Source}
use Rattle.bpf_decode.specs.declared.operation.Width.{Width}
use Rattle.bpf_decode.specs.declared.operation.Comparison.{Comparison}
use Rattle.bpf_decode.specs.declared.operation.Operation.{Operation}
use Rattle.bpf_decode.specs.declared.operation.Operation.TheVariants.{Alu, Load, Store, LoadImmediate, Jump, Branch, Call, Exit}
use Rattle.bpf_decode.specs.Opcodes.{operation_of, distance_of}
use Rattle.bpf_decode.specs.Text.{insn_at, slots_of, width_at, IsInstruction}
use Rattle.insn_alu.specs.Comparisons.{holds}
use Rattle.interp.specs.Machine.{MachineState, Outcome, Next, Exits, start_state, register, operand, fallen, at_slot, jumped, step_alu, step_load, step_store, step_load_immediate, step_call, step_branch, step_exit, step_by, step}
use Rattle.interp.specs.Runs.{Runs}
use Rattle.loop_copies.specs.Slots.{falls_through, slot_numbered, slot_from, jump_by, jump_from}
use Rattle.lowering.specs.Covering.{LeadAlike, IsExactCopy, IsNegatedCopy, IsCopy, IsInsertedJump, IsCovering}
use Rattle.lowering.specs.Laws.{ComesTo, Ends, Fails, at_origin, Rewriting, EndsAreKept, StatesHaveOrigins, FailuresHaveOrigins, FailuresAreKept, FaultlessnessIsKept}
use Rattle.lowering.proofs.Moved.{moved, IsSlotless, alu_slotless, load_slotless, load_immediate_slotless, store_slotless, call_slotless}
use Rattle.lowering.proofs.Steps.{outcome_at, by, step_is, operation_here, same_operation, copy_steps}

-- an answer that came of another question's
then_some : {A B : Type 0} (o : Option A) (f : A → Option B) (y : B) → (o >>= f) ≡ Some y → (x : A) × (o ≡ Some x) × (f x ≡ Some y)
then_some None f y e = absurd (cc)
then_some (Some x) f y e = (x, refl, e)

-- what falls through comes to the next instruction
falls_to : (f : MachineState → Option MachineState) → IsSlotless f → (text : List ℕ) (s t : MachineState) → (f s >>= λ u. Some (fallen text u)) ≡ Some (Next t) → t.slot ≡ s.slot + width_at text s.slot
falls_to f slotless text s t e =
    let found = then_some (f s) (λ u. Some (fallen text u)) (Next t) e in
    let own : f s ≡ option_map (moved s.slot) (f s) = slotless s.slot s in
    let moved_there : Some found.0 ≡ Some (moved s.slot found.0) = sym found.1 ∙ own ∙ ap (option_map (moved s.slot)) found.1 in
    let slot : found.0.slot ≡ s.slot = cc in
    let next : Next (record found.0 { slot = found.0.slot + width_at text found.0.slot }) ≡ Next t = cc in
    let to : t.slot ≡ found.0.slot + width_at text found.0.slot = cc in
    to ∙ ap (λ (at : ℕ). at + width_at text at) slot

-- a jump comes to its slot
lands_on : (s t : MachineState) (to : ℤ) → at_slot s to ≡ Some (Next t) → slot_numbered to ≡ Some t.slot
lands_on s t (pos to) e = cc
lands_on s t (negsuc n) e = absurd (cc)

-- a conditional jump comes to its slot or to the next instruction
branches_to : (text : List ℕ) (s t : MachineState) (test : Bool) (to : ℤ) → (if test then at_slot s to else Some (fallen text s)) ≡ Some (Next t)
    → (slot_numbered to ≡ Some t.slot) ⊎ (t.slot ≡ s.slot + width_at text s.slot)
branches_to text s t true to e = inl (lands_on s t to e)
branches_to text s t false to e = inr (cc)

branch_to : (text : List ℕ) (s t : MachineState) (comparison : Comparison) (width : Width) (source : Source) → step_branch text comparison width source (insn_at text s.slot) s ≡ Some (Next t)
    → (slot_from text s.slot (insn_at text s.slot).offset ≡ Some t.slot) ⊎ (t.slot ≡ s.slot + width_at text s.slot)
unfolding step_branch
branch_to text s t comparison width source e =
    let insn = insn_at text s.slot in
    let first = then_some (register s insn.dst) (λ a. operand source insn s >>= λ b. if holds comparison width a b then jumped text insn.offset s else Some (fallen text s)) (Next t) e in
    let second = then_some (operand source insn s) (λ b. if holds comparison width first.0 b then jumped text insn.offset s else Some (fallen text s)) (Next t) first.2 in
    branches_to text s t (holds comparison width first.0 second.0) (pos (s.slot + width_at text s.slot) +ℤ insn.offset) second.2

-- an operation leads to the next instruction or to the slot of its jump
leads_to : (text : List ℕ) (s t : MachineState) (operation : Option Operation) → by text operation s ≡ Some (Next t)
    → ((falls_through operation ≡ true) × (t.slot ≡ s.slot + width_at text s.slot)) ⊎ (jump_by text s.slot operation ≡ Some t.slot)
unfolding step_by
leads_to text s t None e = absurd (cc)
leads_to text s t (Some (Alu code width source)) e = inl (refl, falls_to (step_alu code width source (insn_at text s.slot)) (alu_slotless code width source (insn_at text s.slot)) text s t e)
leads_to text s t (Some (Load size extension)) e = inl (refl, falls_to (step_load size extension (insn_at text s.slot)) (load_slotless size extension (insn_at text s.slot)) text s t e)
leads_to text s t (Some (Store size source)) e = inl (refl, falls_to (step_store size source (insn_at text s.slot)) (store_slotless size source (insn_at text s.slot)) text s t e)
leads_to text s t (Some LoadImmediate) e = inl (refl, falls_to (step_load_immediate (insn_at text s.slot)) (load_immediate_slotless (insn_at text s.slot)) text s t e)
leads_to text s t (Some Call) e = inl (refl, falls_to (step_call (insn_at text s.slot)) (call_slotless (insn_at text s.slot)) text s t e)
leads_to text s t (Some (Jump distance)) e = inr (lands_on s t (pos (s.slot + width_at text s.slot) +ℤ distance_of distance (insn_at text s.slot)) e)
leads_to text s t (Some (Branch comparison width source)) e = elim (branch_to text s t comparison width source e) [ inl jump ↦ inr jump | inr fall ↦ inl (refl, fall) ]
leads_to text s t (Some Exit) e = absurd (exits_nowhere s t e)
  where
    exits_nowhere : (s t : MachineState) → step_exit s ≡ Some (Next t) → ⊥
    exits_nowhere s t e = let found = then_some (register s 0) (λ number. Some (Exits number s.memory.maps)) (Next t) e in absurd (cc)

-- a jump that leads alike leads to an instruction
lands_at : (lowered origins : List ℕ) (there to : Option ℕ) (at : ℕ) → LeadAlike lowered origins there to → there ≡ Some at → IsInstruction lowered at
lands_at lowered origins None to at alike e = absurd (cc)
lands_at lowered origins (Some there) None at alike e = absurd alike
lands_at lowered origins (Some there) (Some to) at alike e = let is : there ≡ at = cc in subst (IsInstruction lowered) is alike.instruction

-- a copy leads to an instruction
exact_copy_leads : (text lowered origins : List ℕ) (o : ℕ) (s t : MachineState) → IsInstruction lowered s.slot → IsExactCopy text lowered origins s.slot o → step lowered s ≡ Some (Next t) → IsInstruction lowered t.slot
unfolding jump_from
exact_copy_leads text lowered origins o s t here copy e =
    let own = operation_of (insn_at lowered s.slot).opcode in
    let same : own ≡ operation_of (insn_at text o).opcode = same_operation (insn_at text o) (insn_at lowered s.slot) copy.same in
    let edge = leads_to lowered s t own (sym (step_is lowered s own (operation_here lowered s.slot here)) ∙ e) in
    elim edge [
      | inl fall ↦ subst (IsInstruction lowered) (sym fall.1) (copy.falls (ap falls_through (sym same) ∙ fall.0)).instruction
      | inr jump ↦ lands_at lowered origins (jump_from lowered s.slot) (jump_from text o) t.slot copy.jumps jump
    ]

negated_copy_leads : (text lowered origins : List ℕ) (o : ℕ) (s t : MachineState) → IsInstruction lowered s.slot → IsNegatedCopy text lowered origins s.slot o → step lowered s ≡ Some (Next t) → IsInstruction lowered t.slot
unfolding jump_from
negated_copy_leads text lowered origins o s t here copy e =
    let own = operation_of (insn_at lowered s.slot).opcode in
    let edge = leads_to lowered s t own (sym (step_is lowered s own (operation_here lowered s.slot here)) ∙ e) in
    elim edge [
      | inl fall ↦ subst (IsInstruction lowered) (sym fall.1) (lands_at lowered origins (Some (s.slot + width_at lowered s.slot)) (jump_from text o) (s.slot + width_at lowered s.slot) copy.falls refl)
      | inr jump ↦ lands_at lowered origins (jump_from lowered s.slot) (Some (o + width_at text o)) t.slot copy.jumps jump
    ]

copy_leads : (text lowered origins : List ℕ) (o : ℕ) (s t : MachineState) → IsInstruction lowered s.slot → IsCopy text lowered origins s.slot o → step lowered s ≡ Some (Next t) → IsInstruction lowered t.slot
unfolding IsCopy
copy_leads text lowered origins o s t here (inl copy) = exact_copy_leads text lowered origins o s t here copy
copy_leads text lowered origins o s t here (inr copy) = negated_copy_leads text lowered origins o s t here copy

at_slot_some : (s : MachineState) (to : ℤ) (slot : ℕ) → slot_numbered to ≡ Some slot → at_slot s to ≡ Some (Next (moved slot s))
at_slot_some s (pos to) slot e = ap (λ (x : Option ℕ). option_map (λ at. Next (moved at s)) x) e
at_slot_some s (negsuc n) slot e = absurd (cc)

-- an inserted jump leads to its slot
jump_steps : (text lowered origins : List ℕ) (s : MachineState) (o : ℕ) → IsInstruction lowered s.slot → (inserted : IsInsertedJump text lowered origins s.slot o) → step lowered s ≡ Some (Next (moved inserted.to s))
unfolding jump_from step_by
jump_steps text lowered origins s o here inserted =
    let there = pos (s.slot + width_at lowered s.slot) +ℤ distance_of inserted.distance (insn_at lowered s.slot) in
    let leads : slot_numbered there ≡ Some inserted.to = ap (jump_by lowered s.slot) (sym inserted.jump) ∙ inserted.leads in
    step_is lowered s (Some (Jump inserted.distance)) (operation_here lowered s.slot here ∙ inserted.jump) ∙ at_slot_some s there inserted.to leads

-- a state of the lowered text, and the run of the original that comes to it at its origin
record HasRun (text lowered origins context : List ℕ) (maps : FlatMaps) (s : MachineState) : Type 0 where
  here : IsInstruction lowered s.slot
  run : ComesTo text context maps (at_origin origins s)

start_origin : (text lowered origins context : List ℕ) (maps : FlatMaps) → IsCovering text lowered origins → at_origin origins (start_state context maps) ≡ start_state context maps
start_origin text lowered origins context maps covering = ap (λ (slot : ℕ). moved slot (start_state context maps)) covering.start.origin

-- one more step of the lowered text
one_more : (text lowered origins context : List ℕ) (maps : FlatMaps) (s t : MachineState) → IsCovering text lowered origins → HasRun text lowered origins context maps s → step lowered s ≡ Some (Next t)
    → HasRun text lowered origins context maps t
one_more text lowered origins context maps s t covering before e =
    elim (covering.covered s.slot before.here) [
      | inl copy ↦ record {
        here = copy_leads text lowered origins (slice_index origins s.slot) s t before.here copy e;
        run = (suc before.run.0, (at_origin origins s, before.run.1, copy_steps text lowered origins (slice_index origins s.slot) s before.here copy ∙ ap (option_map (outcome_at origins)) e));
      }
      | inr jump ↦
          let there : Some (Next (moved jump.to s)) ≡ Some (Next t) = sym (jump_steps text lowered origins s (slice_index origins s.slot) before.here jump) ∙ e in
          let is : moved jump.to s ≡ t = cc in
          let same : at_origin origins s ≡ at_origin origins (moved jump.to s) = ap (λ (slot : ℕ). moved slot s) (sym jump.origin.origin) in
          subst (HasRun text lowered origins context maps) is (record {
            here = jump.origin.instruction;
            run = (before.run.0, subst (λ (u : MachineState). Runs text context maps before.run.0 (Next u)) same before.run.1);
          })
    ]

has_run : (text lowered origins context : List ℕ) (maps : FlatMaps) → IsCovering text lowered origins → (n : ℕ) (s : MachineState) → Runs lowered context maps n (Next s) → HasRun text lowered origins context maps s
has_run text lowered origins context maps covering zero s e =
    let is : start_state context maps ≡ s = cc in
    subst (HasRun text lowered origins context maps) is (record {
      here = covering.start.instruction;
      run = (0, ap Next (start_origin text lowered origins context maps covering));
    })
has_run text lowered origins context maps covering (suc n) s e =
    one_more text lowered origins context maps e.0 s covering (has_run text lowered origins context maps covering n e.0 e.1) e.2

pub states_have_origins : StatesHaveOrigins IsCovering
states_have_origins text lowered origins context maps s covering comes = (has_run text lowered origins context maps covering comes.0 s comes.1).run

-- a lowered text fails at a copy alone
pub fails_as_copy : (text lowered origins context : List ℕ) (maps : FlatMaps) (s : MachineState) → IsCovering text lowered origins → Fails lowered context maps s
    → IsInstruction lowered s.slot × IsCopy text lowered origins s.slot (slice_index origins s.slot)
fails_as_copy text lowered origins context maps s covering fails =
    let there = has_run text lowered origins context maps covering fails.0.0 s fails.0.1 in
    elim (covering.covered s.slot there.here) [
      | inl copy ↦ (there.here, copy)
      | inr jump ↦ let goes : None ≡ Some (Next (moved jump.to s)) = sym fails.1 ∙ jump_steps text lowered origins s (slice_index origins s.slot) there.here jump in absurd (cc)
    ]

pub failures_have_origins : FailuresHaveOrigins IsCovering
failures_have_origins text lowered origins context maps s covering fails =
    let there = has_run text lowered origins context maps covering fails.0.0 s fails.0.1 in
    let (here, copy) = fails_as_copy text lowered origins context maps s covering fails in
    (there.run, copy_steps text lowered origins (slice_index origins s.slot) s here copy ∙ ap (option_map (outcome_at origins)) fails.1)

ends_back : (text lowered origins context : List ℕ) (maps : FlatMaps) (number : ℕ) (left : FlatMaps) → IsCovering text lowered origins → (n : ℕ) → Runs lowered context maps n (Exits number left) → Ends text context maps number left
ends_back text lowered origins context maps number left covering zero e = absurd (cc)
ends_back text lowered origins context maps number left covering (suc n) e =
    let there = has_run text lowered origins context maps covering n e.0 e.1 in
    elim (covering.covered e.0.slot there.here) [
      | inl copy ↦ (suc there.run.0, (at_origin origins e.0, there.run.1, copy_steps text lowered origins (slice_index origins e.0.slot) e.0 there.here copy ∙ ap (option_map (outcome_at origins)) e.2))
      | inr jump ↦ let goes : Some (Exits number left) ≡ Some (Next (moved jump.to e.0)) = sym e.2 ∙ jump_steps text lowered origins e.0 (slice_index origins e.0.slot) there.here jump in absurd (cc)
    ]

-- a state of the original, and the run of the lowered text that comes to it at a copy
pub record HasCopy (text lowered origins context : List ℕ) (maps : FlatMaps) (s : MachineState) : Type 0 where
  pub at : MachineState
  pub run : ComesTo lowered context maps at
  pub here : IsInstruction lowered at.slot
  pub copy : IsCopy text lowered origins at.slot (slice_index origins at.slot)
  pub same : at_origin origins at ≡ s

-- from any instruction a copy is reached: jumps that were inserted lead to one, or forward, of which there are no more than slots
copy_within : (n : ℕ) (text lowered origins context : List ℕ) (maps : FlatMaps) (s t : MachineState) → slots_of lowered ≤ t.slot + n → IsCovering text lowered origins → ComesTo lowered context maps t
    → IsInstruction lowered t.slot → at_origin origins t ≡ s → HasCopy text lowered origins context maps s
copy_within zero text lowered origins context maps s t few covering run here same = let within = here.within in absurd (omega (arith, few, within))
copy_within (suc n) text lowered origins context maps s t few covering run here same =
    elim (covering.covered t.slot here) [
      | inl copy ↦ record { at = t; run = run; here = here; copy = copy; same = same }
      | inr jump ↦
          let next : ComesTo lowered context maps (moved jump.to t) = (suc run.0, (t, run.1, jump_steps text lowered origins t (slice_index origins t.slot) here jump)) in
          let kept : at_origin origins (moved jump.to t) ≡ s = ap (λ (slot : ℕ). moved slot t) jump.origin.origin ∙ same in
          elim jump.onward [
            | inl further ↦ copy_within n text lowered origins context maps s (moved jump.to t) (omega (arith, few, further)) covering next jump.origin.instruction kept
            | inr copy ↦ record {
              at = moved jump.to t;
              run = next;
              here = jump.origin.instruction;
              copy = subst (IsCopy text lowered origins jump.to) (sym jump.origin.origin) copy;
              same = kept;
            }
          ]
    ]

to_copy : (text lowered origins context : List ℕ) (maps : FlatMaps) (s t : MachineState) → IsCovering text lowered origins → ComesTo lowered context maps t → IsInstruction lowered t.slot → at_origin origins t ≡ s
    → HasCopy text lowered origins context maps s
to_copy text lowered origins context maps s t = copy_within (slots_of lowered) text lowered origins context maps s t (omega arith)

-- an outcome at an origin that is a state came of a state
came_of : (origins : List ℕ) (o : Option Outcome) (s : MachineState) → option_map (outcome_at origins) o ≡ Some (Next s) → (t : MachineState) × (o ≡ Some (Next t)) × (at_origin origins t ≡ s)
came_of origins None s e = absurd (cc)
came_of origins (Some (Next t)) s e = (t, refl, cc)
came_of origins (Some (Exits number maps)) s e = absurd (cc)

came_of_exit : (origins : List ℕ) (o : Option Outcome) (number : ℕ) (left : FlatMaps) → option_map (outcome_at origins) o ≡ Some (Exits number left) → o ≡ Some (Exits number left)
came_of_exit origins None number left e = absurd (cc)
came_of_exit origins (Some (Next t)) number left e = absurd (cc)
came_of_exit origins (Some (Exits other maps)) number left e = e

came_of_none : (origins : List ℕ) (o : Option Outcome) → option_map (outcome_at origins) o ≡ None → o ≡ None
came_of_none origins None e = refl
came_of_none origins (Some outcome) e = absurd (cc)

-- what the original's step comes of
copy_step : (text lowered origins context : List ℕ) (maps : FlatMaps) (s : MachineState) (found : HasCopy text lowered origins context maps s) → option_map (outcome_at origins) (step lowered found.at) ≡ step text s
copy_step text lowered origins context maps s found =
    sym (copy_steps text lowered origins (slice_index origins found.at.slot) found.at found.here found.copy) ∙ ap (step text) found.same

pub has_copy : (text lowered origins context : List ℕ) (maps : FlatMaps) → IsCovering text lowered origins → (n : ℕ) (s : MachineState) → Runs text context maps n (Next s) → HasCopy text lowered origins context maps s
has_copy text lowered origins context maps covering zero s e =
    let is : start_state context maps ≡ s = cc in
    to_copy text lowered origins context maps s (start_state context maps) covering (0, refl) covering.start.instruction (start_origin text lowered origins context maps covering ∙ is)
has_copy text lowered origins context maps covering (suc n) s e =
    let before = has_copy text lowered origins context maps covering n e.0 e.1 in
    let next = came_of origins (step lowered before.at) s (copy_step text lowered origins context maps e.0 before ∙ e.2) in
    to_copy text lowered origins context maps s next.0 covering
    (suc before.run.0, (before.at, before.run.1, next.1))
    (copy_leads text lowered origins (slice_index origins before.at.slot) before.at next.0 before.here before.copy next.1)
    next.2

-- where the original fails at a state, the lowered text fails at its copy
pub copy_fails : (text lowered origins context : List ℕ) (maps : FlatMaps) (s : MachineState) (found : HasCopy text lowered origins context maps s) → step text s ≡ None → Fails lowered context maps found.at
copy_fails text lowered origins context maps s found fails = (found.run, came_of_none origins (step lowered found.at) (copy_step text lowered origins context maps s found ∙ fails))

pub failures_are_kept : FailuresAreKept IsCovering
failures_are_kept text lowered origins context maps s covering fails =
    let found = has_copy text lowered origins context maps covering fails.0.0 s fails.0.1 in
    (found.at, copy_fails text lowered origins context maps s found fails.1, found.same)

ends_forth : (text lowered origins context : List ℕ) (maps : FlatMaps) (number : ℕ) (left : FlatMaps) → IsCovering text lowered origins → (n : ℕ) → Runs text context maps n (Exits number left) → Ends lowered context maps number left
ends_forth text lowered origins context maps number left covering zero e = absurd (cc)
ends_forth text lowered origins context maps number left covering (suc n) e =
    let found = has_copy text lowered origins context maps covering n e.0 e.1 in
    (suc found.run.0, (found.at, found.run.1, came_of_exit origins (step lowered found.at) number left (copy_step text lowered origins context maps e.0 found ∙ e.2)))

pub ends_alike : EndsAreKept IsCovering
ends_alike text lowered origins covering context maps number left =
    (λ ends. ends_forth text lowered origins context maps number left covering ends.0 ends.1, λ ends. ends_back text lowered origins context maps number left covering ends.0 ends.1)

-- where failures are kept, a text is faultless if the lowered one is
pub faultless_by : (rewritten : Rewriting) → FailuresAreKept rewritten → FaultlessnessIsKept rewritten
faultless_by rewritten are_kept text lowered origins is context maps faultless s fails =
    let kept = are_kept text lowered origins context maps s is fails in
    faultless kept.0 kept.1

pub keeps_faultless : FaultlessnessIsKept IsCovering
keeps_faultless = faultless_by IsCovering failures_are_kept
