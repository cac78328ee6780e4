-- A text's first fault is no want of memory, and a text that has none is well formed.
use Rattle.std.proofs.Common.{◌≡◌, ◌≤◌, ◌<◌, ◌%◌, ◌==◌, ℕ, zero, suc, ◌⊎◌, inl, inr, true, false, if◌then◌else◌, List, length, Option, Some, None, IfSome, refl, ap, arith}
use Rattle.std.proofs.lemmas.Bool.{cases_lt}
use Rattle.host_types.specs.declared.fault.Fault.{Fault}
use Rattle.host_types.specs.declared.fault.Fault.TheVariants.{Program, OutOfMemory}
use Rattle.host_types.specs.declared.fault.Refused.{Refused}
use Rattle.bpf_decode.specs.declared.insn.Insn.{Insn}
use Rattle.bpf_decode.specs.Opcodes.{insn_fault}
use Rattle.bpf_decode.specs.Text.{slots_of, is_instruction, second_slot_fault, smallest, fault_at, HasLength, IsFineBefore, IsWellFormed, IsFirstFault, out_of_memory}
use Rattle.verifier.specs.Subject.{Subject}
use Rattle.host_calls.specs.Programs.{IsVerdict}

-- a fault of a text has one of the first five numbers
abbrev IsFew : Option ℕ → Type 0
IsFew fault = IfSome fault (λ number. number ≤ 5)

insn_few : (insn : Insn) → IsFew (insn_fault insn)
unfolding insn_fault
insn_few insn = grind arith

second_few : (text : List ℕ) (slot : ℕ) → IsFew (second_slot_fault text slot)
unfolding second_slot_fault
second_few text slot = grind arith

smallest_few : (one other : Option ℕ) → IsFew one → IsFew other → IsFew (smallest one other)
smallest_few None other first second = second
smallest_few (Some number) None first second = first
smallest_few (Some number) (Some other) first second = omega (arith, first, second)

fault_few : (text : List ℕ) (slot : ℕ) → IsFew (fault_at text slot)
unfolding fault_at
fault_few text slot = smallest_few _ _ (insn_few _) (second_few text slot)

first_fault_few : (text : List ℕ) (refused : Refused) → IsFirstFault text refused → refused.number ≤ 5
first_fault_few text refused (inl (short, is)) = rw is (omega arith)
first_fault_few text refused (inr fails) = let few = fault_few text refused.slot in rw fails.fault at few

-- the text has no fault
abbrev HasNoFault : List ℕ → Type 0
HasNoFault text = (refused : Refused) → IsFirstFault text refused → ⊥

module _ (text : List ℕ) (none : HasNoFault text) where
  not_short : (HasLength text → ⊥) → ⊥
  not_short short = none (record { number = 1; slot = 0 }) (inl (short, refl))

  sized : HasLength text
  sized = record {
    some = elim (cases_lt (length text) 8) [
      | inl less ↦ absurd (not_short (λ has. let some = has.some in absurd (omega (arith, some, less))))
      | inr past ↦ past
    ];
    most = elim (cases_lt 32768 (length text)) [
      | inl more ↦ absurd (not_short (λ has. let most = has.most in absurd (omega (arith, most, more))))
      | inr within ↦ within
    ];
    whole = elim (cases_lt 0 (length text % 8)) [
      | inl more ↦ absurd (not_short (λ has. let whole = has.whole in absurd (omega (arith, whole, more))))
      | inr none ↦ omega (arith, none)
    ];
  }

  fine_at : (slot : ℕ) → slot < slots_of text → IsFineBefore text slot → is_instruction text slot ≡ true → fault_at text slot ≡ None
  fine_at slot within before begins = by_fault (fault_at text slot) refl
    where
      by_fault : (fault : Option ℕ) → fault_at text slot ≡ fault → fault_at text slot ≡ None
      by_fault None is = is
      by_fault (Some number) is = absurd (none (record { number = number; slot = slot })
          (inr (record { sized = sized; instruction = record { within = within; begins = begins }; fault = is; first = before })))

  fine_before : (slot : ℕ) → slot ≤ slots_of text → IsFineBefore text slot
  fine_before zero within s less begins = absurd (omega (arith, less))
  fine_before (suc slot) within s less begins =
      let before = fine_before slot (omega (arith, within)) in
      elim (cases_lt s slot) [
        | inl earlier ↦ before s earlier begins
        | inr later ↦
            let same : s ≡ slot = omega (arith, less, later) in
            rw same (fine_at slot (omega (arith, within)) before (rw same at begins))
      ]

  pub no_fault_fine : IsWellFormed text
  no_fault_fine = record { sized = sized; fine = fine_before (slots_of text) (omega arith) }

-- what is answered for a refusal of a text or of a program
abbrev answered_fault : Refused → Fault
answered_fault refused = if refused.number == 41 then OutOfMemory else Program refused

-- a text that was not decoded
pub verdict_undecoded : (p : Subject) (text : List ℕ) (refused : Refused) (fault : Fault) → p.text ≡ text → fault ≡ answered_fault refused → (refused ≡ out_of_memory) ⊎ IsFirstFault text refused
    → ((other : Refused) → IsFirstFault text other → refused ≡ other) → IsVerdict p fault
verdict_undecoded p text refused fault whose is (inl lacks) one =
    let none : HasNoFault text = λ other fails. let few = first_fault_few text other fails in let same = one other fails in absurd (omega (arith, few, ap (λ (r : Refused). r.number) same, ap (λ (r : Refused). r.number) lacks)) in
    let memory : fault ≡ OutOfMemory = rw lacks at is in
    inl (memory, rw whose (no_fault_fine text none))
verdict_undecoded p text refused fault whose is (inr fails) one =
    let few = first_fault_few text refused fails in
    let other : (refused.number == 41) ≡ false = grind (arith, few) in
    inr (refused, rw (other) at is, inl (rw whose fails))
