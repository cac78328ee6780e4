-- Where an instruction that breaks no rule leads.
use Rattle.std.proofs.Common.{◌≡◌, ℕ, suc, ◌+◌, ◌<◌, nat_lt, nat_le, ℤ, pos, negsuc, ◌+ℤ◌, Bool, true, false, ◌&&◌, if◌then◌else◌, List, [], ◌++◌, All, Option, Some, None, Result, Ok, Err, refl, sym, ap, subst, inl, inr, arith}
use Rattle.std.proofs.lemmas.Bool.Decides.{eqb_tells, nat_tests}
use Rattle.std.proofs.lemmas.List.Elements.{All-nil, All-cons, All-append}
use Rattle.host_types.specs.Rules.{back_jump, jump_out, falls_off}
use Rattle.bpf_decode.specs.declared.insn.Insn.{Insn}
use Rattle.bpf_decode.specs.declared.operation.Source.{Source}
use Rattle.bpf_decode.specs.declared.operation.Width.{Width}
use Rattle.bpf_decode.specs.declared.operation.Distance.{Distance}
use Rattle.bpf_decode.specs.declared.operation.Comparison.{Comparison}
use Rattle.bpf_decode.specs.declared.operation.Operation.{Operation}
use Rattle.bpf_decode.specs.declared.operation.Operation.TheVariants.{Alu, Load, Store, LoadImmediate, Jump, Branch, Call, Exit}
use Rattle.bpf_decode.specs.Opcodes.{wide_opcode, operation_of, distance_of}
use Rattle.bpf_decode.specs.Text.{insn_at, opcode_at, slots_of, width_at, is_instruction, IsInstruction}
use Rattle.verifier_kinds.specs.declared.description.Description.{Description}
use Rattle.verifier.specs.declared.jumps.Compared.{Compared}
use Rattle.verifier.specs.Subject.{Subject}
use Rattle.verifier.specs.Flow.{◌>>=◌, both, known_or, read_kind, is_number, falls_to, lands_on, jumps_to, target, comparands, on_successor, flow_of_branch, flow_of_jump, falls_on, after, flow_by, flow}

-- two questions that break no rule have both an answer
pub both_ok : {A B : Type 0} (a : Result A ℕ) (b : Result B ℕ) (x : A × B) → both a b ≡ Ok x → (a ≡ Ok x.0) × (b ≡ Ok x.1)
both_ok (Ok y) (Ok z) x e = let same : (y, z) ≡ x = cc in (ap (λ u. Ok u.0) same, ap (λ u. Ok u.1) same)
both_ok (Ok y) (Err n) x e = absurd cc
both_ok (Err m) (Ok z) x e = absurd cc
both_ok (Err m) (Err n) x e = absurd cc

-- a question that is asked after another breaks no rule only if the other doesn't
pub then_ok : {A B : Type 0} (a : Result A ℕ) (f : A → Result B ℕ) (y : B) → (a >>= f) ≡ Ok y → (x : A) × (a ≡ Ok x) × (f x ≡ Ok y)
then_ok (Ok x) f y e = (x, refl, e)
then_ok (Err n) f y e = absurd cc

-- what is known is there
pub known_ok : {A : Type 0} (o : Option A) (rule : ℕ) (x : A) → known_or o rule ≡ Ok x → o ≡ Some x
known_ok (Some y) rule x e = cc
known_ok None rule x e = absurd cc

-- an instruction that breaks no rule has an operation
pub flow_ok : (p : Subject) (slot : ℕ) (d : Description) (targets : List (ℕ × Description)) → flow p slot d ≡ Ok targets → (operation : Operation) × (operation_of (insn_at p.text slot).opcode ≡ Some operation) × (flow_by p operation slot d ≡ Ok targets)
flow_ok p slot d targets e =
    let found = then_ok (known_or (operation_of (insn_at p.text slot).opcode) 2) (λ operation. flow_by p operation slot d) targets e in
    (found.0, known_ok (operation_of (insn_at p.text slot).opcode) 2 found.0 found.1, found.2)

-- a target lies above the slot, and is an instruction
pub record IsAhead (p : Subject) (slot : ℕ) (t : ℕ × Description) : Type 0 where
  pub above : slot < t.0
  pub instruction : IsInstruction p.text t.0

-- the same of a slot, whatever is known there
abbrev pub LeadsTo : Subject → ℕ → ℕ → Type 0
LeadsTo p slot to = (d : Description) → IsAhead p slot (to, d)

-- a choice that is no error was made by its test
chosen_ok : (test : Bool) (n to rule : ℕ) → (let choice : Result ℕ ℕ = if test then Ok n else Err rule in choice ≡ Ok to) → (test ≡ true) × (to ≡ n)
chosen_ok true n to rule e = (refl, cc)
chosen_ok false n to rule e = absurd cc

-- and where the test asks for an error, it was answered with no
passed_ok : (test : Bool) (rule to : ℕ) (other : Result ℕ ℕ) → (if test then Err rule else other) ≡ Ok to → (test ≡ false) × (other ≡ Ok to)
passed_ok true rule to other e = absurd cc
passed_ok false rule to other e = (refl, e)

both_true : (a b : Bool) → (a && b) ≡ true → (a ≡ true) × (b ≡ true)
both_true true b e = (refl, e)
both_true false b e = absurd cc

below_from_test : (a b : ℕ) → nat_lt a b ≡ true → a < b
below_from_test a b e = grind (arith, nat_tests)

above_from_test : (a b : ℕ) → nat_le a b ≡ false → b < a
above_from_test a b e = grind (arith, nat_tests)

-- an instruction that falls through leads after itself
falls_within : (text : List ℕ) (slot to : ℕ) → falls_to text slot ≡ Ok to → (to ≡ slot + width_at text slot) × (to < slots_of text)
falls_within text slot to e =
    let chosen = chosen_ok (nat_lt (slot + width_at text slot) (slots_of text)) (slot + width_at text slot) to falls_off e in
    let below = below_from_test (slot + width_at text slot) (slots_of text) chosen.0 in
    (chosen.1, omega (arith, below, chosen.1))

-- after an instruction the next one begins
next_begins : (text : List ℕ) (slot : ℕ) → is_instruction text slot ≡ true → is_instruction text (slot + width_at text slot) ≡ true
unfolding is_instruction
next_begins text slot begins = elim (eqb_tells (opcode_at text slot) wide_opcode) [
  | inl wide ↦
      let two : slot + 2 ≡ suc (suc slot) = omega arith in
      let P : ℕ → Type 0 = λ s. is_instruction text s ≡ true in
      rw wide.0 (subst P (sym two) (rw (begins, wide.0) refl))
  | inr narrow ↦
      let one : slot + 1 ≡ suc slot = omega arith in
      let P : ℕ → Type 0 = λ s. is_instruction text s ≡ true in
      rw narrow.0 (subst P (sym one) (rw (begins, narrow.0) refl))
]

above_slot : (text : List ℕ) (slot : ℕ) → slot < slot + width_at text slot
above_slot text slot = elim (eqb_tells (opcode_at text slot) wide_opcode) [ inl wide ↦ rw wide.0 (omega arith) | inr narrow ↦ rw narrow.0 (omega arith) ]

falls_ahead : (p : Subject) (slot to : ℕ) → is_instruction p.text slot ≡ true → falls_to p.text slot ≡ Ok to → LeadsTo p slot to
falls_ahead p slot to begins e d =
    let falls = falls_within p.text slot to e in
    let P : ℕ → Type 0 = λ s. is_instruction p.text s ≡ true in
    record {
      above = omega (arith, falls.0, above_slot p.text slot);
      instruction = record { within = falls.1; begins = subst P (sym falls.0) (next_begins p.text slot begins) };
    }

-- a jump that lands leads to an instruction after itself
lands_ahead : (p : Subject) (slot to : ℕ) (at : ℤ) → lands_on p.text slot at ≡ Ok to → LeadsTo p slot to
lands_ahead p slot to (negsuc n) e d = absurd cc
lands_ahead p slot to (pos at) e d =
    let there = nat_lt at (slots_of p.text) && is_instruction p.text at in
    let passed = passed_ok (nat_le at slot) back_jump to (if there then Ok at else Err jump_out) e in
    let chosen = chosen_ok there at to jump_out passed.1 in
    let found = both_true (nat_lt at (slots_of p.text)) (is_instruction p.text at) chosen.0 in
    let P : ℕ → Type 0 = λ s. is_instruction p.text s ≡ true in
    record {
      above = omega (arith, chosen.1, above_from_test at slot passed.0);
      instruction = record { within = omega (arith, chosen.1, below_from_test at (slots_of p.text) found.0); begins = subst P (sym chosen.1) found.1 };
    }

-- a target that may be reached leads ahead
target_ahead : (p : Subject) (slot to : ℕ) (known : Option Description) → LeadsTo p slot to → All (IsAhead p slot) (target to known)
target_ahead p slot to None leads = All-nil (IsAhead p slot)
target_ahead p slot to (Some d) leads = All-cons (IsAhead p slot) (to, d) [] (leads d) (All-nil (IsAhead p slot))

-- where an instruction leads that falls through
on_ahead : (p : Subject) (slot : ℕ) (after : Result Description ℕ) (targets : List (ℕ × Description)) → is_instruction p.text slot ≡ true → falls_on p slot after ≡ Ok targets → All (IsAhead p slot) targets
on_ahead p slot after targets begins e =
    let found = then_ok (both after (falls_to p.text slot)) (λ x. Ok (target x.1 (Some x.0))) targets e in
    let falls = both_ok after (falls_to p.text slot) found.0 found.1 in
    let same : target found.0.1 (Some found.0.0) ≡ targets = cc (found.2) in
    subst (λ xs. All (IsAhead p slot) xs) same (target_ahead p slot found.0.1 (Some found.0.0) (falls_ahead p slot found.0.1 begins falls.1))

-- where a jump leads that is always taken
jump_ahead : (p : Subject) (distance : Distance) (insn : Insn) (slot : ℕ) (d : Description) (targets : List (ℕ × Description)) → flow_of_jump p distance insn slot d ≡ Ok targets → All (IsAhead p slot) targets
jump_ahead p distance insn slot d targets e =
    let found = then_ok (jumps_to p.text slot (distance_of distance insn)) (λ to. Ok (target to (Some d))) targets e in
    let same : target found.0 (Some d) ≡ targets = cc (found.2) in
    subst (λ xs. All (IsAhead p slot) xs) same (target_ahead p slot found.0 (Some d) (lands_ahead p slot found.0 (pos (slot + width_at p.text slot) +ℤ distance_of distance insn) found.1))

-- where a conditional jump leads
branch_ahead : (p : Subject) (comparison : Comparison) (width : Width) (source : Source) (insn : Insn) (slot : ℕ) (d : Description) (targets : List (ℕ × Description)) → is_instruction p.text slot ≡ true → flow_of_branch p comparison width source insn slot d ≡ Ok targets → All (IsAhead p slot) targets
branch_ahead p comparison width source insn slot d targets begins e =
    let compared = comparands comparison width source insn d in
    let falls = falls_to p.text slot in
    let jumps = jumps_to p.text slot insn.offset in
    let successor : Bool → Compared → Option Description = λ taken compared. on_successor comparison width taken insn d compared in
    let found = then_ok (both compared (both falls jumps)) (λ x. Ok (target x.1.0 (successor false x.0) ++ target x.1.1 (successor true x.0))) targets e in
    let asked = both_ok compared (both falls jumps) found.0 found.1 in
    let led = both_ok falls jumps found.0.1 asked.1 in
    let next = found.0.1.0 in
    let jump = found.0.1.1 in
    let same : (target next (successor false found.0.0) ++ target jump (successor true found.0.0)) ≡ targets = cc (found.2) in
    subst (λ xs. All (IsAhead p slot) xs) same
    (All-append (IsAhead p slot) (target next (successor false found.0.0)) (target jump (successor true found.0.0))
    (target_ahead p slot next (successor false found.0.0) (falls_ahead p slot next begins led.0))
    (target_ahead p slot jump (successor true found.0.0) (lands_ahead p slot jump (pos (slot + width_at p.text slot) +ℤ insn.offset) led.1)))

-- where an operation leads, there are instructions
ahead_by : (p : Subject) (operation : Operation) (slot : ℕ) (d : Description) (targets : List (ℕ × Description)) → is_instruction p.text slot ≡ true → flow_by p operation slot d ≡ Ok targets → All (IsAhead p slot) targets
unfolding flow_by
ahead_by p (Alu code width source) slot d targets i e = on_ahead p slot (after p slot (Alu code width source) (insn_at p.text slot) d) targets i e
ahead_by p (Load size extension) slot d targets i e = on_ahead p slot (after p slot (Load size extension) (insn_at p.text slot) d) targets i e
ahead_by p (Store size source) slot d targets i e = on_ahead p slot (after p slot (Store size source) (insn_at p.text slot) d) targets i e
ahead_by p LoadImmediate slot d targets i e = on_ahead p slot (after p slot LoadImmediate (insn_at p.text slot) d) targets i e
ahead_by p Call slot d targets i e = on_ahead p slot (after p slot Call (insn_at p.text slot) d) targets i e
ahead_by p (Jump distance) slot d targets i e = jump_ahead p distance (insn_at p.text slot) slot d targets e
ahead_by p (Branch comparison width source) slot d targets i e = branch_ahead p comparison width source (insn_at p.text slot) slot d targets i e
ahead_by p Exit slot d targets i e =
    let found = then_ok (read_kind d 0) (λ kind. is_number kind >>= λ returned. Ok []) targets e in
    let returned = then_ok (is_number found.0) (λ returned. Ok []) targets found.2 in
    let none : [] ≡ targets = cc (returned.2) in
    subst (λ xs. All (IsAhead p slot) xs) none (All-nil (IsAhead p slot))

-- where an instruction leads, there are instructions
pub flow_ahead : (p : Subject) (slot : ℕ) (d : Description) (targets : List (ℕ × Description)) → IsInstruction p.text slot → flow p slot d ≡ Ok targets → All (IsAhead p slot) targets
flow_ahead p slot d targets i e =
    let found = flow_ok p slot d targets e in
    ahead_by p found.0 slot d targets i.begins found.2
