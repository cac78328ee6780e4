-- What is known of questions that broke no rule.
use Rattle.std.specs.Prelude.{◌≡◌, ℕ, ◌+◌, ◌%◌, ◌≤◌, nat_lt, ◌==◌, ℤ, pos, negsuc, ◌+ℤ◌, Bool, true, false, not, is_some, Result, Ok, refl}
use Rattle.std.proofs.Common.{arith}
use Rattle.std.proofs.lemmas.Bool.Decides.{nat_tests}
use Rattle.bpf_decode.specs.declared.insn.Insn.{Insn}
use Rattle.bpf_decode.specs.Opcodes.{wide_immediate}
use Rattle.verifier_kinds.specs.declared.kind.Kind.{Kind}
use Rattle.verifier_kinds.specs.declared.kind.Kind.TheVariants.{Scalar, MapName, MapValue}
use Rattle.verifier_kinds.specs.declared.description.Description.{Description}
use Rattle.verifier_kinds.specs.Kinds.{constant, shape_at}
use Rattle.verifier_kinds.specs.Descriptions.{with_kind}
use Rattle.verifier.specs.Flow.{holds_or, write_kind, lies_below, aligned, context_offset, stack_offset, value_size_of, at_offset, wide_kind}
use Rattle.verifier.specs.Subject.{Subject}
use Rattle.verifier.proofs.Flows.{both_ok, then_ok}

-- the test holds
pub held : (test : Bool) (rule : ℕ) (x : Unit {0}) → holds_or test rule ≡ Ok x → test ≡ true
held true rule x e = refl
held false rule x e = cc

-- the location is the offset, and all the bytes lie below the end
pub lay_below : (offset : ℤ) (size end rule at : ℕ) → lies_below offset size end rule ≡ Ok at → (offset ≡ pos at) × (at + size ≤ end)
lay_below (pos n) size end rule at e = grind (arith, nat_tests)
lay_below (negsuc n) size end rule at e = cc

-- the offset is a multiple of the size
pub was_aligned : (from size at : ℕ) → aligned from size ≡ Ok at → (from ≡ at) × (at % size ≡ 0)
was_aligned from size at e = grind (arith, nat_tests)

-- the location in the context of an access that is let through
pub context_passed : (context_size : ℕ) (offset : ℤ) (size at : ℕ) → context_offset context_size offset size ≡ Ok at → (offset ≡ pos at) × (at + size ≤ context_size) × (at % size ≡ 0)
context_passed context_size offset size at e = grind (arith, nat_tests, then_ok, lay_below, was_aligned)

-- the location in the stack of an access that is let through
pub stack_passed : (offset : ℤ) (size at : ℕ) → stack_offset offset size ≡ Ok at → (offset +ℤ pos 512 ≡ pos at) × (at + size ≤ 512) × (at % size ≡ 0)
stack_passed offset size at e = grind (arith, nat_tests, then_ok, lay_below, was_aligned)

-- a kind is written to a register that isn't R10
pub write_passed : (d : Description) (i : ℕ) (given : Result Kind ℕ) (e : Description) → write_kind d i given ≡ Ok e
    → (kind : Kind) × (given ≡ Ok kind) × (not (i == 10) ≡ true) × (with_kind d i kind ≡ e)
write_passed d i given e h = grind (arith, nat_tests, then_ok, both_ok, held)

-- the wide instruction loads the name of a map that is there
pub record Names (p : Subject) (insn : Insn) (kind : Kind) : Type 0 where
  pub other : (insn.src == 0) ≡ false
  pub one : (insn.src == 1) ≡ true
  pub m : ℕ
  pub number : insn.imm ≡ pos m
  pub there : is_some (shape_at p.shapes m) ≡ true
  pub is : MapName m ≡ kind

-- it loads an address in the first value of a map that is there
pub record Points (p : Subject) (insn : Insn) (kind : Kind) : Type 0 where
  pub other : (insn.src == 0) ≡ false
  pub another : (insn.src == 1) ≡ false
  pub m : ℕ
  pub number : insn.imm ≡ pos m
  pub there : is_some (shape_at p.shapes m) ≡ true
  pub within : nat_lt insn.next_imm (value_size_of p m) ≡ true
  pub is : MapValue m (at_offset insn.next_imm) ≡ kind

-- what the wide instruction loads that is let through
pub data WideLoad (p : Subject) (insn : Insn) (kind : Kind) : Type 0 where
  Both : (insn.src == 0) ≡ true → Scalar (constant (wide_immediate insn)) ≡ kind → WideLoad p insn kind
  Name : Names p insn kind → WideLoad p insn kind
  Address : Points p insn kind → WideLoad p insn kind

-- it loads both immediates, the name of a map, or an address in its first value
pub wide_passed : (p : Subject) (insn : Insn) (kind : Kind) → wide_kind p insn ≡ Ok kind → WideLoad p insn kind
wide_passed p insn kind e = grind (arith, nat_tests, then_ok, held)
