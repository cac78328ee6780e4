-- What is known on the successors of an instruction.
use Rattle.std.proofs.Common.{◌≡◌, ◌≢◌, Bool, true, false, not, ℕ, zero, suc, ◌<◌, ◌≤◌, List, [], ◌∷◌, ◌++◌, get_or, length, slice_set, IfSome, Option, Some, None, refl, sym, ap, subst, ◌∙◌, ◌⊎◌, inl, inr, arith}
use Rattle.std.proofs.lemmas.List.{get_or-set_same, get_or-set_other, length-set}
use Rattle.std.proofs.lemmas.List.Elements.{All-nil, All-cons, All-append}
use Rattle.verifier_kinds.specs.declared.kind.Range.{Range}
use Rattle.verifier_kinds.specs.declared.kind.Kind.{Kind}
use Rattle.verifier_kinds.specs.declared.kind.Kind.TheVariants.{Scalar}
use Rattle.verifier_kinds.specs.declared.description.Description.{Description}
use Rattle.verifier_kinds.specs.Kinds.{IsKind, IsNormal}
use Rattle.verifier_kinds.specs.Descriptions.{IsDescription, with_kind}
use Rattle.verifier_kinds.proofs.Ranges.{constant_is_normal}
use Rattle.verifier_kinds.proofs.Descriptions.{resolved_is_description}
use Rattle.verifier.specs.declared.successor.Check.{Check}
use Rattle.verifier.specs.declared.successor.Fork.{Fork}
use Rattle.verifier.specs.declared.successor.Successor.TheVariants.{Checks}
use Rattle.verifier.specs.Flow.{checked_kind, target}
use Rattle.verifier.specs.Successor.{checked, learned, successors_of}
use Rattle.verifier.specs.Pass.{AreDescribed}

same_or_other : (k i : ℕ) → (k ≡ i) ⊎ (k ≢ i)
same_or_other k i = grind arith

-- registers of which one is written
kinds_set : (registers : List (Option Kind)) (i : ℕ) (kind : Kind) → ((k : ℕ) → IfSome (get_or registers k None) IsKind) → i < length registers → IsKind kind → (k : ℕ) → IfSome (get_or (slice_set registers i (Some kind)) k None) IsKind
kinds_set registers i kind kinds within is k = elim (same_or_other k i) [
  | inl same ↦
      let P : ℕ → Type 0 = λ k. IfSome (get_or (slice_set registers i (Some kind)) k None) IsKind in
      subst P (sym same) (rw (get_or-set_same registers i (Some kind) None within) is)
  | inr other ↦ rw (get_or-set_other registers i k (Some kind) None other) (kinds k)
]

-- a description in which a register is written is one of the verifier
pub written_described : (d : Description) (i : ℕ) (kind : Kind) → i ≤ 10 → IsDescription d → IsKind kind → IsDescription (with_kind d i kind)
written_described d i kind small h is = record {
  registers = length-set d.registers i (Some kind) ∙ h.registers;
  stack = h.stack;
  kinds = kinds_set d.registers i kind h.kinds (omega (arith, h.registers)) is;
  slots = h.slots;
}

-- so is what is known on a way of a conditional jump
learned_described : (fork : Fork) (range : Option Range) (d : Description) → fork.dst ≤ 10 → IsDescription d → IfSome range IsNormal → IfSome (learned fork range d) IsDescription
learned_described fork None d small h normal = tt
learned_described fork (Some range) d small h normal = written_described d fork.dst (Scalar range) small h normal

-- what a lookup's answer is known to be is a kind of the verifier
checked_is_kind : (m : ℕ) (null : Bool) → IsKind (checked_kind m null)
checked_is_kind m true = constant_is_normal 0 (omega arith)
checked_is_kind m false = record { normal = record { ordered = omega arith; fits = omega arith; low = refl; high = refl; single = λ e. refl }; below = omega arith }

checked_described : (check : Check) (null : Bool) (d : Description) → IsDescription d → IsDescription (checked check null d)
checked_described check null d h = resolved_is_description check.call (checked_kind check.map null) d (checked_is_kind check.map null) h

target_described : (to : ℕ) (known : Option Description) → IfSome known IsDescription → AreDescribed (target to known)
target_described to None h = All-nil (λ t. IsDescription t.1)
target_described to (Some d) h = All-cons (λ t. IsDescription t.1) (to, d) [] h (All-nil (λ t. IsDescription t.1))

-- and what is known on both of them
pub fork_described : (fork : Fork) (d : Description) → fork.dst ≤ 10 → IsDescription d → IfSome fork.fallen IsNormal → IfSome fork.jumped IsNormal → AreDescribed (target fork.next (learned fork fork.fallen d) ++ target fork.jump (learned fork fork.jumped d))
fork_described fork d small h fallen jumped =
    All-append (λ t. IsDescription t.1) (target fork.next (learned fork fork.fallen d)) (target fork.jump (learned fork fork.jumped d))
    (target_described fork.next (learned fork fork.fallen d) (learned_described fork fork.fallen d small h fallen))
    (target_described fork.jump (learned fork fork.jumped d) (learned_described fork fork.jumped d small h jumped))

-- so is what is known on both successors where a lookup's answer is compared with 0
pub check_described : (check : Check) (d : Description) → IsDescription d → AreDescribed (successors_of (Checks check) d)
check_described check d h =
    All-append (λ t. IsDescription t.1) (target check.next (Some (checked check (not check.null_jumps) d))) (target check.jump (Some (checked check check.null_jumps d)))
    (target_described check.next (Some (checked check (not check.null_jumps) d)) (checked_described check (not check.null_jumps) d h))
    (target_described check.jump (Some (checked check check.null_jumps d)) (checked_described check check.null_jumps d h))

set_twice : {X : Type 0} (xs : List X) (i : ℕ) (x y : X) → slice_set (slice_set xs i x) i y ≡ slice_set xs i y
set_twice [] i x y = refl
set_twice (z ∷ zs) zero x y = refl
set_twice (z ∷ zs) (suc i) x y = ap (λ l. z ∷ l) (set_twice zs i x y)

-- of a register that is written twice the second kind is known
pub written_twice : (d : Description) (i : ℕ) (first kind : Kind) → with_kind (with_kind d i first) i kind ≡ with_kind d i kind
written_twice d i first kind = ap (λ registers. record d { registers = registers }) (set_twice d.registers i (Some first) (Some kind))
