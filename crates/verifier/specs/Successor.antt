-- Where an instruction leads, as the pass has it: the description is changed in place, and a conditional
-- jump gives a range of dst on each of its successors.
use Rattle.std.specs.Prelude.{◌≡◌, ℕ, ◌<◌, ◌≤◌, Bool, not, List, [], ◌++◌, Option, Some, option_map, Result, Ok, Err}
use Rattle.verifier_kinds.specs.declared.kind.Range.{Range}
use Rattle.verifier_kinds.specs.declared.kind.Kind.TheVariants.{Scalar}
use Rattle.verifier_kinds.specs.declared.description.Description.{Description}
use Rattle.verifier_kinds.specs.Descriptions.{with_answer_known, with_kind}
use Rattle.verifier_kinds.specs.Kinds.{IsNormal}
use Rattle.verifier.specs.declared.jumps.Compared.{Compared}
use Rattle.verifier.specs.declared.jumps.Compared.TheVariants.{Numbers, Answer}
use Rattle.verifier.specs.declared.successor.Fork.{Fork}
use Rattle.verifier.specs.declared.successor.Check.{Check}
use Rattle.verifier.specs.declared.successor.Successor.{Successor}
use Rattle.verifier.specs.declared.successor.Successor.TheVariants.{Ends, Falls, Jumps, Forks, Checks}
use Rattle.verifier.specs.Flow.{target, checked_kind}

-- what is known on a way of a conditional jump: a range of dst alone, if any number goes that way
abbrev pub learned : Fork → Option Range → Description → Option Description
learned fork range d = option_map (λ range. with_kind d fork.dst (Scalar range)) range

-- what is known of a lookup's answer on the way where it is 0, or isn't
abbrev pub checked : Check → Bool → Description → Description
checked check null d = with_answer_known check.call (checked_kind check.map null) d

-- the targets, from what is known after the instruction
abbrev pub successors_of : Successor → Description → List (ℕ × Description)
successors_of Ends d = []
successors_of (Falls to) d = target to (Some d)
successors_of (Jumps to) d = target to (Some d)
successors_of (Forks fork) d = target fork.next (learned fork fork.fallen d) ++ target fork.jump (learned fork fork.jumped d)
successors_of (Checks check) d =
    target check.next (Some (checked check (not check.null_jumps) d)) ++ target check.jump (Some (checked check check.null_jumps d))

-- the ranges that are compared are normal
abbrev pub AreNormal : Compared → Type 0
AreNormal (Numbers a b) = IsNormal a × IsNormal b
AreNormal (Answer m call) = Unit {0}

-- a conditional jump says of one of the registers
abbrev pub HasDst : Successor → Type 0
HasDst (Forks fork) = fork.dst ≤ 10
HasDst successor = Unit {0}

-- if it falls through, then to this slot
abbrev pub FallsTo : ℕ → Successor → Type 0
FallsTo next (Falls to) = to ≡ next
FallsTo next (Forks fork) = fork.next ≡ next
FallsTo next (Checks check) = check.next ≡ next
FallsTo next successor = Unit {0}

-- the slots to which it leads are below a number
abbrev pub LeadsBelow : ℕ → Successor → Type 0
LeadsBelow slots (Jumps to) = to < slots
LeadsBelow slots (Forks fork) = (fork.next < slots) × (fork.jump < slots)
LeadsBelow slots (Checks check) = (check.next < slots) × (check.jump < slots)
LeadsBelow slots successor = Unit {0}

-- the answer of an instruction that left a description
abbrev pub flow_of_successor : Result Successor ℕ → Description → Result (List (ℕ × Description)) ℕ
flow_of_successor (Ok successor) d = Ok (successors_of successor d)
flow_of_successor (Err rule) d = Err rule

-- a description that was changed in place, if no rule is broken
abbrev pub done : Result (Unit {0}) ℕ → Description → Result Description ℕ
done (Ok x) d = Ok d
done (Err rule) d = Err rule
