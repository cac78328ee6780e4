-- What is known at the targets of an instruction.
use Rattle.std.specs.Prelude.{IfSome, Option, Some, None}
use Rattle.std.proofs.Common.{[], ◌++◌}
use Rattle.std.proofs.lemmas.List.Elements.{All-head, All-tail}
use Rattle.verifier_kinds.specs.Descriptions.{IsDescription}
use Rattle.verifier.specs.declared.flow.Target.{Target}
use Rattle.verifier.specs.declared.flow.Onward.{Onward}
use Rattle.verifier.specs.Pass.{AreDescribed, target_in, targets_in}

next_known : (next jump : Option Target) → AreDescribed (target_in next ++ target_in jump) → IfSome next (λ t. IsDescription t.description)
next_known None jump described = tt
next_known (Some t) jump described = All-head (λ x. IsDescription x.1) (t.slot, t.description) (target_in jump) described

jump_known : (next jump : Option Target) → AreDescribed (target_in next ++ target_in jump) → IfSome jump (λ t. IsDescription t.description)
jump_known next None described = tt
jump_known None (Some t) described = All-head (λ x. IsDescription x.1) (t.slot, t.description) [] described
jump_known (Some n) (Some t) described =
    All-head (λ x. IsDescription x.1) (t.slot, t.description) [] (All-tail (λ x. IsDescription x.1) (n.slot, n.description) (target_in (Some t)) described)

-- what is known where an instruction falls through
pub next_described : (onward : Onward) → AreDescribed (targets_in onward) → IfSome onward.next (λ t. IsDescription t.description)
next_described onward described = next_known onward.next onward.jump described

-- what is known where it jumps
pub jump_described : (onward : Onward) → AreDescribed (targets_in onward) → IfSome onward.jump (λ t. IsDescription t.description)
jump_described onward described = jump_known onward.next onward.jump described
