-- The join is the least above both, of what is known of a register, of a slot of the stack and of all.
use Rattle.std.specs.Prelude.{Option}
use Rattle.verifier_kinds.specs.declared.kind.Kind.{Kind}
use Rattle.verifier_kinds.specs.declared.description.StackSlot.{StackSlot}
use Rattle.verifier_kinds.specs.declared.description.Description.{Description}
use Rattle.verifier_kinds.specs.Kinds.{IsBelow}
use Rattle.verifier_kinds.specs.Descriptions.{IsDescription, IsSlotBelow, IsDescriptionBelow, join_of, join_of_registers, join_of_slots}

-- by an order, the least of all that two are below
pub record IsLeastAbove {X : Type 0} (below : X → X → Type 0) (a b join : X) : Type 0 where
  pub left : below a join
  pub right : below b join
  pub least : (above : X) → below a above → below b above → below join above

abbrev pub RegisterJoinIsLeast : Type 0
RegisterJoinIsLeast = (a b : Option Kind) → IsLeastAbove IsBelow a b (join_of_registers a b)

abbrev pub SlotJoinIsLeast : Type 0
SlotJoinIsLeast = (a b : StackSlot) → IsLeastAbove IsSlotBelow a b (join_of_slots a b)

abbrev pub DescriptionJoinIsLeast : Type 0
DescriptionJoinIsLeast = (d e : Description) → IsDescription d → IsDescription e → IsLeastAbove IsDescriptionBelow d e (join_of d e)
