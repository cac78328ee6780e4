use Rattle.verifier_kinds.proofs.Joins.{register_below_join_left, register_below_join_right, slot_below_join_left, slot_below_join_right, below_join_left, below_join_right}
use Rattle.verifier_kinds.proofs.Least.{registers_join_below, slots_join_below, join_below}
use Rattle.verifier_kinds.proofs.laws.join_is_least.Goals as goal

pub returns : goal.returns
returns c = record {
  register = λ a b. record { left = register_below_join_left a b; right = register_below_join_right a b; least = registers_join_below a b };
  slot = λ a b. record { left = slot_below_join_left a b; right = slot_below_join_right a b; least = slots_join_below a b };
  description = λ d e p q. record { left = below_join_left d e p q; right = below_join_right d e p q; least = λ above. join_below d e above p q };
}
