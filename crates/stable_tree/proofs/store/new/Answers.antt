use Rattle.std.proofs.Common.{◌≤◌, slice_index_or, refl, arith}
use Rattle.std.proofs.lemmas.List.Elements.{All-nil}
use Rattle.tree_shape.specs.Shape.{in_order, Holds, IsEven}
use Rattle.stable_tree.specs.Slots.{tree_within}
use Rattle.stable_tree.proofs.store.new.Goals as goal

pub returns-clause-whole : goal.returns-clause-whole
unfolding tree_within in_order Holds IsEven
returns-clause-whole c =
    let nodes = c.new.ensures.items in
    let frames = c.new-2.ensures.items in
    let nexts = c.new-3.ensures.items in
    let sizes = c.new-4.ensures.items in
    let free = c.new-5.ensures.items in
    record {
      holds = refl;
      even = tt;
      hung = record {
        filled = All-nil (λ at. 1 ≤ slice_index_or c.new-4.result.items at 0);
        shared = rw (free, nodes) (record { once = λ i. omega arith; inside = λ i far. refl; all = refl });
        framed = rw (frames, nodes) refl;
        linked = rw (nexts, nodes) refl;
        sized = rw (sizes, nodes) refl;
      };
      few = rw nodes (omega arith);
      low = omega arith;
      room = record { nodes = omega arith; frames = omega arith; nexts = omega arith; sizes = omega arith; free = omega arith };
    }

pub returns-clause-chains : goal.returns-clause-chains
unfolding tree_within in_order
returns-clause-chains c = refl
