use Rattle.std.proofs.Common.{ap, arith, length}
use Rattle.stable_tree.specs.Groups.{Groups, group_frames}
use Rattle.stable_tree.specs.Slots.{heads_in}
use Rattle.stable_tree.proofs.Hanging.{length-chains}
use Rattle.stable_tree.proofs.tree.StableTree.groups.Goals as goal

pub returns : goal.returns
returns c =
    let seen = ap (λ (tree : Groups). length (group_frames tree)) c.self.view_is in
    let store = c.self.inside.store in
    let long = length-chains store.frames.items store.nexts.items store.sizes.items (heads_in store) in
    let all = c.self.invariant.0.hung.shared.all in
    let one = c.len.ensures in
    let two = c.len-2.ensures in
    omega (arith, seen, long, all, one, two)
