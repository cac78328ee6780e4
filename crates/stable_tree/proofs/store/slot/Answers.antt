use Rattle.std.proofs.Common.{◌≡◌, [], ◌∷◌, ◌++◌, ℕ, length, refl, ap, ◌∙◌, arith, rules, length-append}
use Rattle.std.proofs.lemmas.List.{get_or-set_same, length-set, get_or_append_left}
use Rattle.std.proofs.Math.Seq.{get_or-append_seam}
use Rattle.tree_shape.specs.declared.Node.{Node}
use Rattle.tree_shape.specs.Shape.{blank}
use Rattle.stable_tree.proofs.Walks.{agree-set}
use Rattle.stable_tree.proofs.Numbering.{used_in, put_in, last-inside, last-away, last-shared, more-shared, more-agree, room-left}
use Rattle.stable_tree.proofs.store.slot.Goals as goal

pub index_mut-requires : goal.index_mut-requires
index_mut-requires c =
    let less = last-inside (used_in c.args.store.now) c.pop.new.self.items c.args.store.now.free.items c.in-Some.slot (length c.args.store.now.nodes.items) c.requires.whole.hung.shared c.in-Some.ensures.items in
    let size = c.requires.whole.hung.framed in
    omega (arith, less, size)

pub index_mut-requires-in-Some : goal.index_mut-requires-in-Some
index_mut-requires-in-Some c =
    let less = last-inside (used_in c.args.store.now) c.pop.new.self.items c.args.store.now.free.items c.in-Some.slot (length c.args.store.now.nodes.items) c.requires.whole.hung.shared c.in-Some.ensures.items in
    let size = c.requires.whole.hung.sized in
    omega (arith, less, size)

pub prove-unreachable-requires : goal.prove-unreachable-requires
prove-unreachable-requires c =
    let none : length c.args.store.now.free.items ≡ 0 = search rules in
    let less = (room-left c.requires.whole c.requires.room none).nodes in
    search (rules, less)

pub prove-unreachable-requires-in-None : goal.prove-unreachable-requires-in-None
prove-unreachable-requires-in-None c =
    let none : length c.args.store.now.free.items ≡ 0 = search rules in
    let less = (room-left c.requires.whole c.requires.room none).frames in
    search (rules, less)

pub prove-unreachable-requires-in-None-2 : goal.prove-unreachable-requires-in-None-2
prove-unreachable-requires-in-None-2 c =
    let none : length c.args.store.now.free.items ≡ 0 = search rules in
    let less = (room-left c.requires.whole c.requires.room none).nexts in
    search (rules, less)

pub prove-unreachable-requires-in-None-3 : goal.prove-unreachable-requires-in-None-3
prove-unreachable-requires-in-None-3 c =
    let none : length c.args.store.now.free.items ≡ 0 = search rules in
    let less = (room-left c.requires.whole c.requires.room none).sizes in
    search (rules, less)

pub returns-in-Some : goal.returns-in-Some
returns-in-Some c =
    let whole = c.requires.whole in
    let less = last-inside (used_in c.args.store.now) c.pop.new.self.items c.args.store.now.free.items c.in-Some.slot (length c.args.store.now.nodes.items) whole.hung.shared c.in-Some.ensures.items in
    let away = last-away (used_in c.args.store.now) c.pop.new.self.items c.args.store.now.free.items c.in-Some.slot (length c.args.store.now.nodes.items) whole.hung.shared c.in-Some.ensures.items in
    let framed = whole.hung.framed in
    let sized = whole.hung.sized in
    put_in c.args.store.now _ c.args.frame c.in-Some.slot whole (record {
      root = refl;
      long = omega arith;
      nodes = λ i less. refl;
      frames = agree-set (used_in c.args.store.now) c.args.store.now.frames.items c.in-Some.slot c.args.frame away;
      nexts = λ i some. refl;
      sizes = agree-set (used_in c.args.store.now) c.args.store.now.sizes.items c.in-Some.slot 1 away;
      shared = last-shared (used_in c.args.store.now) c.pop.new.self.items c.args.store.now.free.items c.in-Some.slot (length c.args.store.now.nodes.items) whole.hung.shared c.in-Some.ensures.items;
      all_frames = let e = length-set c.args.store.now.frames.items c.in-Some.slot c.args.frame in omega (arith, e, framed);
      all_nexts = whole.hung.linked;
      all_sizes = let e = length-set c.args.store.now.sizes.items c.in-Some.slot 1 in omega (arith, e, sized);
      few = whole.few;
      low = whole.low;
      room = record { nodes = whole.room.nodes; frames = whole.room.frames; nexts = whole.room.nexts; sizes = whole.room.sizes; free = let e = c.in-Some.ensures.capacity in let r = whole.room.free in omega (arith, e, r) };
      framed = get_or-set_same c.args.store.now.frames.items c.in-Some.slot c.args.frame 0 (omega (arith, less, framed));
      alone = get_or-set_same c.args.store.now.sizes.items c.in-Some.slot 1 0 (omega (arith, less, sized));
      same_room = refl;
    })

pub returns-in-None : goal.returns-in-None
returns-in-None c =
    let whole = c.requires.whole in
    let none : length c.args.store.now.free.items ≡ 0 = search rules in
    let empty : c.args.store.now.free.items ≡ [] = search (rules, none) in
    let left : c.pop.new.self.items ≡ [] = search (rules, empty) in
    let fits = (room-left whole c.requires.room none).few in
    let at : c.len-slot.result ≡ length c.args.store.now.nodes.items = search rules in
    let node : Node = record { left = 4294967295; right = 4294967295; height = 0 } in
    let nodes : c.push.new.self.items ≡ c.args.store.now.nodes.items ++ node ∷ [] = search rules in
    let frames : c.push-in-None.new.self.items ≡ c.args.store.now.frames.items ++ c.args.frame ∷ [] = search rules in
    let nexts : c.push-in-None-2.new.self.items ≡ c.args.store.now.nexts.items ++ 4294967295 ∷ [] = search rules in
    let sizes : c.push-in-None-3.new.self.items ≡ c.args.store.now.sizes.items ++ 1 ∷ [] = search rules in
    let one = ap length nodes ∙ length-append c.args.store.now.nodes.items (node ∷ []) in
    let two = ap length frames ∙ length-append c.args.store.now.frames.items (c.args.frame ∷ []) in
    let three = ap length nexts ∙ length-append c.args.store.now.nexts.items (4294967295 ∷ []) in
    let four = ap length sizes ∙ length-append c.args.store.now.sizes.items (1 ∷ []) in
    let framed = whole.hung.framed in
    let linked = whole.hung.linked in
    let sized = whole.hung.sized in
    let bound : ℕ = length c.args.store.now.nodes.items in
    let seam : length c.args.store.now.frames.items ≡ c.len-slot.result = omega (arith, framed, at) in
    let other : length c.args.store.now.sizes.items ≡ c.len-slot.result = omega (arith, sized, at) in
    put_in c.args.store.now _ c.args.frame c.len-slot.result whole (record {
      root = refl;
      long = omega (arith, one);
      nodes = λ i less. rw nodes (get_or_append_left c.args.store.now.nodes.items (node ∷ []) blank i less);
      frames = rw frames (more-agree (used_in c.args.store.now) c.args.store.now.free.items bound whole.hung.shared empty c.args.store.now.frames.items (c.args.frame ∷ []) framed);
      nexts = rw nexts (more-agree (used_in c.args.store.now) c.args.store.now.free.items bound whole.hung.shared empty c.args.store.now.nexts.items (4294967295 ∷ []) linked);
      sizes = rw sizes (more-agree (used_in c.args.store.now) c.args.store.now.free.items bound whole.hung.shared empty c.args.store.now.sizes.items (1 ∷ []) sized);
      shared = rw (at, one) (more-shared (used_in c.args.store.now) c.args.store.now.free.items bound whole.hung.shared empty c.pop.new.self.items left);
      all_frames = omega (arith, one, two, framed);
      all_nexts = omega (arith, one, three, linked);
      all_sizes = omega (arith, one, four, sized);
      few = omega (arith, one, fits);
      low = whole.low;
      room = record {
        nodes = let r = whole.room.nodes in let e = c.push.ensures.capacity in omega (arith, r, e);
        frames = let r = whole.room.frames in let e = c.push-in-None.ensures.capacity in omega (arith, r, e);
        nexts = let r = whole.room.nexts in let e = c.push-in-None-2.ensures.capacity in omega (arith, r, e);
        sizes = let r = whole.room.sizes in let e = c.push-in-None-3.ensures.capacity in omega (arith, r, e);
        free = let r = whole.room.free in let e = c.in-None.ensures.capacity in omega (arith, r, e);
      };
      framed = rw (frames, ← seam) (get_or-append_seam c.args.store.now.frames.items c.args.frame [] 0);
      alone = rw (sizes, ← other) (get_or-append_seam c.args.store.now.sizes.items 1 [] 0);
      same_room = refl;
    })
