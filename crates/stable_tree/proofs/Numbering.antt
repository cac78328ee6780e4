-- A slot that a new group gets.
use Rattle.std.proofs.Common.{◌≡◌, ℕ, ◌+◌, ◌<◌, ◌≤◌, List, [], ◌∷◌, ◌++◌, length, map, slice_index_or, ⊎_elim, sym, ap, subst, ◌∙◌, arith, length-append, vec_len, vec_capacity}
use Rattle.std.specs.List.{concat}
use Rattle.std.proofs.lemmas.Bool.{cases_lt}
use Rattle.std.proofs.lemmas.List.{get_or_append_left}
use Rattle.tree_shape.specs.Shape.{in_order, Tree, Holds, none, blank, IsEven}
use Rattle.tree_shape.proofs.Times.{here, here-same, here-other}
use Rattle.stable_tree.specs.declared.store.Store.{Store}
use Rattle.stable_tree.specs.Slots.{chain_at, used, occurrences_of, AreShared, AreHung, HasReservedRoom, IsWholeStore, IsStore, IsAdded, tree_in, heads_in, chains_in}
use Rattle.stable_tree.proofs.Walks.{here-few, occurrences_of-cons, occurrences_of-append, Agree}
use Rattle.stable_tree.proofs.Trees.{read-tree, holds-same}
use Rattle.stable_tree.proofs.Hanging.{chains-agree, shared-again, length-chains}

abbrev pub used_in : Store → List ℕ
used_in store = used store.nexts.items store.sizes.items (heads_in store)

-- what is known of a store where a slot is made ready for a group
pub record IsReady (old new : Store) (frame slot : ℕ) : Type 0 where
  pub root : new.root ≡ old.root
  pub long : length old.nodes.items ≤ length new.nodes.items
  pub nodes : (i : ℕ) → i < length old.nodes.items → slice_index_or new.nodes.items i blank ≡ slice_index_or old.nodes.items i blank
  pub frames : Agree (used_in old) old.frames.items new.frames.items
  pub nexts : Agree (used_in old) old.nexts.items new.nexts.items
  pub sizes : Agree (used_in old) old.sizes.items new.sizes.items
  pub shared : AreShared (used_in old) (slot ∷ new.free.items) (length new.nodes.items)
  pub all_frames : length new.frames.items ≡ length new.nodes.items
  pub all_nexts : length new.nexts.items ≡ length new.nodes.items
  pub all_sizes : length new.sizes.items ≡ length new.nodes.items
  pub few : length new.nodes.items ≤ new.room
  pub low : new.room < none
  pub room : HasReservedRoom new
  pub framed : slice_index_or new.frames.items slot 0 ≡ frame
  pub alone : slice_index_or new.sizes.items slot 0 ≡ 1
  pub same_room : new.room ≡ old.room

pub put_in : (old new : Store) (frame slot : ℕ) → IsStore old → IsReady old new frame slot → IsAdded old new frame slot
put_in old new frame slot whole ready =
    let held : Holds new.nodes.items new.root (tree_in old) =
    subst (λ (root : ℕ). Holds new.nodes.items root (tree_in old)) (sym ready.root) (holds-same old.nodes.items new.nodes.items old.root (tree_in old) ready.long ready.nodes whole.holds) in
    let tree : tree_in new ≡ tree_in old = read-tree new.nodes.items new.root (tree_in old) held in
    let heads : heads_in new ≡ heads_in old = ap in_order tree in
    let same = chains-agree old.frames.items old.nexts.items old.sizes.items new.frames.items new.nexts.items new.sizes.items (heads_in old) whole.hung.filled ready.frames ready.nexts ready.sizes in
    let hung : AreHung new.frames.items new.nexts.items new.sizes.items (heads_in old) (slot ∷ new.free.items) (length new.nodes.items) = record {
      filled = same.filled;
      shared = subst (λ (held : List ℕ). AreShared held (slot ∷ new.free.items) (length new.nodes.items)) (sym same.used) ready.shared;
      framed = ready.all_frames;
      linked = ready.all_nexts;
      sized = ready.all_sizes;
    } in
    record {
      whole = record {
        holds = subst (λ (t : Tree). Holds new.nodes.items new.root t) (sym tree) held;
        even = subst IsEven (sym tree) whole.even;
        hung = subst (λ (heads : List ℕ). AreHung new.frames.items new.nexts.items new.sizes.items heads (slot ∷ new.free.items) (length new.nodes.items)) (sym heads) hung;
        few = ready.few;
        low = ready.low;
        room = ready.room;
      };
      heads = heads;
      chains = ap (map (chain_at new.frames.items new.nexts.items new.sizes.items)) heads ∙ same.chains;
      framed = ready.framed;
      alone = ready.alone;
      room = ready.same_room;
    }

-- a used or a free entry is one
pub slot-inside : (held free : List ℕ) (bound i : ℕ) → AreShared held free bound → 1 ≤ occurrences_of i held + occurrences_of i free → i < bound
slot-inside held free bound i shared some =
    ⊎_elim (λ (less : i < bound). less) (λ (far : bound ≤ i). let none = shared.inside i far in absurd (omega (arith, none, some))) (cases_lt i bound)

-- the last of the free entries
module _ (held rest free : List ℕ) (slot bound : ℕ) (shared : AreShared held free bound) (is : free ≡ rest ++ slot ∷ []) where
  last-occurrences_of : (i : ℕ) → occurrences_of i free ≡ occurrences_of i rest + here i slot
  last-occurrences_of i = let e = ap (occurrences_of i) is in let f = occurrences_of-append i rest (slot ∷ []) in let g = occurrences_of-cons i slot [] in omega (arith, e, f, g)

  pub last-inside : slot < bound
  last-inside = slot-inside held free bound slot shared (let e = last-occurrences_of slot in let f = here-same slot in omega (arith, e, f))

  pub last-away : occurrences_of slot held ≡ 0
  last-away = let e = last-occurrences_of slot in let f = here-same slot in let most = shared.once slot in omega (arith, e, f, most)

  pub last-shared : AreShared held (slot ∷ rest) bound
  last-shared = shared-again held free held (slot ∷ rest) bound shared
      (λ i. let e = last-occurrences_of i in let f = occurrences_of-cons i slot rest in omega (arith, e, f))
      (let e = ap length is in let f = length-append rest (slot ∷ []) in omega (arith, e, f))

-- where all slots are used, one more
module _ (held free : List ℕ) (bound : ℕ) (shared : AreShared held free bound) (is : free ≡ []) where
  pub more-shared : (rest : List ℕ) → rest ≡ [] → AreShared held (bound ∷ rest) (bound + 1)
  more-shared rest e =
      let none : occurrences_of bound held ≡ 0 = let all = shared.inside bound (omega arith) in omega (arith, all) in
      rw e (record {
        once = λ i. let f = occurrences_of-cons i bound [] in once i f;
        inside = λ i far. let f = occurrences_of-cons i bound [] in let g = here-other i bound (λ same. omega (arith, same, far)) in let h = shared.inside i (omega (arith, far)) in omega (arith, f, g, h);
        all = let all = shared.all in let long = ap length is in omega (arith, all, long);
      })
    where
      once : (i : ℕ) → occurrences_of i (bound ∷ []) ≡ here i bound + 0 → occurrences_of i held + occurrences_of i (bound ∷ []) ≤ 1
      once i f =
          ⊎_elim
          (λ (less : i < bound). let g = here-other i bound (λ same. omega (arith, same, less)) in let most = shared.once i in omega (arith, f, g, most))
          (λ (far : bound ≤ i). let none = shared.inside i far in let few = here-few i bound in omega (arith, f, none, few))
          (cases_lt i bound)

  pub more-agree : (old more : List ℕ) → length old ≡ bound → Agree held old (old ++ more)
  more-agree old more long = λ i some. get_or_append_left old more 0 i (let less = slot-inside held free bound i shared (omega (arith, some)) in omega (arith, less, long))

-- a store has no more groups than slots
chains-long : (store : Store) (free : List ℕ) → IsWholeStore store free → length (concat (chains_in store)) + length free ≡ length store.nodes.items
chains-long store free whole =
    let all = whole.hung.shared.all in
    let long = length-chains store.frames.items store.nexts.items store.sizes.items (heads_in store) in
    omega (arith, all, long)

pub chains-low : {store : Store} → IsStore store → length (concat (chains_in store)) < 4294967295
chains-low {store} whole =
    let long = chains-long store store.free.items whole in
    let few = whole.few in
    let low = whole.low in
    omega (arith, long, few, low)

-- where all slots are used, there is memory for one more
pub record HasMore (store : Store) : Type 0 where
  pub few : length store.nodes.items < store.room
  pub nodes : vec_len store.nodes < vec_capacity store.nodes
  pub frames : vec_len store.frames < vec_capacity store.frames
  pub nexts : vec_len store.nexts < vec_capacity store.nexts
  pub sizes : vec_len store.sizes < vec_capacity store.sizes

pub room-left : {store : Store} → IsStore store → length (concat (chains_in store)) < store.room → length store.free.items ≡ 0 → HasMore store
room-left {store} whole less none =
    let long = chains-long store store.free.items whole in
    let few : length store.nodes.items < store.room = omega (arith, long, none, less) in
    record {
      few = few;
      nodes = let room = whole.room.nodes in omega (arith, few, room);
      frames = let room = whole.room.frames in let size = whole.hung.framed in omega (arith, few, room, size);
      nexts = let room = whole.room.nexts in let size = whole.hung.linked in omega (arith, few, room, size);
      sizes = let room = whole.room.sizes in let size = whole.hung.sized in omega (arith, few, room, size);
    }

-- a spare slot is one of the store's
pub spare-inside : (store : Store) (slot : ℕ) (free : List ℕ) → IsWholeStore store (slot ∷ free) → slot < length store.nodes.items
spare-inside store slot free whole =
    let all = occurrences_of-cons slot slot free in
    let one = here-same slot in
    slot-inside (used_in store) (slot ∷ free) (length store.nodes.items) slot whole.hung.shared (omega (arith, all, one))
