-- A slot that is put into the tree, and one that is taken out of it.
use Rattle.std.proofs.Common.{◌≡◌, ℕ, ◌+◌, ◌-◌, ◌≤◌, List, [], ◌∷◌, ◌++◌, length, map, slice_index_or, insert, Option, None, Some, refl, sym, subst, ap, ◌∙◌, arith}
use Rattle.std.specs.List.{remove}
use Rattle.std.specs.Vec.{with_items}
use Rattle.std.proofs.lemmas.List.{map-append, length-map}
use Rattle.std.proofs.lemmas.List.Edits.{insert-append_right, remove-append_right}
use Rattle.std.proofs.lemmas.List.Elements.{All-cons, All-append, All-tail}
use Rattle.tree_shape.specs.declared.Node.{Node}
use Rattle.tree_shape.specs.Shape.{Tree, leaf, fork, in_order, Holds, IsEven, IsOnce, IsHung}
use Rattle.tree_shape.specs.Changes.{found}
use Rattle.tree_shape.specs.Searches.{order_to, IsGrowing}
use Rattle.tree_shape.specs.Removals.{IsTaking}
use Rattle.tree_shape.proofs.Times.{here, times-fork, times-leaf, times-once}
use Rattle.stable_tree.specs.declared.store.Store.{Store}
use Rattle.stable_tree.specs.Groups.{IsSorted}
use Rattle.stable_tree.specs.Edits.{IsSearchAnswer}
use Rattle.stable_tree.specs.Slots.{walk, hanging, used, occurrences_of, AreHung, HasReservedRoom, IsWholeStore, IsHead, tree_in, heads_in, chains_in}
use Rattle.stable_tree.proofs.Counting.{written}
use Rattle.stable_tree.proofs.Walks.{occurrences_of-cons}
use Rattle.stable_tree.proofs.Trees.{all-front, all-back, read-tree}
use Rattle.stable_tree.proofs.Hanging.{shared-again, occurrences_of-cut, occurrences_of-both, length-cut, length-both, heads-used}
use Rattle.stable_tree.proofs.Numbering.{spare-inside}
use Rattle.stable_tree.proofs.Contents.{whole-sound, whole-framed, found-here, missing-here}

-- what is reported of a content that was looked for
pub answer-of : (pages : List (List ℕ)) (store : Store) (free : List ℕ) (whole : IsWholeStore store free) (sorted : IsSorted pages (chains_in store)) (frame : ℕ) (answered : Option ℕ)
    → answered ≡ found (order_to pages store.frames.items frame) (tree_in store) → IsSearchAnswer pages frame store answered
answer-of pages store free whole sorted frame None e =
    let is = missing-here pages store free whole sorted frame 0 (sym e) in
    record { k = length is.earlier; cut = is.cut; absent = is.absent }
answer-of pages store free whole sorted frame (Some at) e =
    let is = found-here pages store free whole sorted frame at (sym e) in
    record { k = length is.head.earlier; cut = is.cut; there = is.there; chain = is.chain; head = is.head }

-- other nodes in the same memory
pub record IsRenoded (old new : Store) (nodes : List Node) (root : ℕ) : Type 0 where
  pub nodes_are : new.nodes.items ≡ nodes
  pub root_is : new.root ≡ root
  pub frames : new.frames.items ≡ old.frames.items
  pub nexts : new.nexts.items ≡ old.nexts.items
  pub sizes : new.sizes.items ≡ old.sizes.items
  pub same_room : new.room ≡ old.room
  pub room : HasReservedRoom new

-- a store whose nodes were written
abbrev pub renoded_store : Store → List Node → ℕ → Store
renoded_store store nodes root = record {
  nodes = with_items store.nodes nodes;
  frames = store.frames;
  nexts = store.nexts;
  sizes = store.sizes;
  free = store.free;
  root = root;
  room = store.room;
}

pub renoded : (store : Store) (nodes : List Node) (root : ℕ) → length nodes ≡ length store.nodes.items → HasReservedRoom store → IsRenoded store (renoded_store store nodes root) nodes root
renoded store nodes root long room = record {
  nodes_are = written store.nodes.len nodes store.nodes.items (long ∙ sym store.nodes.ok.0) (sym store.nodes.ok.0);
  root_is = refl;
  frames = refl;
  nexts = refl;
  sizes = refl;
  same_room = refl;
  room = record { nodes = room.nodes; frames = room.frames; nexts = room.nexts; sizes = room.sizes; free = room.free };
}

pub unchanged : (store : Store) (nodes : List Node) → nodes ≡ store.nodes.items → HasReservedRoom store → IsRenoded store (renoded_store store nodes store.root) store.nodes.items store.root
unchanged store nodes same room = subst (λ (new : List Node). IsRenoded store (renoded_store store nodes store.root) new store.root) same (renoded store nodes store.root (ap length same) room)

-- the same nodes
module _ (old new : Store) (is : IsRenoded old new old.nodes.items old.root) where
  same-tree : tree_in new ≡ tree_in old
  same-tree = rw (is.nodes_are, is.root_is) refl

  pub same-heads : heads_in new ≡ heads_in old
  same-heads = ap in_order same-tree

  pub same-chains : chains_in new ≡ chains_in old
  same-chains = rw (is.nodes_are, is.root_is, is.frames, is.nexts, is.sizes) refl

  pub same-whole : (free : List ℕ) → IsWholeStore old free → IsWholeStore new free
  same-whole free whole = record {
    holds = rw (is.nodes_are, is.root_is) whole.holds;
    even = rw (is.nodes_are, is.root_is) whole.even;
    hung = rw (is.nodes_are, is.root_is, is.frames, is.nexts, is.sizes) whole.hung;
    few = rw (is.nodes_are, is.same_room) whole.few;
    low = rw is.same_room whole.low;
    room = is.room;
  }

  pub same-head : (at : ℕ) → IsHead old at → IsHead new at
  same-head at head = record { earlier = head.earlier; later = head.later; is = same-heads ∙ head.is }

-- another tree, of slots that were there
module _ (old new : Store) (nodes : List Node) (root : ℕ) (is : IsRenoded old new nodes root) (t w : Tree) (hung : IsHung old.nodes.items nodes root t w) where
  other-tree : tree_in new ≡ t
  other-tree = rw (is.nodes_are, is.root_is) (read-tree nodes root t hung.holds)

  pub other-heads : heads_in new ≡ in_order t
  other-heads = ap in_order other-tree

  pub other-whole : (was free : List ℕ) → IsWholeStore old was → IsEven t → AreHung old.frames.items old.nexts.items old.sizes.items (in_order t) free (length old.nodes.items) → IsWholeStore new free
  other-whole was free whole even hangs =
      let size = hung.kept.size in
      let few = whole.few in
      let long = ap length is.nodes_are in
      let same = is.same_room in
      record {
        holds = subst (λ (t : Tree). Holds new.nodes.items new.root t) (sym other-tree) (rw (is.nodes_are, is.root_is) hung.holds);
        even = subst IsEven (sym other-tree) even;
        hung = rw (other-heads, is.nodes_are, is.frames, is.nexts, is.sizes, size) hangs;
        few = omega (arith, size, few, long, same);
        low = let low = whole.low in omega (arith, low, same);
        room = is.room;
      }

-- a group alone
pub hanging-alone : (nexts sizes : List ℕ) (at : ℕ) → slice_index_or sizes at 0 ≡ 1 → hanging nexts sizes at ≡ at ∷ []
unfolding walk
hanging-alone nexts sizes at e = rw e refl

-- a head comes between two
module _ (frames nexts sizes earlier later free : List ℕ) (new bound : ℕ) (alone : slice_index_or sizes new 0 ≡ 1) where
  occurrences_of-alone : (i : ℕ) → occurrences_of i (used nexts sizes (earlier ++ new ∷ later)) ≡ occurrences_of i (used nexts sizes (earlier ++ later)) + here i new
  occurrences_of-alone i =
      let a = occurrences_of-cut i nexts sizes earlier new later in
      let b = occurrences_of-both i nexts sizes earlier later in
      let c = ap (occurrences_of i) (hanging-alone nexts sizes new alone) in
      let d = occurrences_of-cons i new [] in
      omega (arith, a, b, c, d)

  length-alone : length (used nexts sizes (earlier ++ new ∷ later)) ≡ length (used nexts sizes (earlier ++ later)) + 1
  length-alone = let a = length-cut nexts sizes earlier new later in let b = length-both nexts sizes earlier later in omega (arith, a, b, alone)

  pub head-in : AreHung frames nexts sizes (earlier ++ later) (new ∷ free) bound → AreHung frames nexts sizes (earlier ++ new ∷ later) free bound
  head-in hung =
      let P : ℕ → Type 0 = λ at. 1 ≤ slice_index_or sizes at 0 in
      record {
        filled = All-append P earlier (new ∷ later) (all-front P earlier later hung.filled) (All-cons P new later (omega (arith, alone)) (all-back P earlier later hung.filled));
        shared = shared-again (used nexts sizes (earlier ++ later)) (new ∷ free) (used nexts sizes (earlier ++ new ∷ later)) free bound hung.shared
            (λ i. let a = occurrences_of-alone i in let b = occurrences_of-cons i new free in omega (arith, a, b))
            (let a = length-alone in omega (arith, a));
        framed = hung.framed;
        linked = hung.linked;
        sized = hung.sized;
      }

  pub head-out : AreHung frames nexts sizes (earlier ++ new ∷ later) free bound → AreHung frames nexts sizes (earlier ++ later) (new ∷ free) bound
  head-out hung =
      let P : ℕ → Type 0 = λ at. 1 ≤ slice_index_or sizes at 0 in
      record {
        filled = All-append P earlier later (all-front P earlier (new ∷ later) hung.filled) (All-tail P new later (all-back P earlier (new ∷ later) hung.filled));
        shared = shared-again (used nexts sizes (earlier ++ new ∷ later)) free (used nexts sizes (earlier ++ later)) (new ∷ free) bound hung.shared
            (λ i. let a = occurrences_of-alone i in let b = occurrences_of-cons i new free in omega (arith, a, b))
            (let a = length-alone in omega (arith, a));
        framed = hung.framed;
        linked = hung.linked;
        sized = hung.sized;
      }

-- an element between two lists
pub insert-between : (g : ℕ → List ℕ) (earlier : List ℕ) (new : ℕ) (later : List ℕ) → map g (earlier ++ new ∷ later) ≡ insert (map g (earlier ++ later)) (length earlier) (g new)
insert-between g earlier new later =
    let none : length earlier - length earlier ≡ 0 = omega arith in
    map-append g earlier (new ∷ later)
    ∙ ap (λ (n : ℕ). map g earlier ++ insert (map g later) n (g new)) (sym none)
    ∙ sym (insert-append_right (map g earlier) (map g later) (length earlier) (length earlier) (g new) (length-map earlier g) (omega arith))
    ∙ ap (λ l. insert l (length earlier) (g new)) (sym (map-append g earlier later))

pub remove-between : (g : ℕ → List ℕ) (earlier : List ℕ) (out : ℕ) (later : List ℕ) → map g (earlier ++ later) ≡ remove (map g (earlier ++ out ∷ later)) (length earlier)
remove-between g earlier out later =
    let none : length earlier - length earlier ≡ 0 = omega arith in
    map-append g earlier later
    ∙ ap (λ (n : ℕ). map g earlier ++ remove (map g (out ∷ later)) n) (sym none)
    ∙ sym (remove-append_right (map g earlier) (map g (out ∷ later)) (length earlier) (length earlier) (length-map earlier g) (omega arith))
    ∙ ap (λ l. remove l (length earlier)) (sym (map-append g earlier (out ∷ later)))

-- the slots of a tree's nodes stand once
module _ (store : Store) (free : List ℕ) (whole : IsWholeStore store free) where
  tree-occurrences_of : (i : ℕ) (t : Tree) → Rattle.tree_shape.proofs.Times.times i t ≡ occurrences_of i (in_order t)
  unfolding Rattle.tree_shape.proofs.Times.times
  tree-occurrences_of i t = refl

  heads-once : (i : ℕ) → occurrences_of i (heads_in store) + occurrences_of i free ≤ 1
  heads-once i =
      let a = heads-used i store.nexts.items store.sizes.items (heads_in store) whole.hung.filled in
      let b = whole.hung.shared.once i in
      omega (arith, a, b)

  pub tree-once : IsOnce (tree_in store)
  tree-once = times-once (tree_in store) (λ i. let a = tree-occurrences_of i (tree_in store) in let b = heads-once i in omega (arith, a, b))

  pub whole-taking : (pages : List (List ℕ)) → IsSorted pages (chains_in store) → IsTaking store.nodes.items store.frames.items pages store.root (tree_in store)
  whole-taking pages sorted = record {
    shrinks = record { sound = whole-sound store free whole; once = tree-once };
    framed = whole-framed pages store free whole sorted;
  }

pub whole-growing : (store : Store) (slot : ℕ) (free : List ℕ) → IsWholeStore store (slot ∷ free) → (pages : List (List ℕ)) → IsSorted pages (chains_in store)
    → IsGrowing store.nodes.items store.frames.items pages store.root slot (tree_in store)
whole-growing store slot free whole pages sorted =
    let inside = spare-inside store slot free whole in
    let few = whole.few in
    let low = whole.low in
    record {
      sound = whole-sound store (slot ∷ free) whole;
      framed = whole-framed pages store (slot ∷ free) whole sorted;
      once = times-once (fork slot (tree_in store) leaf) (λ i.
          let a = times-fork i slot (tree_in store) leaf in
          let b = times-leaf i in
          let c = tree-occurrences_of store (slot ∷ free) whole i (tree_in store) in
          let d = heads-once store (slot ∷ free) whole i in
          let e = occurrences_of-cons i slot free in
          omega (arith, a, b, c, d, e));
      inside = inside;
      some = λ same. omega (arith, same, inside, few, low);
    }
