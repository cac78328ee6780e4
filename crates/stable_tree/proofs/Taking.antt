-- What the chains are where a group was taken out, by what came of its slot in the tree.
use Rattle.std.proofs.Common.{◌≡◌, ◌≢◌, ℕ, ◌-◌, ◌<◌, ◌≤◌, ◌==◌, true, false, List, [], ◌∷◌, ◌++◌, length, map, slice_index_or, slice_set, None, Some, ⊎_elim, refl, sym, ap, subst, ◌∙◌, arith}
use Rattle.std.specs.List.{remove}
use Rattle.std.proofs.lemmas.Bool.{cases_lt}
use Rattle.std.proofs.lemmas.Bool.Decides.{nat_tests}
use Rattle.std.proofs.lemmas.List.{get_or-map, get_or_read}
use Rattle.std.proofs.lemmas.List.Elements.{All-nil}
use Rattle.frame_arena.specs.Pages.{page_at}
use Rattle.tree_shape.specs.declared.Node.{Node}
use Rattle.tree_shape.specs.declared.removal.Taken.{Taken}
use Rattle.tree_shape.specs.declared.removal.Removed.TheVariants.{Nowhere, Stays, Out}
use Rattle.tree_shape.specs.Shape.{Tree, IsHung}
use Rattle.tree_shape.specs.Changes.{found, tree_without}
use Rattle.tree_shape.specs.Searches.{order_to}
use Rattle.tree_shape.specs.Removals.{is_alone, IsTaking, IsRemoval}
use Rattle.tree_shape.proofs.Changing.{tree_without-shrunk}
use Rattle.stable_tree.specs.declared.store.Store.{Store}
use Rattle.stable_tree.specs.Groups.{IsSorted, has}
use Rattle.stable_tree.specs.Edits.{IsTakenOut, nowhere, alone, shortened, IsShortened, missing, shorter}
use Rattle.stable_tree.specs.Slots.{walk, hanging, frames_at, chain_at, AreHung, IsWholeStore, IsHead, IsStanding, tree_in, heads_in, chains_in}
use Rattle.stable_tree.proofs.Sorting.{filter-there, filter-not_there, both}
use Rattle.stable_tree.proofs.Walks.{length-walk}
use Rattle.stable_tree.proofs.Heads.{chain-length, head-facts}
use Rattle.stable_tree.proofs.Contents.{IsHere, found-here, missing-here}
use Rattle.stable_tree.proofs.Entering.{IsRenoded, other-heads, other-whole, renoded_store, renoded, unchanged, whole-taking, same-whole, same-head, same-chains, same-heads, hanging-alone, head-out, remove-between}

alone-says : (frames sizes : List ℕ) (frame at : ℕ) → is_alone frames sizes frame at ≡ true → (slice_index_or sizes at 0 ≡ 1) × (slice_index_or frames at 0 ≡ frame)
alone-says frames sizes frame at e =
    let tests = both (slice_index_or sizes at 0 == 1) (slice_index_or frames at 0 == frame) e in
    let one = tests.0 in
    let two = tests.1 in
    (grind (arith, nat_tests, one), grind (arith, nat_tests, two))

-- a group that isn't alone has another beside it
pub two-groups : (frames nexts sizes : List ℕ) (at frame slot following : ℕ) → is_alone frames sizes frame at ≡ false → 1 ≤ slice_index_or sizes at 0
    → IsStanding (hanging nexts sizes at) frames frame slot following → 2 ≤ slice_index_or sizes at 0
unfolding walk
two-groups frames nexts sizes at frame slot following not_alone some standing =
    ⊎_elim
    (λ (more : 1 < slice_index_or sizes at 0). more)
    (λ (few : slice_index_or sizes at 0 ≤ 1).
    let one : slice_index_or sizes at 0 ≡ 1 = omega (arith, some, few) in
    let long : length (hanging nexts sizes at) ≡ 1 = length-walk (slice_index_or sizes at 0) nexts at ∙ one in
    let inside = standing.inside in
    let first : length (hanging nexts sizes at) - 1 - following ≡ 0 = omega (arith, long) in
    let here : slot ≡ at = standing.slot_is ∙ ap (λ (n : ℕ). slice_index_or (hanging nexts sizes at) n 0) first ∙ ap (λ (slots : List ℕ). slice_index_or slots 0 0) (hanging-alone nexts sizes at one) in
    let same : slice_index_or frames at 0 ≡ frame = ap (λ (n : ℕ). slice_index_or frames n 0) (sym here) ∙ standing.frame_is in
    let a : (slice_index_or sizes at 0 == 1) ≡ true = grind (arith, nat_tests, one) in
    let b : (slice_index_or frames at 0 == frame) ≡ true = grind (arith, nat_tests, same) in
    let c : is_alone frames sizes frame at ≡ true = rw (a, b) refl in
    absurd (differ (sym c ∙ not_alone)))
    (cases_lt 1 (slice_index_or sizes at 0))
  where
    differ : true ≡ false → ⊥
    differ e = cc

-- the frame at a slot of a chain
pub standing-frame : (frames nexts sizes : List ℕ) (at frame slot following : ℕ) → IsStanding (hanging nexts sizes at) frames frame slot following
    → slice_index_or (chain_at frames nexts sizes at) (slice_index_or sizes at 0 - 1 - following) 0 ≡ frame
standing-frame frames nexts sizes at frame slot following standing =
    let long = length-walk (slice_index_or sizes at 0) nexts at in
    let inside = standing.inside in
    let e : length (hanging nexts sizes at) - 1 - following ≡ slice_index_or sizes at 0 - 1 - following = omega (arith, long) in
    get_or-map (λ (slot : ℕ). slice_index_or frames slot 0) (hanging nexts sizes at) (slice_index_or sizes at 0 - 1 - following) 0 0 (omega (arith, inside, long))
    ∙ ap (λ (p : ℕ). slice_index_or frames p 0) (ap (λ (n : ℕ). slice_index_or (hanging nexts sizes at) n 0) (sym e) ∙ sym standing.slot_is)
    ∙ standing.frame_is

-- Where a frame stands among two or more groups.
pub record IsShortening (store : Store) (at frame slot following groups : ℕ) : Type 0 where
  pub groups_are : groups ≡ slice_index_or store.sizes.items at 0
  pub more : 2 ≤ slice_index_or store.sizes.items at 0
  pub inside : following < slice_index_or store.sizes.items at 0
  pub put_in : slot ≡ slice_index_or (hanging store.nexts.items store.sizes.items at) (slice_index_or store.sizes.items at 0 - 1 - following) 0
  pub framed : slice_index_or (chain_at store.frames.items store.nexts.items store.sizes.items at) (slice_index_or store.sizes.items at 0 - 1 - following) 0 ≡ frame

pub groups-read : {store : Store} {at groups : ℕ} → IsWholeStore store store.free.items → IsHead store at → groups ≡ slice_index_or store.sizes.items at groups → groups ≡ slice_index_or store.sizes.items at 0
groups-read {store} {at} {groups} whole head read =
    let facts = head-facts store store.free.items at whole head in
    get_or_read store.sizes.items at groups (omega (arith, facts.inside, facts.sized)) read 0

pub shortening : {store : Store} {at frame slot following groups : ℕ} → IsWholeStore store store.free.items → IsHead store at → is_alone store.frames.items store.sizes.items frame at ≡ false
    → groups ≡ slice_index_or store.sizes.items at groups → IsStanding (walk groups store.nexts.items at) store.frames.items frame slot following → IsShortening store at frame slot following groups
shortening {store} {at} {frame} {slot} {following} {groups} whole head shared read stands =
    let facts = head-facts store store.free.items at whole head in
    let groups_are = groups-read whole head read in
    let standing = rw groups_are at stands in
    let long = length-walk (slice_index_or store.sizes.items at 0) store.nexts.items at in
    let inside = standing.inside in
    let e : length (hanging store.nexts.items store.sizes.items at) - 1 - following ≡ slice_index_or store.sizes.items at 0 - 1 - following = omega (arith, long) in
    record {
      groups_are = groups_are;
      more = two-groups store.frames.items store.nexts.items store.sizes.items at frame slot following shared facts.some standing;
      inside = omega (arith, inside, long);
      put_in = standing.slot_is ∙ ap (λ (n : ℕ). slice_index_or (hanging store.nexts.items store.sizes.items at) n 0) e;
      framed = standing-frame store.frames.items store.nexts.items store.sizes.items at frame slot following standing;
    }

-- no such content
pub take-nowhere : (pages : List (List ℕ)) (frame : ℕ) (old new : Store) (whole : IsWholeStore old old.free.items) (sorted : IsSorted pages (chains_in old)) → IsRenoded old new old.nodes.items old.root
    → found (order_to pages old.frames.items frame) (tree_in old) ≡ None → IsTakenOut pages frame (chains_in old) (chains_in new) 0
take-nowhere pages frame old new whole sorted is lacks =
    let answered = missing-here pages old old.free.items whole sorted frame 0 lacks in
    let none = filter-not_there pages (page_at pages frame) (chains_in old) (length answered.earlier) sorted answered.cut answered.absent in
    nowhere (rw none (All-nil (λ g. g ≢ frame))) (same-chains old new is) refl

-- one of several groups, or none of them
pub take-stays : (pages : List (List ℕ)) (frame : ℕ) (old mid new : Store) (at before : ℕ) (whole : IsWholeStore old old.free.items) (sorted : IsSorted pages (chains_in old)) → IsRenoded old mid old.nodes.items old.root
    → found (order_to pages old.frames.items frame) (tree_in old) ≡ Some at → IsShortened mid new at frame before → IsTakenOut pages frame (chains_in old) (chains_in new) before
take-stays pages frame old mid new at before whole sorted is has (missing others same none) =
    let answered = found-here pages old old.free.items whole sorted frame at has in
    let all = filter-there pages (page_at pages frame) (chains_in old) (length answered.head.earlier) sorted answered.cut answered.there ∙ answered.chain in
    nowhere (rw all (rw (is.frames, is.nexts, is.sizes) at others)) (same ∙ same-chains old mid is) none
take-stays pages frame old mid new at before whole sorted is has (shorter j inside there two without counted) =
    let answered = found-here pages old old.free.items whole sorted frame at has in
    let same = same-chains old mid is in
    let size : length (slice_index_or (chains_in old) (length answered.head.earlier) []) ≡ slice_index_or old.sizes.items at 0 = ap length answered.chain ∙ chain-length old.frames.items old.nexts.items old.sizes.items at in
    let sizes = ap (λ (xs : List ℕ). slice_index_or xs at 0) is.sizes in
    shortened (length answered.head.earlier) j answered.inside
    (omega (arith, inside, size, sizes))
    (ap (λ chain. slice_index_or chain j 0) answered.chain ∙ (rw (is.frames, is.nexts, is.sizes) at there))
    (omega (arith, two, size, sizes))
    (without answered.head.earlier answered.head.later (same-heads old mid is ∙ answered.head.is) ∙ ap (λ chains. slice_set chains (length answered.head.earlier) (remove (slice_index_or chains (length answered.head.earlier) []) j)) same)
    (omega (arith, counted, size, sizes))

-- a group alone
module _ (pages : List (List ℕ)) (frame : ℕ) (old new : Store) (slot root : ℕ) (nodes : List Node) (whole : IsWholeStore old old.free.items) (sorted : IsSorted pages (chains_in old))
    (is : IsRenoded old new nodes root) (answered : IsHere pages old old.free.items whole sorted frame slot)
    (single : is_alone old.frames.items old.sizes.items frame slot ≡ true)
    (hung : IsHung old.nodes.items nodes root (tree_without (order_to pages old.frames.items frame) (tree_in old)) (tree_in old)) where
  abbrev left : Tree
  left = tree_without (order_to pages old.frames.items frame) (tree_in old)

  heads : heads_in new ≡ answered.head.earlier ++ answered.head.later
  heads = other-heads old new nodes root is left (tree_in old) hung ∙ answered.less

  one : slice_index_or old.sizes.items slot 0 ≡ 1
  one = (alone-says old.frames.items old.sizes.items frame slot single).0

  pub out-whole : IsWholeStore new (slot ∷ old.free.items)
  out-whole =
      other-whole old new nodes root is left (tree_in old) hung old.free.items (slot ∷ old.free.items) whole
      (tree_without-shrunk (order_to pages old.frames.items frame) (tree_in old) whole.even).even
      (rw answered.less (head-out old.frames.items old.nexts.items old.sizes.items answered.head.earlier answered.head.later old.free.items slot (length old.nodes.items) one
      (subst (λ (heads : List ℕ). AreHung old.frames.items old.nexts.items old.sizes.items heads old.free.items (length old.nodes.items)) answered.head.is whole.hung)))

  pub out-chains : (last : List (List ℕ)) → last ≡ chains_in new → IsTakenOut pages frame (chains_in old) last 1
  out-chains last e =
      let chain : slice_index_or (chains_in old) (length answered.head.earlier) [] ≡ frame ∷ [] =
      answered.chain ∙ ap (frames_at old.frames.items) (hanging-alone old.nexts.items old.sizes.items slot one) ∙ ap (λ (f : ℕ). f ∷ []) (alone-says old.frames.items old.sizes.items frame slot single).1 in
      alone (length answered.head.earlier) answered.inside (ap length chain) (ap (λ chain. slice_index_or chain 0 0) chain)
      (e ∙ (rw (heads, is.frames, is.nexts, is.sizes)
      (remove-between (chain_at old.frames.items old.nexts.items old.sizes.items) answered.head.earlier slot answered.head.later
      ∙ ap (λ heads. remove (map (chain_at old.frames.items old.nexts.items old.sizes.items) heads) (length answered.head.earlier)) (sym answered.head.is))))
      refl

-- What is known where the content has other groups: nothing of the nodes changed.
pub record IsStaying (pages : List (List ℕ)) (frame : ℕ) (old : Store) (nodes : List Node) (at : ℕ) : Type 0 where
  pub found_is : found (order_to pages old.frames.items frame) (tree_in old) ≡ Some at
  pub shared : is_alone old.frames.items old.sizes.items frame at ≡ false
  pub same : IsRenoded old (renoded_store old nodes old.root) old.nodes.items old.root
  pub whole : IsWholeStore (renoded_store old nodes old.root) old.free.items
  pub head : IsHead (renoded_store old nodes old.root) at

-- what the tree says of a content that is taken out
module _ {pages : List (List ℕ)} {frame : ℕ} {old : Store} {nodes : List Node} (whole : IsWholeStore old old.free.items) (sorted : IsSorted pages (chains_in old)) where
  pub out-nowhere : ((t : Tree) → IsTaking old.nodes.items old.frames.items pages old.root t → IsRemoval old.nodes.items nodes (order_to pages old.frames.items frame) (is_alone old.frames.items old.sizes.items frame) t Nowhere)
      → IsWholeStore (renoded_store old nodes old.root) old.free.items × IsTakenOut pages frame (chains_in old) (chains_in (renoded_store old nodes old.root)) 0
  out-nowhere answered =
      let out = answered (tree_in old) (whole-taking old old.free.items whole pages sorted) in
      let same = unchanged old nodes out.1 whole.room in
      (same-whole old (renoded_store old nodes old.root) same old.free.items whole, take-nowhere pages frame old (renoded_store old nodes old.root) whole sorted same out.0)

  pub out-stays : {at : ℕ} → ((t : Tree) → IsTaking old.nodes.items old.frames.items pages old.root t → IsRemoval old.nodes.items nodes (order_to pages old.frames.items frame) (is_alone old.frames.items old.sizes.items frame) t (Stays at))
      → IsStaying pages frame old nodes at
  out-stays {at} answered =
      let out = answered (tree_in old) (whole-taking old old.free.items whole pages sorted) in
      let same = unchanged old nodes out.2 whole.room in
      record {
        found_is = out.0;
        shared = out.1;
        same = same;
        whole = same-whole old (renoded_store old nodes old.root) same old.free.items whole;
        head = same-head old (renoded_store old nodes old.root) same at (found-here pages old old.free.items whole sorted frame at out.0).head;
      }

  pub out-tree_without : {gone : Taken} → ((t : Tree) → IsTaking old.nodes.items old.frames.items pages old.root t → IsRemoval old.nodes.items nodes (order_to pages old.frames.items frame) (is_alone old.frames.items old.sizes.items frame) t (Out gone))
      → IsWholeStore (renoded_store old nodes gone.root) (gone.slot ∷ old.free.items) × ((last : List (List ℕ)) → last ≡ chains_in (renoded_store old nodes gone.root) → IsTakenOut pages frame (chains_in old) last 1)
  out-tree_without {gone} answered =
      let out = answered (tree_in old) (whole-taking old old.free.items whole pages sorted) in
      let new = renoded_store old nodes gone.root in
      let is = renoded old nodes gone.root out.2.kept.size whole.room in
      let here = found-here pages old old.free.items whole sorted frame gone.slot out.0 in
      (out-whole pages frame old new gone.slot gone.root nodes whole sorted is here out.1 out.2, out-chains pages frame old new gone.slot gone.root nodes whole sorted is here out.1 out.2)
