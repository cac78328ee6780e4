-- What the chains are where a group was put in, by what came of its slot in the tree.
use Rattle.std.proofs.Common.{◌≡◌, ℕ, List, [], ◌∷◌, ◌++◌, length, map, slice_index_or, insert, Some, refl, sym, ap, subst, ◌∙◌}
use Rattle.tree_shape.specs.declared.Node.{Node}
use Rattle.tree_shape.specs.declared.search.Entered.TheVariants.{There, Root}
use Rattle.tree_shape.specs.Shape.{Tree, leaf, fork, IsHung}
use Rattle.tree_shape.specs.Changes.{found, entered}
use Rattle.tree_shape.specs.Searches.{order_to, IsGrowing, IsEnteredAt}
use Rattle.tree_shape.proofs.Changing.{entered-grown}
use Rattle.stable_tree.specs.declared.store.Store.{Store}
use Rattle.stable_tree.specs.Groups.{IsSorted}
use Rattle.stable_tree.specs.Edits.{IsPut, added, lengthened}
use Rattle.stable_tree.specs.Slots.{frames_at, chain_at, AreHung, IsWholeStore, IsHead, IsLengthened, tree_in, heads_in, chains_in}
use Rattle.stable_tree.proofs.Contents.{found-here, missing-here, IsNowhere}
use Rattle.stable_tree.proofs.Entering.{IsRenoded, other-heads, other-whole, renoded_store, renoded, unchanged, whole-growing, same-whole, same-head, same-chains, same-heads, hanging-alone, head-in, insert-between}

-- the slot came into the tree
module _ (pages : List (List ℕ)) (frame : ℕ) (old new : Store) (slot root : ℕ) (nodes : List Node) (whole : IsWholeStore old (slot ∷ old.free.items)) (sorted : IsSorted pages (chains_in old))
    (framed : slice_index_or old.frames.items slot 0 ≡ frame) (alone : slice_index_or old.sizes.items slot 0 ≡ 1) (is : IsRenoded old new nodes root)
    (answered : IsNowhere pages old (slot ∷ old.free.items) whole sorted frame slot)
    (hung : IsHung old.nodes.items nodes root (entered (order_to pages old.frames.items frame) slot (tree_in old)) (fork slot (tree_in old) leaf)) where
  abbrev grown : Tree
  grown = entered (order_to pages old.frames.items frame) slot (tree_in old)

  heads : heads_in new ≡ answered.earlier ++ slot ∷ answered.later
  heads = other-heads old new nodes root is grown (fork slot (tree_in old) leaf) hung ∙ answered.more

  pub put-whole : IsWholeStore new old.free.items
  put-whole =
      other-whole old new nodes root is grown (fork slot (tree_in old) leaf) hung (slot ∷ old.free.items) old.free.items whole
      (entered-grown (order_to pages old.frames.items frame) slot (tree_in old) whole.even).even
      (rw answered.more (head-in old.frames.items old.nexts.items old.sizes.items answered.earlier answered.later old.free.items slot (length old.nodes.items) alone
      (subst (λ (heads : List ℕ). AreHung old.frames.items old.nexts.items old.sizes.items heads (slot ∷ old.free.items) (length old.nodes.items)) answered.is whole.hung)))

  pub put-added : IsPut pages frame (chains_in old) (chains_in new) 0
  put-added =
      added (length answered.earlier) answered.cut answered.absent
      (rw (heads, is.frames, is.nexts, is.sizes)
      (insert-between (chain_at old.frames.items old.nexts.items old.sizes.items) answered.earlier slot answered.later
      ∙ ap (λ chain. insert (map (chain_at old.frames.items old.nexts.items old.sizes.items) (answered.earlier ++ answered.later)) (length answered.earlier) chain)
      (ap (frames_at old.frames.items) (hanging-alone old.nexts.items old.sizes.items slot alone) ∙ ap (λ (f : ℕ). f ∷ []) framed)
      ∙ ap (λ heads. insert (map (chain_at old.frames.items old.nexts.items old.sizes.items) heads) (length answered.earlier) (frame ∷ [])) (sym answered.is)))
      refl

-- the slot came after others
pub put-lengthened : (pages : List (List ℕ)) (frame : ℕ) (old mid new : Store) (slot at groups : ℕ) (whole : IsWholeStore old (slot ∷ old.free.items)) (sorted : IsSorted pages (chains_in old))
    → slice_index_or old.frames.items slot 0 ≡ frame → IsRenoded old mid old.nodes.items old.root
    → found (order_to pages old.frames.items frame) (tree_in old) ≡ Some at
    → ((earlier later : List ℕ) → heads_in mid ≡ earlier ++ at ∷ later → IsLengthened mid new at slot (length earlier) groups)
    → IsPut pages frame (chains_in old) (chains_in new) groups
put-lengthened pages frame old mid new slot at groups whole sorted framed is has more =
    let answered = found-here pages old (slot ∷ old.free.items) whole sorted frame at has in
    let same = same-chains old mid is in
    let longer = more answered.head.earlier answered.head.later (same-heads old mid is ∙ answered.head.is) in
    lengthened (length answered.head.earlier) answered.cut answered.there
    (longer.chains ∙ (rw (same, is.frames, framed) refl))
    (longer.counted ∙ ap (λ chains. length (slice_index_or chains (length answered.head.earlier) [])) same)

-- What is known where an equal content was there: nothing of the nodes changed.
pub record IsThere (pages : List (List ℕ)) (frame : ℕ) (mid : Store) (slot : ℕ) (nodes : List Node) (at : ℕ) : Type 0 where
  pub found_is : found (order_to pages mid.frames.items frame) (tree_in mid) ≡ Some at
  pub same : IsRenoded mid (renoded_store mid nodes mid.root) mid.nodes.items mid.root
  pub whole : IsWholeStore (renoded_store mid nodes mid.root) (slot ∷ mid.free.items)
  pub head : IsHead (renoded_store mid nodes mid.root) at

-- what the tree says of a slot that was put in
module _ {pages : List (List ℕ)} {frame : ℕ} {mid : Store} {slot : ℕ} {nodes : List Node} (whole : IsWholeStore mid (slot ∷ mid.free.items)) (sorted : IsSorted pages (chains_in mid)) (framed : slice_index_or mid.frames.items slot 0 ≡ frame) where
  pub put-there : {at : ℕ} → ((t : Tree) → IsGrowing mid.nodes.items mid.frames.items pages mid.root slot t → IsEnteredAt mid.nodes.items nodes (order_to pages mid.frames.items (slice_index_or mid.frames.items slot 0)) slot t (There at))
      → IsThere pages frame mid slot nodes at
  put-there {at} answered =
      let entry = rw framed at (answered (tree_in mid) (whole-growing mid slot mid.free.items whole pages sorted)) in
      let same = unchanged mid nodes entry.1 whole.room in
      record {
        found_is = entry.0;
        same = same;
        whole = same-whole mid (renoded_store mid nodes mid.root) same (slot ∷ mid.free.items) whole;
        head = same-head mid (renoded_store mid nodes mid.root) same at (found-here pages mid (slot ∷ mid.free.items) whole sorted frame at entry.0).head;
      }

  pub put-new : {root : ℕ} → slice_index_or mid.sizes.items slot 0 ≡ 1
      → ((t : Tree) → IsGrowing mid.nodes.items mid.frames.items pages mid.root slot t → IsEnteredAt mid.nodes.items nodes (order_to pages mid.frames.items (slice_index_or mid.frames.items slot 0)) slot t (Root root))
      → IsWholeStore (renoded_store mid nodes root) mid.free.items × IsPut pages frame (chains_in mid) (chains_in (renoded_store mid nodes root)) 0
  put-new {root} alone answered =
      let entry = rw framed at (answered (tree_in mid) (whole-growing mid slot mid.free.items whole pages sorted)) in
      let new = renoded_store mid nodes root in
      let is = renoded mid nodes root entry.1.kept.size whole.room in
      let nowhere = missing-here pages mid (slot ∷ mid.free.items) whole sorted frame slot entry.0 in
      (put-whole pages frame mid new slot root nodes whole sorted framed alone is nowhere entry.1, put-added pages frame mid new slot root nodes whole sorted framed alone is nowhere entry.1)
