-- What comes of taking out a content at a node, from what came of it at one side.
use Rattle.std.proofs.Common.{◌≡◌, ◌≢◌, ℕ, List, slice_index_or, Bool, true, false, refl, sym, subst, arith}
use Rattle.std.specs.declared.cmp.Ordering.{Ordering}
use Rattle.std.specs.declared.cmp.Ordering.TheVariants.{Equal}
use Rattle.tree_shape.specs.declared.Node.{Node}
use Rattle.tree_shape.specs.declared.removal.Taken.{Taken}
use Rattle.tree_shape.specs.declared.removal.Removed.{Removed}
use Rattle.tree_shape.specs.declared.removal.Removed.TheVariants.{Nowhere, Stays, Out}
use Rattle.tree_shape.specs.Shape.{Tree, leaf, fork, Holds, IsOnce, IsHung, none, blank}
use Rattle.tree_shape.specs.Turns.{balanced_at}
use Rattle.tree_shape.specs.Changes.{joined_sides, tree_without}
use Rattle.tree_shape.specs.Searches.{IsSearched}
use Rattle.tree_shape.specs.Removals.{IsTaking, AreMerging, IsRemoval}
use Rattle.tree_shape.specs.Sides.{sided, far, near, AreSidesBy, AreReadyBy}
use Rattle.tree_shape.proofs.Changing.{tree_without-shrunk}
use Rattle.tree_shape.proofs.Opening.{with-node, kept-same}
use Rattle.tree_shape.proofs.Standing.{with-sided}
use Rattle.tree_shape.proofs.Times.{times-fork}
use Rattle.tree_shape.proofs.Slots.{times-joined_sides, times-tree_without}
use Rattle.tree_shape.proofs.Keeping.{away-within, kept-after}
use Rattle.tree_shape.proofs.Searching.{toward, found-leaf, found-side, found-here, framed-side}
use Rattle.tree_shape.proofs.Shrinking.{shrinking, shrunk-sides, shrunk-ready, shrunk-hung}

tree_without-side : (s : Bool) (order : ℕ → Ordering) (at : ℕ) (t u : Tree) → order at ≡ toward s → tree_without order (sided s (fork at) t u) ≡ sided s (balanced_at at) (tree_without order t) u
unfolding tree_without
tree_without-side true order at t u e = rw e refl
tree_without-side false order at t u e = rw e refl

tree_without-here : (order : ℕ → Ordering) (at : ℕ) (l r : Tree) → order at ≡ Equal → tree_without order (fork at l r) ≡ joined_sides l r
unfolding tree_without
tree_without-here order at l r e = rw e refl

pub take-none : (nodes : List Node) (frames : List ℕ) (pages : List (List ℕ)) (link : ℕ) (order : ℕ → Ordering) (alone : ℕ → Bool) → link ≡ none → (t : Tree) → IsTaking nodes frames pages link t → IsRemoval nodes nodes order alone t Nowhere
unfolding Holds
take-none nodes frames pages link order alone e leaf is = (found-leaf order, refl)
take-none nodes frames pages link order alone e (fork at l r) is =
    let same = is.shrinks.sound.holds.0 in
    let some = is.shrinks.sound.holds.1 in
    absurd (some (omega (arith, e, same)))

-- a node that is looked at
pub record IsTaker (nodes : List Node) (frames : List ℕ) (pages : List (List ℕ)) (link : ℕ) : Type 0 where
  pub l : Tree
  pub r : Tree
  pub is : IsTaking nodes frames pages link (fork link l r)

pub taker : (nodes : List Node) (frames : List ℕ) (pages : List (List ℕ)) (link : ℕ) → link ≢ none → (t : Tree) → IsTaking nodes frames pages link t → IsTaker nodes frames pages link
taker nodes frames pages link some t is =
    with-node nodes link t (λ (t : Tree). IsTaking nodes frames pages link t → IsTaker nodes frames pages link) is.shrinks.sound.holds some (λ l r held. λ now. record { l = l; r = r; is = now }) is

-- the same, reported by a side
pub record IsTakerBy (s : Bool) (nodes : List Node) (frames : List ℕ) (pages : List (List ℕ)) (link : ℕ) : Type 0 where
  pub t : Tree
  pub u : Tree
  pub is : IsTaking nodes frames pages link (sided s (fork link) t u)

pub taking-searched : (nodes : List Node) (frames : List ℕ) (pages : List (List ℕ)) (link : ℕ) (t : Tree) → IsTaking nodes frames pages link t → IsSearched nodes frames pages link t
taking-searched nodes frames pages link t is = record { holds = is.shrinks.sound.holds; framed = is.framed }

pub taking-side : (s : Bool) (nodes : List Node) (frames : List ℕ) (pages : List (List ℕ)) (link : ℕ) (t u : Tree) → IsTaking nodes frames pages link (sided s (fork link) t u)
    → IsTaking nodes frames pages (far s (slice_index_or nodes link blank)) t
taking-side s nodes frames pages link t u is = record { shrinks = shrinking s nodes link t u is.shrinks; framed = framed-side s frames pages link t u is.framed }

pub taking-both : (nodes : List Node) (frames : List ℕ) (pages : List (List ℕ)) (link : ℕ) (l r : Tree) → IsTaking nodes frames pages link (fork link l r)
    → AreMerging nodes (slice_index_or nodes link blank).left (slice_index_or nodes link blank).right l r
unfolding IsOnce
taking-both nodes frames pages link l r is = record { lefts = shrinking true nodes link l r is.shrinks; rights = shrinking false nodes link r l is.shrinks; apart = is.shrinks.once.2 }

module _ (nodes : List Node) (frames : List ℕ) (pages : List (List ℕ)) (link : ℕ) (order : ℕ → Ordering) (alone : ℕ → Bool) (some : link ≢ none) where
  abbrev node : Node
  node = slice_index_or nodes link blank

  abbrev Answered : ℕ → List Node → Removed → Type 0
  Answered at now e = (t : Tree) → IsTaking nodes frames pages at t → IsRemoval nodes now order alone t e

  by_side : (s : Bool) (now : List Node) (e : Removed) → ((t u : Tree) → IsTaking nodes frames pages link (sided s (fork link) t u) → IsRemoval nodes now order alone (sided s (fork link) t u) e) → Answered link now e
  by_side s now e answered t is =
      with-sided s nodes link t (λ (t : Tree). IsTaking nodes frames pages link t → IsRemoval nodes now order alone t e) is.shrinks.sound.holds some answered is

  pub here-stays : order link ≡ Equal → alone link ≡ false → Answered link nodes (Stays link)
  here-stays equal other = by_side true nodes (Stays link) (λ l r is. (found-here order link l r equal, other, refl))

  pub here-some : order link ≡ Equal → alone link ≡ true → (last : List Node) (result : ℕ) → ((l r : Tree) → AreMerging nodes node.left node.right l r → IsHung nodes last result (joined_sides l r) (joined_sides l r))
      → Answered link last (Out (record { slot = link; root = result }))
  here-some equal is_alone last result merge = by_side true last (Out (record { slot = link; root = result })) (λ l r is.
      let hung = merge l r (taking-both nodes frames pages link l r is) in (
        found-here order link l r equal,
        is_alone,
        subst (λ (t : Tree). IsHung nodes last result t (fork link l r)) (sym (tree_without-here order link l r equal)) (record {
          holds = hung.holds;
          kept = kept-after nodes nodes last (joined_sides l r) (joined_sides l r) (fork link l r) (kept-same nodes (joined_sides l r)) hung.kept
              (λ i. away-within i (fork link l r) (joined_sides l r) (let one = times-joined_sides i l r in let all = times-fork i link l r in omega (arith, one, all)))
              (λ i. away-within i (fork link l r) (joined_sides l r) (let one = times-joined_sides i l r in let all = times-fork i link l r in omega (arith, one, all)));
        }),
      ))

  -- what came of it at one side
  module _ (s : Bool) (mid : List Node) where
    pub side-none : order link ≡ toward s → Answered (far s node) mid Nowhere → Answered link mid Nowhere
    side-none e inner = by_side s mid Nowhere (λ t u is.
        let was = inner t (taking-side s nodes frames pages link t u is) in
        let found_is = found-side s order link t u e in
        (rw found_is was.0, was.1))

    pub side-stays : order link ≡ toward s → (at : ℕ) → Answered (far s node) mid (Stays at) → Answered link mid (Stays at)
    side-stays e at inner = by_side s mid (Stays at) (λ t u is.
        let was = inner t (taking-side s nodes frames pages link t u is) in
        let found_is = found-side s order link t u e in
        (rw found_is was.0, was.1, was.2))

    pub side-ready : (t u : Tree) → IsTaking nodes frames pages link (sided s (fork link) t u) → (out : Taken) → Answered (far s node) mid (Out out) → AreReadyBy s mid out.root link (near s node)
    side-ready t u is out inner =
        let side = taking-side s nodes frames pages link t u is in
        let was = inner t side in
        shrunk-ready s nodes link t u is.shrinks mid out.root (tree_without order t) was.2 (λ i. times-tree_without order i t) (tree_without-shrunk order t side.shrinks.sound.even).most

    pub side-some : order link ≡ toward s → (last : List Node) (out : Taken) (result : ℕ) → Answered (far s node) mid (Out out)
        → ((t u : Tree) → AreSidesBy s mid out.root link (near s node) t u → IsHung mid last result (sided s (balanced_at link) t u) (sided s (fork link) t u)) → Answered link last (Out (record { slot = out.slot; root = result }))
    side-some e last out result inner turn = by_side s last (Out (record { slot = out.slot; root = result })) (λ t u is.
        let side = taking-side s nodes frames pages link t u is in
        let was = inner t side in
        let few = λ (i : ℕ). times-tree_without order i t in
        let low = (tree_without-shrunk order t side.shrinks.sound.even).most in
        let found_is = found-side s order link t u e in (
          rw found_is was.0,
          was.1,
          subst (λ (w : Tree). IsHung nodes last result w (sided s (fork link) t u)) (sym (tree_without-side s order link t u e))
              (shrunk-hung s nodes link t u is.shrinks mid out.root (tree_without order t) was.2 few low last result
              (turn (tree_without order t) u (shrunk-sides s nodes link t u is.shrinks mid out.root (tree_without order t) was.2 few low))),
        ))
