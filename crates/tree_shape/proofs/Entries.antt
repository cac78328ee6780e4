-- What comes of putting in a slot at a node, from what came of it at one side.
use Rattle.std.proofs.Common.{◌≡◌, ◌≢◌, ℕ, Bool, true, List, slice_index_or, refl}
use Rattle.std.specs.declared.cmp.Ordering.{Ordering}
use Rattle.std.specs.declared.cmp.Ordering.TheVariants.{Equal}
use Rattle.tree_shape.specs.declared.Node.{Node}
use Rattle.tree_shape.specs.declared.search.Entered.{Entered}
use Rattle.tree_shape.specs.declared.search.Entered.TheVariants.{There, Root}
use Rattle.tree_shape.specs.Shape.{Tree, fork, IsHung, none, blank}
use Rattle.tree_shape.specs.Turns.{balanced_at}
use Rattle.tree_shape.specs.Changes.{entered}
use Rattle.tree_shape.specs.Searches.{IsGrowing, IsEnteredAt}
use Rattle.tree_shape.specs.Sides.{sided, far, near, AreSidesBy, AreReadyBy}
use Rattle.tree_shape.proofs.Standing.{with-sided}
use Rattle.tree_shape.proofs.Searching.{toward, found-side, found-here}
use Rattle.tree_shape.proofs.Entering.{growing-side, sides-grown, ready-grown, entry-grown}

module _ (nodes : List Node) (frames : List ℕ) (pages : List (List ℕ)) (link new : ℕ) (order : ℕ → Ordering) (some : link ≢ none) where
  abbrev node : Node
  node = slice_index_or nodes link blank

  abbrev Answered : ℕ → List Node → Entered → Type 0
  Answered at now e = (t : Tree) → IsGrowing nodes frames pages at new t → IsEnteredAt nodes now order new t e

  by_side : (s : Bool) (now : List Node) (e : Entered) → ((t u : Tree) → IsGrowing nodes frames pages link new (sided s (fork link) t u) → IsEnteredAt nodes now order new (sided s (fork link) t u) e) → Answered link now e
  by_side s now e answered t is =
      with-sided s nodes link t (λ (t : Tree). IsGrowing nodes frames pages link new t → IsEnteredAt nodes now order new t e) is.sound.holds some answered is

  pub here-there : order link ≡ Equal → Answered link nodes (There link)
  here-there equal = by_side true nodes (There link) (λ l r is. (found-here order link l r equal, refl))

  -- what came of it at one side
  module _ (s : Bool) (mid : List Node) where
    pub side-there : order link ≡ toward s → (at : ℕ) → Answered (far s node) mid (There at) → Answered link mid (There at)
    side-there e at inner = by_side s mid (There at) (λ t u is.
        let was = inner t (growing-side s nodes frames pages link new t u is) in
        let found_is = found-side s order link t u e in
        (rw found_is was.0, was.1))

    pub side-ready : (t u : Tree) → IsGrowing nodes frames pages link new (sided s (fork link) t u) → (root : ℕ) → Answered (far s node) mid (Root root) → AreReadyBy s mid root link (near s node)
    side-ready t u is root inner = ready-grown s nodes frames pages link new t u is order mid root (inner t (growing-side s nodes frames pages link new t u is)).1

    pub side-root : order link ≡ toward s → (last : List Node) (root result : ℕ) → Answered (far s node) mid (Root root)
        → ((t u : Tree) → AreSidesBy s mid root link (near s node) t u → IsHung mid last result (sided s (balanced_at link) t u) (sided s (fork link) t u)) → Answered link last (Root result)
    side-root e last root result inner turn = by_side s last (Root result) (λ t u is.
        let was = inner t (growing-side s nodes frames pages link new t u is) in
        entry-grown s nodes frames pages link new t u is order mid root was.1 last result e was.0
        (turn (entered order new t) u (sides-grown s nodes frames pages link new t u is order mid root was.1)))
