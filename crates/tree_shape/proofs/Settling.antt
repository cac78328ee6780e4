-- A node is resolved between two sides: which turn is taken, and what hangs in the end.
use Rattle.std.proofs.Common.{◌≡◌, ℕ, ◌+◌, ◌<◌, ◌≤◌, nat_lt, true, false, List, slice_set, refl, sym, subst, arith}
use Rattle.tree_shape.specs.declared.Node.{Node}
use Rattle.tree_shape.specs.Shape.{Tree, fork, levels, Holds, IsAway, IsOnce, AreSides, AreReady, IsJoinable, IsHung, height_at, with_sides}
use Rattle.tree_shape.specs.Turns.{left_up, right_up, balanced_at}
use Rattle.tree_shape.proofs.Holding.{holds-height, holds-joined}
use Rattle.tree_shape.proofs.Changing.{balanced_at-flat}
use Rattle.tree_shape.proofs.Opening.{joinable, kept-write, kept-same}

balanced_at-left : (at : ℕ) (l r : Tree) → levels r + 1 < levels l → balanced_at at l r ≡ left_up at l r
unfolding balanced_at
balanced_at-left at l r more = let test : nat_lt (levels r + 1) (levels l) ≡ true = grind (arith, more) in rw test refl

balanced_at-right : (at : ℕ) (l r : Tree) → levels l + 1 < levels r → balanced_at at l r ≡ right_up at l r
unfolding balanced_at
balanced_at-right at l r more =
    let other : nat_lt (levels r + 1) (levels l) ≡ false = grind (arith, more) in
    let test : nat_lt (levels l + 1) (levels r) ≡ true = grind (arith, more) in
    rw other (rw test refl)

pub ready-joinable : (nodes : List Node) (left at right : ℕ) → AreReady nodes left at right → IsJoinable nodes left at right
ready-joinable nodes left at right ready = joinable nodes left at right ready.l ready.r ready.are.inside ready.are.lefts ready.are.rights ready.low_left ready.low_right

module _ (nodes : List Node) (left at right : ℕ) (l r : Tree) (are : AreSides nodes left at right l r) where
  pub rebalance-left : (new : List Node) (link : ℕ) → height_at nodes right + 1 < height_at nodes left → IsHung nodes new link (left_up at l r) (fork at l r) → IsHung nodes new link (balanced_at at l r) (fork at l r)
  rebalance-left new link more is =
      let one = holds-height nodes left l are.lefts in
      let two = holds-height nodes right r are.rights in
      subst (λ (t : Tree). IsHung nodes new link t (fork at l r)) (sym (balanced_at-left at l r (omega (arith, one, two, more)))) is

  pub rebalance-right : (new : List Node) (link : ℕ) → height_at nodes left + 1 < height_at nodes right → IsHung nodes new link (right_up at l r) (fork at l r) → IsHung nodes new link (balanced_at at l r) (fork at l r)
  rebalance-right new link more is =
      let one = holds-height nodes left l are.lefts in
      let two = holds-height nodes right r are.rights in
      subst (λ (t : Tree). IsHung nodes new link t (fork at l r)) (sym (balanced_at-right at l r (omega (arith, one, two, more)))) is

  pub rebalance-flat : height_at nodes left ≤ height_at nodes right + 1 → height_at nodes right ≤ height_at nodes left + 1 → IsHung nodes (slice_set nodes at (with_sides nodes left right)) at (balanced_at at l r) (fork at l r)
  unfolding IsOnce IsAway
  rebalance-flat few less =
      let one = holds-height nodes left l are.lefts in
      let two = holds-height nodes right r are.rights in
      record {
        holds = subst (λ (t : Tree). Holds (slice_set nodes at (with_sides nodes left right)) at t) (sym (balanced_at-flat at l r (omega (arith, one, two, few)) (omega (arith, one, two, less))))
            (holds-joined nodes left at right l r are.inside are.some are.once.0 are.once.1 are.lefts are.rights);
        kept = kept-write nodes nodes (fork at l r) at (with_sides nodes left right) (kept-same nodes (fork at l r)) (λ slot away e. away.0 (sym e));
      }
