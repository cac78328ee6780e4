-- The far side comes up, and its near side goes below: what can be joined on the way, and what hangs in the end.
use Rattle.std.proofs.Common.{◌≡◌, ◌≢◌, ℕ, ◌+◌, ◌<◌, ◌≤◌, Bool, List, length, slice_index_or, sym, subst, arith}
use Rattle.std.proofs.lemmas.List.{length-set}
use Rattle.tree_shape.specs.declared.Node.{Node}
use Rattle.tree_shape.specs.Shape.{Tree, fork, levels, Holds, IsLink, IsHung, none, blank, height_at}
use Rattle.tree_shape.proofs.Holding.{holds-height, holds-link}
use Rattle.tree_shape.proofs.Opening.{kept-same}
use Rattle.tree_shape.proofs.Times.{here, here-same, times}
use Rattle.tree_shape.specs.Sides.{sided, far, near, up_by, IsJoinableBy}
use Rattle.tree_shape.proofs.Sided.{levels-sided}
use Rattle.tree_shape.proofs.Turning.{up-once}
use Rattle.tree_shape.proofs.Standing.{joined_at, AreHeld, IsHigher, opened, times-sided, parts, with-sided, joined, stays, joinable-by, wrote}

module _ (s : Bool) (nodes : List Node) (up at other : ℕ) where
  abbrev node : Node
  node = slice_index_or nodes up blank

  abbrev below : List Node
  below = joined_at s nodes (near s node) at other

  abbrev all_joined : List Node
  all_joined = joined_at s below (far s node) up at

  module _ (a b o : Tree) (are : AreHeld nodes up at other (sided s (fork up) a b) o) where
    abbrev all : Tree
    all = sided s (fork at) (sided s (fork up) a b) o

    pub own : (up ≢ none) × (up < length nodes) × Holds nodes (far s node) a × Holds nodes (near s node) b
    own = parts s nodes up up a b are.held

    all-once : (i : ℕ) → times i a + here i up + times i b + here i at + times i o ≤ 1
    all-once i = let sum = times-sided s i up a b in let most = are.once i in omega (arith, sum, most)

    goes-below : Holds below at (sided s (fork at) b o)
    goes-below = let most = all-once at in let one = here-same at in joined s nodes (near s node) at other b o are.inside are.some (omega (arith, most, one)) own.3 are.others

    stays-up : Holds below (far s node) a
    stays-up = let most = all-once at in let one = here-same at in stays nodes at _ (far s node) a (omega (arith, most, one)) own.2

    within : up < length below
    within = let size : length below ≡ length nodes = length-set nodes at _ in let inside = own.1 in omega (arith, size, inside)

    turned : Holds all_joined up (sided s (fork up) a (sided s (fork at) b o))
    turned =
        let most = all-once up in
        let one = here-same up in
        let sum = times-sided s up at b o in
        joined s below (far s node) up at a (sided s (fork at) b o) within own.0 (omega (arith, most, one, sum)) stays-up goes-below

    hung : levels b ≤ levels a → IsHung nodes all_joined up (up_by s at (sided s (fork up) a b) o) all
    hung few =
        let whole = λ (i : ℕ). times-sided s i at (sided s (fork up) a b) o in
        let upon = λ (i : ℕ). times-sided s i up a b in record {
          holds = subst (λ (t : Tree). Holds all_joined up t) (sym (up-once s at up a b o few)) turned;
          kept = wrote nodes below all up _ (let e = whole up in let f = upon up in let one = here-same up in omega (arith, e, f, one))
              (wrote nodes nodes all at _ (let e = whole at in let one = here-same at in omega (arith, e, one)) (kept-same nodes all));
        }

  -- the same for whatever comes up
  pub hung-once : up ≢ none → height_at nodes (near s node) ≤ height_at nodes (far s node) → (t o : Tree) → AreHeld nodes up at other t o
      → IsHung nodes all_joined up (up_by s at t o) (sided s (fork at) t o)
  hung-once some few t o are =
      with-sided s nodes up t (λ (t : Tree). AreHeld nodes up at other t o → IsHung nodes all_joined up (up_by s at t o) (sided s (fork at) t o)) are.held some (λ a b sides.
      let is = own a b o sides in
      let one = holds-height nodes (far s node) a is.2 in
      let two = holds-height nodes (near s node) b is.3 in
      hung a b o sides (omega (arith, one, two, few))) are

  -- what is joined, and linked, on the way
  module _ (high : IsHigher nodes up at other) where
    pub once-near : IsLink nodes (near s node)
    once-near = let is = opened s high in holds-link nodes (near s node) is.b (own is.a is.b is.o is.are).3

    pub once-far : IsLink nodes (far s node)
    once-far = let is = opened s high in holds-link nodes (far s node) is.a (own is.a is.b is.o is.are).2

    pub once-first : IsJoinableBy s nodes (near s node) at other
    once-first =
        let is = opened s high in
        let sum = levels-sided s up is.a is.b in
        let low = is.low in
        let more = is.higher in
        joinable-by s nodes (near s node) at other is.b is.o is.are.inside (own is.a is.b is.o is.are).3 is.are.others (omega (arith, sum, low)) (omega (arith, low, more))

    pub once-second : IsJoinableBy s below (far s node) up at
    once-second =
        let is = opened s high in
        let sum = levels-sided s up is.a is.b in
        let inner = levels-sided s at is.b is.o in
        let low = is.low in
        let more = is.higher in
        joinable-by s below (far s node) up at is.a (sided s (fork at) is.b is.o) (within is.a is.b is.o is.are) (stays-up is.a is.b is.o is.are) (goes-below is.a is.b is.o is.are)
        (omega (arith, sum, low)) (omega (arith, sum, inner, low, more))
