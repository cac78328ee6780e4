-- The first slot of a tree is taken out, and two sides are merged by it.
use Rattle.std.proofs.Common.{true, ◌≡◌, ◌≢◌, ℕ, ◌≤◌, List, slice_index_or, refl, sym, ◌∙◌, subst, arith}
use Rattle.tree_shape.specs.declared.Node.{Node}
use Rattle.tree_shape.specs.declared.removal.Popped.{Popped}
use Rattle.tree_shape.specs.Shape.{Tree, leaf, fork, Holds, AreSides, AreReady, IsHung, none, blank}
use Rattle.tree_shape.specs.Turns.{balanced_at}
use Rattle.tree_shape.specs.Changes.{least, without_least}
use Rattle.tree_shape.specs.Removals.{IsShrinking, IsPopped}
use Rattle.tree_shape.proofs.Changing.{without_least-shrunk}
use Rattle.tree_shape.proofs.Opening.{with-node, kept-same}
use Rattle.tree_shape.proofs.Times.{times}
use Rattle.tree_shape.proofs.Slots.{times-without}
use Rattle.tree_shape.proofs.Shrinking.{shrinking, shrunk-sides, shrunk-ready, shrunk-hung}

without-fork : (at top : ℕ) (a b r : Tree) → without_least at (fork top a b) r ≡ balanced_at at (without_least top a b) r
unfolding without_least
without-fork at top a b r = refl

least-fork : (at top : ℕ) (a b : Tree) → least at (fork top a b) ≡ least top a
unfolding least
least-fork at top a b = refl

-- without the first slot a tree has no slot more, and no level more
without-few : (at : ℕ) (l r : Tree) (i : ℕ) → times i (without_least at l r) ≤ times i (fork at l r)
without-few at l r i = let e = times-without i at l r in omega (arith, e)

-- no slot comes before a node with nothing on its left
pub pop-here : (nodes : List Node) (link : ℕ) → (slice_index_or nodes link blank).left ≡ none → (l r : Tree) → IsShrinking nodes link (fork link l r)
    → IsPopped nodes nodes link l r (record { first = link; root = (slice_index_or nodes link blank).right })
unfolding Holds least without_least
pop-here nodes link e leaf r is = (refl, record { holds = is.sound.holds.5; kept = kept-same nodes (fork link leaf r) })
pop-here nodes link e (fork top a b) r is =
    let same = is.sound.holds.4.0 in
    let some = is.sound.holds.4.1 in
    absurd (some (omega (arith, e, same)))

-- a node with a node on its left
pub record IsPopper (nodes : List Node) (link : ℕ) : Type 0 where
  pub a : Tree
  pub b : Tree
  pub r : Tree
  pub is : IsShrinking nodes link (fork link (fork (slice_index_or nodes link blank).left a b) r)

pub popper : (nodes : List Node) (link : ℕ) (l r : Tree) → (slice_index_or nodes link blank).left ≢ none → IsShrinking nodes link (fork link l r) → IsPopper nodes link
unfolding Holds
popper nodes link l r some is =
    with-node nodes (slice_index_or nodes link blank).left l (λ (t : Tree). IsShrinking nodes link (fork link t r) → IsPopper nodes link) is.sound.holds.4 some
    (λ a b held. λ now. record { a = a; b = b; r = r; is = now }) is

module _ (nodes : List Node) (link : ℕ) where
  abbrev node : Node
  node = slice_index_or nodes link blank

  -- below the node
  pub popped-inner : (o : IsPopper nodes link) → IsShrinking nodes node.left (fork node.left o.a o.b)
  popped-inner o = shrinking true nodes link (fork node.left o.a o.b) o.r o.is

  module _ (mid : List Node) (popped : Popped) (inner : (l r : Tree) → IsShrinking nodes node.left (fork node.left l r) → IsPopped nodes mid node.left l r popped) where
    pub popped-ready : IsPopper nodes link → AreReady mid popped.root link node.right
    popped-ready o =
        let is = inner o.a o.b (popped-inner o) in
        let shrunk = without_least-shrunk node.left o.a o.b (popped-inner o).sound.even in
        shrunk-ready true nodes link (fork node.left o.a o.b) o.r o.is mid popped.root (without_least node.left o.a o.b) is.1 (without-few node.left o.a o.b) shrunk.most

    popped-node : (last : List Node) (root : ℕ) → ((l r : Tree) → AreSides mid popped.root link node.right l r → IsHung mid last root (balanced_at link l r) (fork link l r))
        → (a b r : Tree) → IsShrinking nodes link (fork link (fork node.left a b) r) → IsPopped nodes last link (fork node.left a b) r (record { first = popped.first; root = root })
    popped-node last root turn a b r is =
        let under = shrinking true nodes link (fork node.left a b) r is in
        let was = inner a b under in
        let less = (without_least-shrunk node.left a b under.sound.even).most in
        let few = without-few node.left a b in
        let m = without_least node.left a b in
        let sides = shrunk-sides true nodes link (fork node.left a b) r is mid popped.root m was.1 few less in
        let hung = shrunk-hung true nodes link (fork node.left a b) r is mid popped.root m was.1 few less last root (turn m r sides) in
        (was.0 ∙ sym (least-fork link node.left a b), subst (λ (t : Tree). IsHung nodes last root t (fork link (fork node.left a b) r)) (sym (without-fork link node.left a b r)) hung)

    pub popped-all : node.left ≢ none → (last : List Node) (root : ℕ) → ((l r : Tree) → AreSides mid popped.root link node.right l r → IsHung mid last root (balanced_at link l r) (fork link l r))
        → (l r : Tree) → IsShrinking nodes link (fork link l r) → IsPopped nodes last link l r (record { first = popped.first; root = root })
    unfolding Holds
    popped-all some last root turn l r is =
        with-node nodes node.left l (λ (t : Tree). IsShrinking nodes link (fork link t r) → IsPopped nodes last link t r (record { first = popped.first; root = root })) is.sound.holds.4 some
        (λ a b held. λ now. popped-node last root turn a b r now) is
