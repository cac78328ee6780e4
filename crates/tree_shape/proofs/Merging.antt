-- Two sides are merged by the first slot of the right one.
use Rattle.std.proofs.Common.{◌≡◌, ◌≢◌, ℕ, ◌+◌, ◌<◌, ◌≤◌, List, length, slice_index_or, refl, sym, ap, subst, arith}
use Rattle.tree_shape.specs.declared.Node.{Node}
use Rattle.tree_shape.specs.declared.removal.Popped.{Popped}
use Rattle.tree_shape.specs.Shape.{Tree, leaf, fork, Holds, AreSides, AreReady, IsHung, none, blank}
use Rattle.tree_shape.specs.Turns.{balanced_at}
use Rattle.tree_shape.specs.Changes.{least, without_least, joined_sides}
use Rattle.tree_shape.specs.Removals.{IsShrinking, AreMerging, IsPopped}
use Rattle.tree_shape.proofs.Changing.{without_least-shrunk}
use Rattle.tree_shape.proofs.Opening.{with-node, kept-same}
use Rattle.tree_shape.proofs.Times.{here, times, times-fork, times-once, apart-times}
use Rattle.tree_shape.proofs.Slots.{times-without, times-joined_sides}
use Rattle.tree_shape.proofs.Keeping.{holds-frame, away-within, kept-after}

joined_sides-leaf : (l : Tree) → joined_sides l leaf ≡ l
unfolding joined_sides
joined_sides-leaf l = refl

joined_sides-fork : (l : Tree) (top : ℕ) (a b : Tree) → joined_sides l (fork top a b) ≡ balanced_at (least top a) l (without_least top a b)
unfolding joined_sides
joined_sides-fork l top a b = refl

-- the first slot is a node's
holds-least : (nodes : List Node) (link at : ℕ) (l r : Tree) → Holds nodes link (fork at l r) → (least at l < length nodes) × (least at l ≢ none)
unfolding Holds least
holds-least nodes link at leaf r holds = (holds.2, holds.1)
holds-least nodes link at (fork top a b) r holds = holds-least nodes (slice_index_or nodes at blank).left top a b holds.4

-- where the right side is empty
pub merge-none : (nodes : List Node) (left right : ℕ) → right ≡ none → (l r : Tree) → AreMerging nodes left right l r → IsHung nodes nodes left (joined_sides l r) (joined_sides l r)
unfolding Holds
merge-none nodes left right e l leaf is = subst (λ (t : Tree). IsHung nodes nodes left t t) (sym (joined_sides-leaf l)) (record { holds = is.lefts.sound.holds; kept = kept-same nodes l })
merge-none nodes left right e l (fork top a b) is =
    let same = is.rights.sound.holds.0 in
    let some = is.rights.sound.holds.1 in
    absurd (some (omega (arith, e, same)))

-- a right side with a node
pub record IsMerger (nodes : List Node) (left right : ℕ) : Type 0 where
  pub l : Tree
  pub a : Tree
  pub b : Tree
  pub are : AreMerging nodes left right l (fork right a b)

pub merger : (nodes : List Node) (left right : ℕ) (l r : Tree) → right ≢ none → AreMerging nodes left right l r → IsMerger nodes left right
merger nodes left right l r some are =
    with-node nodes right r (λ (t : Tree). AreMerging nodes left right l t → IsMerger nodes left right) are.rights.sound.holds some
    (λ a b held. λ now. record { l = l; a = a; b = b; are = now }) are

module _ (nodes mid : List Node) (left right : ℕ) (popped : Popped) (inner : (l r : Tree) → IsShrinking nodes right (fork right l r) → IsPopped nodes mid right l r popped) where
  module _ (l a b : Tree) (are : AreMerging nodes left right l (fork right a b)) where
    abbrev rest : Tree
    rest = without_least right a b

    both-once : (i : ℕ) → times i (fork popped.first l rest) ≤ times i l + times i (fork right a b)
    both-once i =
        let was = inner a b are.rights in
        let same : here i popped.first ≡ here i (least right a) = ap (λ (n : ℕ). here i n) was.0 in
        let one = times-fork i popped.first l rest in
        let two = times-without i right a b in
        omega (arith, same, one, two)

    pub merge-sides : AreSides mid left popped.first popped.root l rest
    merge-sides =
        let was = inner a b are.rights in
        let same = was.0 in
        let size = was.1.kept.size in
        let stands = holds-least nodes right right a b are.rights.sound.holds in
        let inside = stands.0 in
        record {
          lefts = holds-frame nodes mid (fork right a b) left l was.1.kept are.apart are.lefts.sound.holds;
          rights = was.1.holds;
          inside = omega (arith, same, size, inside);
          some = λ e. stands.1 (omega (arith, e, same));
          once = times-once (fork popped.first l rest) (λ i. let one = both-once i in let most = apart-times l (fork right a b) are.apart are.lefts.once are.rights.once i in omega (arith, one, most));
        }

    pub merge-hung : (last : List Node) (result : ℕ) → IsHung mid last result (balanced_at popped.first l rest) (fork popped.first l rest) → IsHung nodes last result (joined_sides l (fork right a b)) (joined_sides l (fork right a b))
    merge-hung last result turned =
        let was = inner a b are.rights in
        let held = subst (λ (n : ℕ). Holds last result (balanced_at n l rest)) was.0 turned.holds in
        record {
          holds = subst (λ (t : Tree). Holds last result t) (sym (joined_sides-fork l right a b)) held;
          kept = kept-after nodes mid last (fork right a b) (fork popped.first l rest) (joined_sides l (fork right a b)) was.1.kept turned.kept
              (λ i. away-within i (joined_sides l (fork right a b)) (fork right a b) (let all = times-joined_sides i l (fork right a b) in omega (arith, all)))
              (λ i. away-within i (joined_sides l (fork right a b)) (fork popped.first l rest) (let all = times-joined_sides i l (fork right a b) in let one = both-once i in omega (arith, all, one)));
        }

  pub merge-ready : IsMerger nodes left right → AreReady mid left popped.first popped.root
  merge-ready o =
      let shrunk = without_least-shrunk right o.a o.b o.are.rights.sound.even in
      let less = shrunk.most in
      let low = o.are.rights.sound.low in
      record { l = o.l; r = without_least right o.a o.b; are = merge-sides o.l o.a o.b o.are; low_left = o.are.lefts.sound.low; low_right = omega (arith, less, low) }

  pub merge-all : right ≢ none → (last : List Node) (result : ℕ) → ((l r : Tree) → AreSides mid left popped.first popped.root l r → IsHung mid last result (balanced_at popped.first l r) (fork popped.first l r))
      → (l r : Tree) → AreMerging nodes left right l r → IsHung nodes last result (joined_sides l r) (joined_sides l r)
  merge-all some last result turn l r are =
      with-node nodes right r (λ (t : Tree). AreMerging nodes left right l t → IsHung nodes last result (joined_sides l t) (joined_sides l t)) are.rights.sound.holds some
      (λ a b held. λ now. merge-hung l a b now last result (turn l (without_least right a b) (merge-sides l a b now))) are
