-- What is known of two sides where one of them is a node, what can be joined, and what isn't written.
use Rattle.std.proofs.Common.{◌≡◌, ◌≢◌, ℕ, ◌<◌, ◌==◌, true, List, length, slice_set, refl, ◌∙◌, subst, arith}
use Rattle.std.proofs.lemmas.Bool.Decides.{nat_tests}
use Rattle.std.proofs.lemmas.List.{get_or-set_other, length-set}
use Rattle.tree_shape.specs.declared.Node.{Node}
use Rattle.tree_shape.specs.Shape.{Tree, leaf, fork, levels, Holds, IsAway, IsJoinable, IsShapeKept, none, blank, height_at}
use Rattle.tree_shape.proofs.Holding.{holds-link, holds-height}

-- what hangs at a node's link is the node with two sides
pub with-node : (nodes : List Node) (link : ℕ) (t : Tree) (P : Tree → Type 0) → Holds nodes link t → link ≢ none → ((a b : Tree) → Holds nodes link (fork link a b) → P (fork link a b)) → P t
unfolding Holds
with-node nodes link leaf P holds some then = absurd (some holds)
with-node nodes link (fork slot a b) P holds some then =
    subst (λ (at : ℕ). Holds nodes link (fork at a b) → P (fork at a b)) holds.0 (λ held. then a b held) holds

-- nothing hangs where there are no levels
pub height-some : (nodes : List Node) (link : ℕ) → 0 < height_at nodes link → link ≢ none
height-some nodes link high is = let test : (link == none) ≡ true = grind (arith, nat_tests, is) in let low : height_at nodes link ≡ 0 = rw test refl in omega (arith, low, high)

pub joinable : (nodes : List Node) (left at right : ℕ) (l r : Tree) → at < length nodes → Holds nodes left l → Holds nodes right r → levels l < none → levels r < none → IsJoinable nodes left at right
joinable nodes left at right l r inside lefts rights low other =
    let one = holds-height nodes left l lefts in
    let two = holds-height nodes right r rights in
    record { inside = inside; lefts = holds-link nodes left l lefts; rights = holds-link nodes right r rights; low_left = omega (arith, one, low); low_right = omega (arith, two, other) }

-- a slot of the tree is written
pub kept-write : (old new : List Node) (t : Tree) (slot : ℕ) (node : Node) → IsShapeKept old new t → ((other : ℕ) → IsAway other t → other ≢ slot) → IsShapeKept old (slice_set new slot node) t
kept-write old new t slot node kept away =
    let size = length-set new slot node in
    let same = kept.size in
    record { size = omega (arith, size, same); others = λ other apart. let ne : other ≢ slot = away other apart in get_or-set_other new slot other node blank ne ∙ kept.others other apart }

pub kept-same : (nodes : List Node) (t : Tree) → IsShapeKept nodes nodes t
kept-same nodes t = record { size = refl; others = λ other apart. refl }
