-- What hangs at a link, where nodes are read or written.
use Rattle.std.proofs.Common.{◌≡◌, ◌≢◌, ℕ, suc, ◌<◌, ◌==◌, true, false, List, length, max, slice_index_or, slice_set, refl, sym, ap, ◌∙◌, arith}
use Rattle.std.proofs.lemmas.Bool.Decides.{nat_tests}
use Rattle.std.proofs.lemmas.List.{get_or-set_same, get_or-set_other, length-set}
use Rattle.tree_shape.specs.declared.Node.{Node}
use Rattle.tree_shape.specs.Shape.{Tree, leaf, fork, levels, Holds, IsAway, AreApart, IsLink, none, blank, height_at, with_sides}
use Rattle.tree_shape.proofs.Turning.{levels-fork}
use Rattle.tree_shape.proofs.Keeping.{holds-frame}

-- the link of a node leads to it
pub holds-link : (nodes : List Node) (link : ℕ) (t : Tree) → Holds nodes link t → IsLink nodes link
unfolding Holds
holds-link nodes link leaf holds some = absurd (some holds)
holds-link nodes link (fork at l r) holds some = let same = holds.0 in let inside = holds.2 in omega (arith, same, inside)

-- and gives its levels
pub holds-height : (nodes : List Node) (link : ℕ) (t : Tree) → Holds nodes link t → height_at nodes link ≡ levels t
unfolding Holds levels
holds-height nodes link leaf holds = let test : (link == none) ≡ true = grind (arith, nat_tests, holds) in rw test refl
holds-height nodes link (fork at l r) holds =
    let same = holds.0 in
    let some = holds.1 in
    let test : (link == none) ≡ false = grind (arith, nat_tests, same, some) in
    rw test (ap (λ (n : ℕ). (slice_index_or nodes n blank).height) same ∙ holds.3)

-- a tree without a slot is apart from the node that stands there alone
apart-alone : (slot : ℕ) (t : Tree) → IsAway slot t → AreApart t (fork slot leaf leaf)
unfolding IsAway AreApart
apart-alone slot leaf away = tt
apart-alone slot (fork at l r) away = ((λ e. away.0 (sym e), tt, tt), apart-alone slot l away.1, apart-alone slot r away.2)

-- a tree stays where another slot is written
pub holds-kept : (nodes : List Node) (slot : ℕ) (node : Node) (link : ℕ) (t : Tree) → IsAway slot t → Holds nodes link t → Holds (slice_set nodes slot node) link t
unfolding IsAway
holds-kept nodes slot node link t away holds =
    let size = length-set nodes slot node in
    holds-frame nodes (slice_set nodes slot node) (fork slot leaf leaf) link t
    (record { size = omega (arith, size); others = λ other apart. get_or-set_other nodes slot other node blank (λ e. apart.0 (sym e)) })
    (apart-alone slot t away) holds

-- a node between two sides
pub holds-joined : (nodes : List Node) (left at right : ℕ) (l r : Tree) → at < length nodes → at ≢ none → IsAway at l → IsAway at r → Holds nodes left l → Holds nodes right r
    → Holds (slice_set nodes at (with_sides nodes left right)) at (fork at l r)
unfolding Holds
holds-joined nodes left at right l r inside some away other lefts rights =
    let read = get_or-set_same nodes at (with_sides nodes left right) blank inside in
    let size = length-set nodes at (with_sides nodes left right) in
    let height : suc (max (height_at nodes left) (height_at nodes right)) ≡ levels (fork at l r) =
    rw (holds-height nodes left l lefts, holds-height nodes right r rights) (sym (levels-fork at l r)) in
    rw read (
      refl,
      some,
      omega (arith, size, inside),
      height,
      holds-kept nodes at (with_sides nodes left right) left l away lefts,
      holds-kept nodes at (with_sides nodes left right) right r other rights,
    )
