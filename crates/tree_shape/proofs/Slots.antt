-- How often a slot stands in a tree after one was taken out.
use Rattle.std.proofs.Common.{◌≡◌, ℕ, ◌+◌, ◌≤◌, List, ap, arith}
use Rattle.std.specs.List.{sum_by}
use Rattle.std.proofs.lemmas.List.Sums.{sum_by-append, sum_by-cons}
use Rattle.std.specs.declared.cmp.Ordering.{Ordering}
use Rattle.tree_shape.specs.Shape.{Tree, fork, in_order}
use Rattle.tree_shape.specs.Changes.{least, without_least, joined_sides, tree_without}
use Rattle.tree_shape.proofs.Changing.{in_order-least, in_order-joined_sides, IsTaken, gone, kept, tree_without-slots}
use Rattle.tree_shape.proofs.Times.{here, times, times-row}

-- how often a slot stands after one is taken out
pub times-without : (i at : ℕ) (l r : Tree) → here i (least at l) + times i (without_least at l r) ≡ times i (fork at l r)
unfolding times in_order
times-without i at l r =
    let e = ap (λ (xs : List ℕ). sum_by (here i) xs) (in_order-least at l r) in
    let one = sum_by-cons (here i) (least at l) (in_order (without_least at l r)) in
    omega (arith, e, one)

pub times-joined_sides : (i : ℕ) (l r : Tree) → times i (joined_sides l r) ≡ times i l + times i r
unfolding times
times-joined_sides i l r =
    let e = ap (λ (xs : List ℕ). sum_by (here i) xs) (in_order-joined_sides l r) in
    let one = sum_by-append (here i) (in_order l) (in_order r) in
    omega (arith, e, one)

tree_without-list : (order : ℕ → Ordering) (i : ℕ) (old now : List ℕ) → IsTaken order old now → sum_by (here i) now ≤ sum_by (here i) old
tree_without-list order i old now (gone at earlier later equal was is) =
    let one = ap (λ (xs : List ℕ). sum_by (here i) xs) was in
    let two = ap (λ (xs : List ℕ). sum_by (here i) xs) is in
    let three = sum_by-append (here i) earlier later in
    let four = times-row i at earlier later in
    omega (arith, one, two, three, four)
tree_without-list order i old now (kept is) = let two = ap (λ (xs : List ℕ). sum_by (here i) xs) is in omega (arith, two)

pub times-tree_without : (order : ℕ → Ordering) (i : ℕ) (t : Tree) → times i (tree_without order t) ≤ times i t
unfolding times
times-tree_without order i t = tree_without-list order i (in_order t) (in_order (tree_without order t)) (tree_without-slots order t)
