-- What is read at a link where a tree hangs.
use Rattle.std.proofs.Common.{◌≡◌, ℕ, zero, suc, ◌<◌, ◌≤◌, ◌==◌, true, false, List, [], ◌∷◌, ◌++◌, length, slice_index_or, All, refl, arith, length-append}
use Rattle.std.proofs.lemmas.Bool.Decides.{nat_tests}
use Rattle.std.proofs.lemmas.List.Elements.{All-head, All-tail, All-nil, All-cons}
use Rattle.tree_shape.specs.declared.Node.{Node}
use Rattle.tree_shape.specs.Shape.{Tree, leaf, fork, levels, in_order, Holds, height_at, none, blank}
use Rattle.tree_shape.specs.Searches.{AreFramed}
use Rattle.tree_shape.proofs.Holding.{holds-height}
use Rattle.stable_tree.specs.Slots.{tree_within, tree_at}

read-within : (most : ℕ) (nodes : List Node) (link : ℕ) (t : Tree) → levels t ≤ most → Holds nodes link t → tree_within most nodes link ≡ t
unfolding tree_within Holds levels
read-within zero nodes link leaf low holds = refl
read-within (suc most) nodes link leaf low holds = let test : (link == none) ≡ true = grind (arith, nat_tests, holds) in rw test refl
read-within zero nodes link (fork at l r) low holds = absurd (omega (arith, low))
read-within (suc most) nodes link (fork at l r) low holds =
    let same = holds.0 in
    let some = holds.1 in
    let test : (link == none) ≡ false = grind (arith, nat_tests, same, some) in
    let left = read-within most nodes (slice_index_or nodes at blank).left l (omega (arith, low)) holds.4 in
    let right = read-within most nodes (slice_index_or nodes at blank).right r (omega (arith, low)) holds.5 in
    rw test (rw same (rw (left, right) refl))

-- what hangs at a link is what is read there
pub read-tree : (nodes : List Node) (link : ℕ) (t : Tree) → Holds nodes link t → tree_at nodes link ≡ t
read-tree nodes link t holds = let e = holds-height nodes link t holds in read-within (height_at nodes link) nodes link t (omega (arith, e)) holds

-- a tree stays where its nodes do
pub holds-same : (old new : List Node) (link : ℕ) (t : Tree) → length old ≤ length new → ((i : ℕ) → i < length old → slice_index_or new i blank ≡ slice_index_or old i blank) → Holds old link t → Holds new link t
unfolding Holds
holds-same old new link leaf long same holds = holds
holds-same old new link (fork at l r) long same holds =
    let inside = holds.2 in
    let read = same at inside in
    rw read (
      holds.0,
      holds.1,
      omega (arith, long, inside),
      holds.3,
      holds-same old new (slice_index_or old at blank).left l long same holds.4,
      holds-same old new (slice_index_or old at blank).right r long same holds.5,
    )

-- there are no more levels than nodes
pub levels-few : (t : Tree) → levels t ≤ length (in_order t)
unfolding levels in_order
levels-few leaf = omega arith
levels-few (fork at l r) =
    let left = levels-few l in
    let right = levels-few r in
    let long = length-append (in_order l) (at ∷ in_order r) in
    omega (arith, left, right, long)

pub all-front : (P : ℕ → Type 0) (xs ys : List ℕ) → All P (xs ++ ys) → All P xs
all-front P [] ys all = All-nil P
all-front P (x ∷ xs) ys all = All-cons P x xs (All-head P x (xs ++ ys) all) (all-front P xs ys (All-tail P x (xs ++ ys) all))

pub all-back : (P : ℕ → Type 0) (xs ys : List ℕ) → All P (xs ++ ys) → All P ys
all-back P [] ys all = all
all-back P (x ∷ xs) ys all = all-back P xs ys (All-tail P x (xs ++ ys) all)

-- each slot of a tree has a frame, and that frame a page
pub framed-all : (pages : List (List ℕ)) (frames : List ℕ) (t : Tree) → All (λ at. (at < length frames) × (slice_index_or frames at 0 < length pages)) (in_order t) → AreFramed pages frames t
unfolding AreFramed in_order
framed-all pages frames leaf all = tt
framed-all pages frames (fork at l r) all =
    let P : ℕ → Type 0 = λ at. (at < length frames) × (slice_index_or frames at 0 < length pages) in
    let back = all-back P (in_order l) (at ∷ in_order r) all in
    let here = All-head P at (in_order r) back in
    (here.0, here.1, framed-all pages frames l (all-front P (in_order l) (at ∷ in_order r) all), framed-all pages frames r (All-tail P at (in_order r) back))
