-- Taking a slot out of a tree.
use Rattle.std.specs.Prelude.{◌≡◌, ◌==◌, ◌&&◌, ℕ, Bool, true, false, List, slice_index_or, None, Some}
use Rattle.std.specs.declared.cmp.Ordering.{Ordering}
use Rattle.tree_shape.specs.declared.Node.{Node}
use Rattle.tree_shape.specs.declared.removal.Popped.{Popped}
use Rattle.tree_shape.specs.declared.removal.Removed.{Removed}
use Rattle.tree_shape.specs.declared.removal.Removed.TheVariants.{Nowhere, Stays, Out}
use Rattle.tree_shape.specs.Shape.{Tree, fork, IsOnce, AreApart, IsHung}
use Rattle.tree_shape.specs.Changes.{found, least, without_least, tree_without}
use Rattle.tree_shape.specs.Searches.{AreFramed, IsSearchSound}

-- what hangs at a link has each slot once
pub record IsShrinking (nodes : List Node) (link : ℕ) (t : Tree) : Type 0 where
  pub sound : IsSearchSound nodes link t
  pub once : IsOnce t

-- a content can be looked for, and its slot taken out
pub record IsTaking (nodes : List Node) (frames : List ℕ) (pages : List (List ℕ)) (link : ℕ) (t : Tree) : Type 0 where
  pub shrinks : IsShrinking nodes link t
  pub framed : AreFramed pages frames t

-- two sides whose node is taken out
pub record AreMerging (nodes : List Node) (left right : ℕ) (l r : Tree) : Type 0 where
  pub lefts : IsShrinking nodes left l
  pub rights : IsShrinking nodes right r
  pub apart : AreApart l r

-- the first slot of a node's tree is out of it
abbrev pub IsPopped : List Node → List Node → ℕ → Tree → Tree → Popped → Type 0
IsPopped old now link l r popped = (popped.first ≡ least link l) × IsHung old now popped.root (without_least link l r) (fork link l r)

-- a slot has a frame, and no other
abbrev pub is_alone : List ℕ → List ℕ → ℕ → ℕ → Bool
is_alone frames sizes frame at = (slice_index_or sizes at 0 == 1) && (slice_index_or frames at 0 == frame)

-- no such content was there, or its slot stays, and nothing changed; or its slot is out, as it had the frame alone
abbrev pub IsRemoval : List Node → List Node → (ℕ → Ordering) → (ℕ → Bool) → Tree → Removed → Type 0
IsRemoval old now order alone t Nowhere = (found order t ≡ None) × (now ≡ old)
IsRemoval old now order alone t (Stays at) = (found order t ≡ Some at) × (alone at ≡ false) × (now ≡ old)
IsRemoval old now order alone t (Out out) = (found order t ≡ Some out.slot) × (alone out.slot ≡ true) × IsHung old now out.root (tree_without order t) t
