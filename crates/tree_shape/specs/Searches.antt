-- Looking for a content from the top down, where each slot has a frame of an arena.
use Rattle.std.specs.Prelude.{◌≡◌, ◌≢◌, ⊤, ℕ, ◌<◌, List, length, slice_index_or, None, Some}
use Rattle.std.specs.declared.cmp.Ordering.{Ordering}
use Rattle.std.specs.Ordering.{nat_cmp}
use Rattle.std.specs.Cmp.Lexicographic.{slice_cmp}
use Rattle.frame_arena.specs.Pages.{page_at}
use Rattle.tree_shape.specs.declared.Node.{Node}
use Rattle.tree_shape.specs.declared.search.Entered.{Entered}
use Rattle.tree_shape.specs.declared.search.Entered.TheVariants.{There, Root}
use Rattle.tree_shape.specs.Shape.{Tree, leaf, fork, levels, IsEven, IsOnce, Holds, IsHung, none}
use Rattle.tree_shape.specs.Changes.{found, entered}

-- how the content of a slot stands to a frame's
abbrev pub order_to : List (List ℕ) → List ℕ → ℕ → ℕ → Ordering
order_to pages frames frame at = slice_cmp nat_cmp (page_at pages (slice_index_or frames at 0)) (page_at pages frame)

-- each slot of a tree has a frame, and that frame a page
unfoldable pub AreFramed : List (List ℕ) → List ℕ → Tree → Type 0
AreFramed pages frames leaf = ⊤
AreFramed pages frames (fork at l r) = (at < length frames) × (slice_index_or frames at 0 < length pages) × AreFramed pages frames l × AreFramed pages frames r

-- what hangs at a link can be looked through
pub record IsSearched (nodes : List Node) (frames : List ℕ) (pages : List (List ℕ)) (link : ℕ) (t : Tree) : Type 0 where
  pub holds : Holds nodes link t
  pub framed : AreFramed pages frames t

-- what hangs at a link is even, has each slot once, and fewer levels than a link can give
pub record IsSearchSound (nodes : List Node) (link : ℕ) (t : Tree) : Type 0 where
  pub holds : Holds nodes link t
  pub even : IsEven t
  pub low : levels t < none

-- a slot can be put into what hangs at a link
pub record IsGrowing (nodes : List Node) (frames : List ℕ) (pages : List (List ℕ)) (link new : ℕ) (t : Tree) : Type 0 where
  pub sound : IsSearchSound nodes link t
  pub framed : AreFramed pages frames t
  pub once : IsOnce (fork new t leaf)
  pub inside : new < length nodes
  pub some : new ≢ none

-- an equal content was there, and nothing changed; or the slot is put in
abbrev pub IsEnteredAt : List Node → List Node → (ℕ → Ordering) → ℕ → Tree → Entered → Type 0
IsEnteredAt old now order new t (There at) = (found order t ≡ Some at) × (now ≡ old)
IsEnteredAt old now order new t (Root root) = (found order t ≡ None) × IsHung old now root (entered order new t) (fork new t leaf)
