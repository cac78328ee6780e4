-- The shape of a balanced search tree whose nodes stand in a list, each at a slot.
use Rattle.std.specs.Prelude.{◌≡◌, ◌≢◌, ⊤, ℕ, suc, ◌+◌, ◌<◌, ◌≤◌, List, [], ◌∷◌, ◌++◌, length, max, slice_index_or, ◌==◌, if◌then◌else◌}
use Rattle.tree_shape.specs.declared.Node.{Node}

-- a node's slot, and what hangs on its left and on its right
pub data Tree : Type 0 where
  leaf : Tree
  fork : ℕ → Tree → Tree → Tree

unfoldable pub levels : Tree → ℕ
levels leaf = 0
levels (fork at l r) = suc (max (levels l) (levels r))

-- the slots, from left to right
unfoldable pub in_order : Tree → List ℕ
in_order leaf = []
in_order (fork at l r) = in_order l ++ at ∷ in_order r

-- at each node the sides differ by one level at most
unfoldable pub IsEven : Tree → Type 0
IsEven leaf = ⊤
IsEven (fork at l r) = (levels l ≤ levels r + 1) × (levels r ≤ levels l + 1) × IsEven l × IsEven r

-- the link of an empty side
abbrev pub none : ℕ
none = 4294967295

abbrev pub blank : Node
blank = record { left = 0; right = 0; height = 0 }

-- what hangs at a link is the tree, and each node knows its levels
unfoldable pub Holds : List Node → ℕ → Tree → Type 0
Holds nodes link leaf = link ≡ none
Holds nodes link (fork at l r) =
    (link ≡ at) × (at ≢ none) × (at < length nodes) × ((slice_index_or nodes at blank).height ≡ levels (fork at l r))
    × Holds nodes (slice_index_or nodes at blank).left l × Holds nodes (slice_index_or nodes at blank).right r

-- the levels of what hangs at a link, as its node knows them
abbrev pub height_at : List Node → ℕ → ℕ
height_at nodes link = if link == none then 0 else (slice_index_or nodes link blank).height

-- a link leads to a node, or nowhere
abbrev pub IsLink : List Node → ℕ → Type 0
IsLink nodes link = link ≢ none → link < length nodes

-- a node with two sides
abbrev pub with_sides : List Node → ℕ → ℕ → Node
with_sides nodes left right = record { left = left; right = right; height = suc (max (height_at nodes left) (height_at nodes right)) }

-- a slot isn't one of a tree's
unfoldable pub IsAway : ℕ → Tree → Type 0
IsAway slot leaf = ⊤
IsAway slot (fork at l r) = (at ≢ slot) × IsAway slot l × IsAway slot r

-- two trees have no slot in common
unfoldable pub AreApart : Tree → Tree → Type 0
AreApart leaf r = ⊤
AreApart (fork at a b) r = IsAway at r × AreApart a r × AreApart b r

-- each slot stands once in a tree
unfoldable pub IsOnce : Tree → Type 0
IsOnce leaf = ⊤
IsOnce (fork at l r) = IsAway at l × IsAway at r × AreApart l r × IsOnce l × IsOnce r

-- What stands at two links, and the slot of a node to be set above both.
pub record AreSides (nodes : List Node) (left at right : ℕ) (l r : Tree) : Type 0 where
  pub lefts : Holds nodes left l
  pub rights : Holds nodes right r
  pub inside : at < length nodes
  pub some : at ≢ none
  pub once : IsOnce (fork at l r)

-- What stands at two links and the slot between them, where no side has as many levels as a link can give.
pub record AreReady (nodes : List Node) (left at right : ℕ) : Type 0 where
  pub l : Tree
  pub r : Tree
  pub are : AreSides nodes left at right l r
  pub low_left : levels l < none
  pub low_right : levels r < none

-- what a node can be made of
pub record IsJoinable (nodes : List Node) (left at right : ℕ) : Type 0 where
  pub inside : at < length nodes
  pub lefts : IsLink nodes left
  pub rights : IsLink nodes right
  pub low_left : height_at nodes left < none
  pub low_right : height_at nodes right < none

-- only slots of a tree are written, and none comes or goes
pub record IsShapeKept (old new : List Node) (t : Tree) : Type 0 where
  pub size : length new ≡ length old
  pub others : (slot : ℕ) → IsAway slot t → slice_index_or new slot blank ≡ slice_index_or old slot blank

-- what hangs at a link is a tree, where only slots of another were written
pub record IsHung (old new : List Node) (link : ℕ) (t written : Tree) : Type 0 where
  pub holds : Holds new link t
  pub kept : IsShapeKept old new written
