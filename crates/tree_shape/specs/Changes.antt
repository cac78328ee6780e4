-- What a tree is after a slot was put in or taken out, where it is looked for from the top down.
use Rattle.std.specs.Prelude.{ℕ, Option, None, Some}
use Rattle.std.specs.declared.cmp.Ordering.{Ordering}
use Rattle.std.specs.declared.cmp.Ordering.TheVariants.{Less, Equal, Greater}
use Rattle.tree_shape.specs.Shape.{Tree, leaf, fork}
use Rattle.tree_shape.specs.Turns.{balanced_at}

abbrev pub by_order : {A : Type 0} → Ordering → A → A → A → A
by_order Less less equal greater = less
by_order Equal less equal greater = equal
by_order Greater less equal greater = greater

-- where an equal content is, if the way down leads to one
unfoldable pub found : (ℕ → Ordering) → Tree → Option ℕ
found order leaf = None
found order (fork at l r) = by_order (order at) (found order r) (Some at) (found order l)

-- a slot that is put in; the order says of each slot how its content stands to the new one, and where it is equal nothing changes
unfoldable pub entered : (ℕ → Ordering) → ℕ → Tree → Tree
entered order new leaf = fork new leaf leaf
entered order new (fork at l r) = by_order (order at) (balanced_at at l (entered order new r)) (fork at l r) (balanced_at at (entered order new l) r)

-- the first slot of a node's tree, by the node and its left side
unfoldable pub least : ℕ → Tree → ℕ
least at leaf = at
least at (fork top l r) = least top l

-- what is left of a node's tree without its first slot
unfoldable pub without_least : ℕ → Tree → Tree → Tree
without_least at leaf r = r
without_least at (fork top a b) r = balanced_at at (without_least top a b) r

-- two sides whose node is taken out
unfoldable pub joined_sides : Tree → Tree → Tree
joined_sides l leaf = l
joined_sides l (fork at a b) = balanced_at (least at a) l (without_least at a b)

-- the slot of a content that is taken out
unfoldable pub tree_without : (ℕ → Ordering) → Tree → Tree
tree_without order leaf = leaf
tree_without order (fork at l r) = by_order (order at) (balanced_at at l (tree_without order r)) (joined_sides l r) (balanced_at at (tree_without order l) r)
