use Rattle.std.proofs.Common.{◌≡◌, ◌+◌, ◌≤◌, ℕ, Option}
use Rattle.tree_shape.specs.Shape.{Tree, height_at}
use Rattle.tree_shape.specs.Changes.{found}
use Rattle.tree_shape.specs.Searches.{order_to, IsSearched}
use Rattle.tree_shape.proofs.search.find.Given as goal

-- what is found where the way has led is what is found from the first link on
abbrev pub invariant-loop-at : goal.invariant-loop-at
invariant-loop-at l =
    ((t : Tree) × IsSearched l.nodes l.frames l.initial.arena.pages l.at t)
    × ((result : Option ℕ) → ((t : Tree) → IsSearched l.nodes l.frames l.initial.arena.pages l.at t → result ≡ found (order_to l.initial.arena.pages l.frames l.frame) t)
    → (t : Tree) → IsSearched l.nodes l.frames l.initial.arena.pages l.link t → result ≡ found (order_to l.initial.arena.pages l.frames l.frame) t)
    × (l.arena.pages ≡ l.initial.arena.pages)
    × (l.arena.steps + height_at l.nodes l.at ≤ l.initial.arena.steps + height_at l.nodes l.link)

abbrev pub decreases-loop-at : goal.decreases-loop-at
decreases-loop-at l = height_at l.nodes l.at
