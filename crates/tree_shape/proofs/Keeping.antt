-- What stays where only the slots of some tree are written.
use Rattle.std.proofs.Common.{ℕ, ◌≤◌, List, slice_index_or, ◌∙◌, arith}
use Rattle.tree_shape.specs.declared.Node.{Node}
use Rattle.tree_shape.specs.Shape.{Tree, leaf, fork, Holds, IsAway, AreApart, IsShapeKept, blank}
use Rattle.tree_shape.proofs.Times.{times, away-times, times-away}

-- a tree that is apart stays
pub holds-frame : (old new : List Node) (w : Tree) (link : ℕ) (t : Tree) → IsShapeKept old new w → AreApart t w → Holds old link t → Holds new link t
unfolding Holds AreApart
holds-frame old new w link leaf kept apart holds = holds
holds-frame old new w link (fork at l r) kept apart holds =
    let read = kept.others at apart.0 in
    let size = kept.size in
    let inside = holds.2 in
    rw read (
      holds.0,
      holds.1,
      omega (arith, size, inside),
      holds.3,
      holds-frame old new w (slice_index_or old at blank).left l kept apart.1 holds.4,
      holds-frame old new w (slice_index_or old at blank).right r kept apart.2 holds.5,
    )

pub away-within : (i : ℕ) (t u : Tree) → times i u ≤ times i t → IsAway i t → IsAway i u
away-within i t u le away = let no = away-times i t away in times-away i u (omega (arith, no, le))

-- two changes, one after the other
pub kept-after : (old mid new : List Node) (v w all : Tree) → IsShapeKept old mid v → IsShapeKept mid new w → ((i : ℕ) → IsAway i all → IsAway i v) → ((i : ℕ) → IsAway i all → IsAway i w) → IsShapeKept old new all
kept-after old mid new v w all first second inner outer =
    let one = first.size in
    let two = second.size in
    record { size = omega (arith, one, two); others = λ slot away. second.others slot (outer slot away) ∙ first.others slot (inner slot away) }
