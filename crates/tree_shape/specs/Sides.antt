-- What is the same on the left and on the right is said of a node's far and near side: `true` where the left one is far.
use Rattle.std.specs.Prelude.{ℕ, Bool, true, false, List}
use Rattle.tree_shape.specs.declared.Node.{Node}
use Rattle.tree_shape.specs.Shape.{Tree, AreSides, AreReady, IsJoinable}
use Rattle.tree_shape.specs.Turns.{left_up, right_up}

abbrev pub sided : {A B : Type 0} → Bool → (A → A → B) → A → A → B
sided true make far near = make far near
sided false make far near = make near far

abbrev pub far : Bool → Node → ℕ
far true node = node.left
far false node = node.right

abbrev pub near : Bool → Node → ℕ
near true node = node.right
near false node = node.left

-- the far side comes up
abbrev pub up_by : Bool → ℕ → Tree → Tree → Tree
up_by true at t o = left_up at t o
up_by false at t o = right_up at o t

abbrev pub IsJoinableBy : Bool → List Node → ℕ → ℕ → ℕ → Type 0
IsJoinableBy true nodes x at y = IsJoinable nodes x at y
IsJoinableBy false nodes x at y = IsJoinable nodes y at x

-- two sides, of which the flag says which is the far one
abbrev pub AreSidesBy : Bool → List Node → ℕ → ℕ → ℕ → Tree → Tree → Type 0
AreSidesBy true nodes x at y t u = AreSides nodes x at y t u
AreSidesBy false nodes x at y t u = AreSides nodes y at x u t

abbrev pub AreReadyBy : Bool → List Node → ℕ → ℕ → ℕ → Type 0
AreReadyBy true nodes x at y = AreReady nodes x at y
AreReadyBy false nodes x at y = AreReady nodes y at x
