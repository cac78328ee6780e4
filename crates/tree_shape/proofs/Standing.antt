-- What stands at two links and between them, reported of a far and a near side.
use Rattle.std.proofs.Common.{◌≡◌, ◌≢◌, ℕ, ◌+◌, ◌<◌, ◌≤◌, Bool, true, false, List, length, slice_index_or, slice_set, sym, subst, arith}
use Rattle.tree_shape.specs.declared.Node.{Node}
use Rattle.tree_shape.specs.Shape.{Tree, fork, levels, Holds, AreSides, IsShapeKept, none, blank, height_at, with_sides}
use Rattle.tree_shape.proofs.Holding.{holds-height, holds-kept, holds-joined}
use Rattle.tree_shape.specs.Sides.{sided, far, near, IsJoinableBy, AreSidesBy, AreReadyBy}
use Rattle.tree_shape.proofs.Opening.{with-node, height-some, joinable, kept-write}
use Rattle.tree_shape.proofs.Times.{here, times, times-fork, times-away, away-times, times-once, once-times}

-- two sides and the slot between them, whichever is the left one
pub record AreHeld (nodes : List Node) (up at other : ℕ) (t o : Tree) : Type 0 where
  pub held : Holds nodes up t
  pub others : Holds nodes other o
  pub inside : at < length nodes
  pub some : at ≢ none
  pub once : (i : ℕ) → times i t + here i at + times i o ≤ 1

held : {nodes : List Node} {left at right : ℕ} {l r : Tree} → AreSides nodes left at right l r → AreHeld nodes left at right l r
held {nodes} {left} {at} {right} {l} {r} are = record {
  held = are.lefts;
  others = are.rights;
  inside = are.inside;
  some = are.some;
  once = λ i. let most = once-times (fork at l r) are.once i in let sum = times-fork i at l r in omega (arith, most, sum);
}

pub held-by : (s : Bool) {nodes : List Node} {up at other : ℕ} {t o : Tree} → AreSidesBy s nodes up at other t o → AreHeld nodes up at other t o
held-by true are = held are
held-by false are = let is = held are in record {
  held = is.others;
  others = is.held;
  inside = is.inside;
  some = is.some;
  once = λ i. let most = is.once i in omega (arith, most);
}

-- two sides of which the first is higher
pub record IsHigher (nodes : List Node) (up at other : ℕ) : Type 0 where
  pub t : Tree
  pub o : Tree
  pub are : AreHeld nodes up at other t o
  pub low : levels t < none
  pub higher : levels o < levels t

higher-of : {nodes : List Node} {up at other : ℕ} (t o : Tree) → AreHeld nodes up at other t o → levels t < none → height_at nodes other < height_at nodes up → IsHigher nodes up at other
higher-of {nodes} {up} {at} {other} t o are low higher =
    let one = holds-height nodes up t are.held in
    let two = holds-height nodes other o are.others in
    record { t = t; o = o; are = are; low = low; higher = omega (arith, one, two, higher) }

pub higher-by : (s : Bool) {nodes : List Node} {up at other : ℕ} → AreReadyBy s nodes up at other → height_at nodes other < height_at nodes up → IsHigher nodes up at other
higher-by true ready higher = higher-of ready.l ready.r (held-by true ready.are) ready.low_left higher
higher-by false ready higher = higher-of ready.r ready.l (held-by false ready.are) ready.low_right higher

pub times-sided : (s : Bool) (i at : ℕ) (t u : Tree) → times i (sided s (fork at) t u) ≡ times i t + here i at + times i u
times-sided true i at t u = times-fork i at t u
times-sided false i at t u = let e = times-fork i at u t in omega (arith, e)

-- what hangs at a node
pub parts : (s : Bool) (nodes : List Node) (link at : ℕ) (t u : Tree) → Holds nodes link (sided s (fork at) t u)
    → (at ≢ none) × (at < length nodes) × Holds nodes (far s (slice_index_or nodes at blank)) t × Holds nodes (near s (slice_index_or nodes at blank)) u
unfolding Holds
parts true nodes link at t u held = (held.1, held.2, held.4, held.5)
parts false nodes link at t u held = (held.1, held.2, held.5, held.4)

pub with-sided : (s : Bool) (nodes : List Node) (link : ℕ) (t : Tree) (P : Tree → Type 0) → Holds nodes link t → link ≢ none → ((a b : Tree) → P (sided s (fork link) a b)) → P t
with-sided true nodes link t P holds some then = with-node nodes link t P holds some (λ a b held. then a b)
with-sided false nodes link t P holds some then = with-node nodes link t P holds some (λ a b held. then b a)

-- the nodes once a slot is a node between two sides
abbrev pub joined_at : Bool → List Node → ℕ → ℕ → ℕ → List Node
joined_at s nodes x at y = slice_set nodes at (sided s (with_sides nodes) x y)

pub joined : (s : Bool) (nodes : List Node) (x at y : ℕ) (t u : Tree) → at < length nodes → at ≢ none → times at t + times at u ≡ 0 → Holds nodes x t → Holds nodes y u
    → Holds (joined_at s nodes x at y) at (sided s (fork at) t u)
joined true nodes x at y t u inside some nought one two = holds-joined nodes x at y t u inside some (times-away at t (omega (arith, nought))) (times-away at u (omega (arith, nought))) one two
joined false nodes x at y t u inside some nought one two = holds-joined nodes y at x u t inside some (times-away at u (omega (arith, nought))) (times-away at t (omega (arith, nought))) two one

pub stays : (nodes : List Node) (slot : ℕ) (node : Node) (link : ℕ) (t : Tree) → times slot t ≡ 0 → Holds nodes link t → Holds (slice_set nodes slot node) link t
stays nodes slot node link t nought = holds-kept nodes slot node link t (times-away slot t nought)

pub joinable-by : (s : Bool) (nodes : List Node) (x at y : ℕ) (t u : Tree) → at < length nodes → Holds nodes x t → Holds nodes y u → levels t < none → levels u < none → IsJoinableBy s nodes x at y
joinable-by true nodes x at y t u inside one two low other = joinable nodes x at y t u inside one two low other
joinable-by false nodes x at y t u inside one two low other = joinable nodes y at x u t inside two one other low

-- a slot is written that stands in the tree
pub wrote : (old new : List Node) (t : Tree) (slot : ℕ) (node : Node) → 1 ≤ times slot t → IsShapeKept old new t → IsShapeKept old (slice_set new slot node) t
wrote old new t slot node stands kept = kept-write old new t slot node kept (λ other away e.
    let nought = away-times other t away in
    let is : 1 ≤ times other t = subst (λ (n : ℕ). 1 ≤ times n t) (sym e) stands in
    absurd (omega (arith, nought, is)))

-- two sides of which the first is a node, and higher
pub record IsOpened (s : Bool) (nodes : List Node) (up at other : ℕ) : Type 0 where
  pub a : Tree
  pub b : Tree
  pub o : Tree
  pub are : AreHeld nodes up at other (sided s (fork up) a b) o
  pub low : levels (sided s (fork up) a b) < none
  pub higher : levels o < levels (sided s (fork up) a b)

pub opened : (s : Bool) {nodes : List Node} {up at other : ℕ} → IsHigher nodes up at other → IsOpened s nodes up at other
opened s {nodes} {up} {at} {other} is =
    let answered = holds-height nodes up is.t is.are.held in
    let more = is.higher in
    with-sided s nodes up is.t (λ (t : Tree). AreHeld nodes up at other t is.o → levels t < none → levels is.o < levels t → IsOpened s nodes up at other)
    is.are.held (height-some nodes up (omega (arith, answered, more))) (λ a b are low higher. record { a = a; b = b; o = is.o; are = are; low = low; higher = higher })
    is.are is.low is.higher

-- and the near side of that node is one too
pub record IsOpenedTwice (s : Bool) (nodes : List Node) (up at other top : ℕ) : Type 0 where
  pub a : Tree
  pub b : Tree
  pub c : Tree
  pub o : Tree
  pub are : AreHeld nodes up at other (sided s (fork up) a (sided s (fork top) b c)) o
  pub low : levels (sided s (fork up) a (sided s (fork top) b c)) < none
  pub higher : levels o < levels (sided s (fork up) a (sided s (fork top) b c))

pub opened-twice : (s : Bool) {nodes : List Node} {up at other : ℕ} → IsHigher nodes up at other
    → height_at nodes (far s (slice_index_or nodes up blank)) < height_at nodes (near s (slice_index_or nodes up blank)) → IsOpenedTwice s nodes up at other (near s (slice_index_or nodes up blank))
opened-twice s {nodes} {up} {at} {other} high more =
    let is = opened s high in
    let top = near s (slice_index_or nodes up blank) in
    with-sided s nodes top is.b (λ (t : Tree). AreHeld nodes up at other (sided s (fork up) is.a t) is.o → levels (sided s (fork up) is.a t) < none → levels is.o < levels (sided s (fork up) is.a t) → IsOpenedTwice s nodes up at other top)
    (parts s nodes up up is.a is.b is.are.held).3 (height-some nodes top (omega (arith, more)))
    (λ b c are low higher. record { a = is.a; b = b; c = c; o = is.o; are = are; low = low; higher = higher })
    is.are is.low is.higher

-- two sides, reported by the far one
sides : (nodes : List Node) (left at right : ℕ) (l r : Tree) → Holds nodes left l → Holds nodes right r → at < length nodes → at ≢ none → ((i : ℕ) → times i l + here i at + times i r ≤ 1) → AreSides nodes left at right l r
sides nodes left at right l r lefts rights inside some most = record {
  lefts = lefts;
  rights = rights;
  inside = inside;
  some = some;
  once = times-once (fork at l r) (λ i. let sum = times-fork i at l r in let few = most i in omega (arith, sum, few));
}

pub sides-by : (s : Bool) (nodes : List Node) (x at y : ℕ) (t u : Tree) → Holds nodes x t → Holds nodes y u → at < length nodes → at ≢ none → ((i : ℕ) → times i t + here i at + times i u ≤ 1)
    → AreSidesBy s nodes x at y t u
sides-by true nodes x at y t u one two inside some most = sides nodes x at y t u one two inside some most
sides-by false nodes x at y t u one two inside some most = sides nodes y at x u t two one inside some (λ i. let few = most i in omega (arith, few))

pub ready-by : (s : Bool) (nodes : List Node) (x at y : ℕ) (t u : Tree) → AreSidesBy s nodes x at y t u → levels t < none → levels u < none → AreReadyBy s nodes x at y
ready-by true nodes x at y t u are low other = record { l = t; r = u; are = are; low_left = low; low_right = other }
ready-by false nodes x at y t u are low other = record { l = u; r = t; are = are; low_left = other; low_right = low }
