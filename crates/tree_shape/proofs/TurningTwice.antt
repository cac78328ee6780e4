-- The node between comes up, where the near side of the far side is higher: what can be joined on the way, and what hangs in the end.
use Rattle.std.proofs.Common.{◌≡◌, ◌≢◌, ℕ, ◌+◌, ◌<◌, ◌≤◌, Bool, List, length, slice_index_or, sym, subst, arith}
use Rattle.std.proofs.lemmas.List.{length-set}
use Rattle.tree_shape.specs.declared.Node.{Node}
use Rattle.tree_shape.specs.Shape.{Tree, fork, levels, Holds, IsHung, none, blank, height_at}
use Rattle.tree_shape.proofs.Holding.{holds-height}
use Rattle.tree_shape.proofs.Opening.{kept-same, height-some}
use Rattle.tree_shape.proofs.Times.{here, here-same, times}
use Rattle.tree_shape.specs.Sides.{sided, far, near, up_by, IsJoinableBy}
use Rattle.tree_shape.proofs.Sided.{levels-sided}
use Rattle.tree_shape.proofs.Turning.{up-twice}
use Rattle.tree_shape.proofs.Standing.{joined_at, AreHeld, IsHigher, opened-twice, times-sided, parts, with-sided, joined, stays, joinable-by, wrote}

module _ (s : Bool) (nodes : List Node) (up at other : ℕ) where
  abbrev node : Node
  node = slice_index_or nodes up blank

  abbrev top : ℕ
  top = near s node

  abbrev between : Node
  between = slice_index_or nodes top blank

  abbrev first : List Node
  first = joined_at s nodes (far s node) up (far s between)

  abbrev second : List Node
  second = joined_at s first (near s between) at other

  abbrev third : List Node
  third = joined_at s second up top at

  module _ (a b c o : Tree) (are : AreHeld nodes up at other (sided s (fork up) a (sided s (fork top) b c)) o) where
    abbrev all : Tree
    all = sided s (fork at) (sided s (fork up) a (sided s (fork top) b c)) o

    own : (up ≢ none) × (up < length nodes) × Holds nodes (far s node) a × Holds nodes top (sided s (fork top) b c)
    own = parts s nodes up up a (sided s (fork top) b c) are.held

    inner : (top ≢ none) × (top < length nodes) × Holds nodes (far s between) b × Holds nodes (near s between) c
    inner = parts s nodes top top b c own.3

    sum-all : (i : ℕ) → times i all ≡ times i a + here i up + times i b + here i top + times i c + here i at + times i o
    sum-all i =
        let whole = times-sided s i at (sided s (fork up) a (sided s (fork top) b c)) o in
        let sum = times-sided s i up a (sided s (fork top) b c) in
        let under = times-sided s i top b c in
        omega (arith, whole, sum, under)

    all-once : (i : ℕ) → times i a + here i up + times i b + here i top + times i c + here i at + times i o ≤ 1
    all-once i =
        let whole = times-sided s i at (sided s (fork up) a (sided s (fork top) b c)) o in
        let sum = sum-all i in
        let most = are.once i in
        omega (arith, whole, sum, most)

    -- the nodes that go down, and what is written before
    far-written : Holds first up (sided s (fork up) a b)
    far-written = let most = all-once up in let one = here-same up in joined s nodes (far s node) up (far s between) a b own.1 own.0 (omega (arith, most, one)) own.2 inner.2

    near-stays : Holds first (near s between) c
    near-stays = let most = all-once up in let one = here-same up in stays nodes up _ (near s between) c (omega (arith, most, one)) inner.3

    other-stays : Holds first other o
    other-stays = let most = all-once up in let one = here-same up in stays nodes up _ other o (omega (arith, most, one)) are.others

    slot-inside : at < length first
    slot-inside = let size : length first ≡ length nodes = length-set nodes up _ in let inside = are.inside in omega (arith, size, inside)

    far-below : Holds second up (sided s (fork up) a b)
    far-below =
        let most = all-once at in
        let one = here-same at in
        let sum = times-sided s at up a b in
        stays first at _ up (sided s (fork up) a b) (omega (arith, most, one, sum)) far-written

    near-below : Holds second at (sided s (fork at) c o)
    near-below = let most = all-once at in let one = here-same at in joined s first (near s between) at other c o slot-inside are.some (omega (arith, most, one)) near-stays other-stays

    within : top < length second
    within = let size : length first ≡ length nodes = length-set nodes up _ in let same : length second ≡ length first = length-set first at _ in let inside = inner.1 in omega (arith, size, same, inside)

    turned : Holds third top (sided s (fork top) (sided s (fork up) a b) (sided s (fork at) c o))
    turned =
        let most = all-once top in
        let one = here-same top in
        let lefts = times-sided s top up a b in
        let rights = times-sided s top at c o in
        joined s second up top at (sided s (fork up) a b) (sided s (fork at) c o) within inner.0 (omega (arith, most, one, lefts, rights)) far-below near-below

    hung : levels a < levels (sided s (fork top) b c) → IsHung nodes third top (up_by s at (sided s (fork up) a (sided s (fork top) b c)) o) all
    hung more = record {
      holds = subst (λ (t : Tree). Holds third top t) (sym (up-twice s at up top a b c o more)) turned;
      kept = wrote nodes second all top _ (let e = sum-all top in let one = here-same top in omega (arith, e, one))
          (wrote nodes first all at _ (let e = sum-all at in let one = here-same at in omega (arith, e, one))
          (wrote nodes nodes all up _ (let e = sum-all up in let one = here-same up in omega (arith, e, one)) (kept-same nodes all)));
    }

  -- the same for whatever comes up
  abbrev Hung : Tree → Tree → Type 0
  Hung t o = IsHung nodes third top (up_by s at t o) (sided s (fork at) t o)

  pub hung-twice : up ≢ none → height_at nodes (far s node) < height_at nodes top → (t o : Tree) → AreHeld nodes up at other t o
      → IsHung nodes third top (up_by s at t o) (sided s (fork at) t o)
  hung-twice some more t o are =
      with-sided s nodes up t (λ (t : Tree). AreHeld nodes up at other t o → Hung t o) are.held some (λ a x sides.
      let is = parts s nodes up up a x sides.held in
      let one = holds-height nodes (far s node) a is.2 in
      let two = holds-height nodes top x is.3 in
      with-sided s nodes top x (λ (t : Tree). AreHeld nodes up at other (sided s (fork up) a t) o → levels a < levels t → Hung (sided s (fork up) a t) o)
      is.3 (height-some nodes top (omega (arith, more))) (λ b c both. hung a b c o both) sides (omega (arith, one, two, more))) are

  -- what is joined on the way
  module _ (high : IsHigher nodes up at other) (steep : height_at nodes (far s node) < height_at nodes top) where
    pub twice-first : IsJoinableBy s nodes (far s node) up (far s between)
    twice-first =
        let is = opened-twice s high steep in
        let sum = levels-sided s up is.a (sided s (fork top) is.b is.c) in
        let under = levels-sided s top is.b is.c in
        let low = is.low in
        let held = own is.a is.b is.c is.o is.are in
        joinable-by s nodes (far s node) up (far s between) is.a is.b held.1 held.2 (inner is.a is.b is.c is.o is.are).2 (omega (arith, sum, low)) (omega (arith, sum, under, low))

    pub twice-second : IsJoinableBy s first (near s between) at other
    twice-second =
        let is = opened-twice s high steep in
        let sum = levels-sided s up is.a (sided s (fork top) is.b is.c) in
        let under = levels-sided s top is.b is.c in
        let low = is.low in
        let more = is.higher in
        joinable-by s first (near s between) at other is.c is.o (slot-inside is.a is.b is.c is.o is.are) (near-stays is.a is.b is.c is.o is.are) (other-stays is.a is.b is.c is.o is.are)
        (omega (arith, sum, under, low)) (omega (arith, low, more))

    pub twice-third : IsJoinableBy s second up top at
    twice-third =
        let is = opened-twice s high steep in
        let sum = levels-sided s up is.a (sided s (fork top) is.b is.c) in
        let under = levels-sided s top is.b is.c in
        let lefts = levels-sided s up is.a is.b in
        let rights = levels-sided s at is.c is.o in
        let low = is.low in
        let more = is.higher in
        joinable-by s second up top at (sided s (fork up) is.a is.b) (sided s (fork at) is.c is.o) (within is.a is.b is.c is.o is.are) (far-below is.a is.b is.c is.o is.are) (near-below is.a is.b is.c is.o is.are)
        (omega (arith, sum, under, lefts, low)) (omega (arith, sum, under, rights, low, more))
