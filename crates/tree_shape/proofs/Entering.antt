-- A slot is put in at a node: what may be resolved then, and what hangs in the end.
use Rattle.std.proofs.Common.{◌≡◌, ◌≢◌, ℕ, ◌+◌, ◌<◌, ◌≤◌, List, length, slice_index_or, slice_set, None, refl, sym, arith, Bool, true, false}
use Rattle.std.specs.declared.cmp.Ordering.{Ordering}
use Rattle.tree_shape.specs.declared.Node.{Node}
use Rattle.tree_shape.specs.declared.search.Entered.TheVariants.{Root}
use Rattle.tree_shape.specs.Shape.{Tree, leaf, fork, Holds, IsAway, IsJoinable, IsHung, none, blank, with_sides}
use Rattle.tree_shape.specs.Turns.{balanced_at}
use Rattle.tree_shape.specs.Changes.{found, entered}
use Rattle.tree_shape.specs.Searches.{IsSearched, IsGrowing, IsEnteredAt}
use Rattle.tree_shape.proofs.Holding.{holds-joined}
use Rattle.tree_shape.specs.Sides.{sided, far, near, AreSidesBy, AreReadyBy}
use Rattle.tree_shape.proofs.Sided.{levels-sided}
use Rattle.tree_shape.proofs.Turning.{levels-none, even-sided}
use Rattle.tree_shape.proofs.Changing.{entered-grown}
use Rattle.tree_shape.proofs.Opening.{with-node, joinable, kept-write, kept-same}
use Rattle.tree_shape.proofs.Times.{here, times, times-leaf, times-fork, times-once, once-times, times-apart, times-entered}
use Rattle.tree_shape.proofs.Keeping.{holds-frame, away-within, kept-after}
use Rattle.tree_shape.proofs.Standing.{times-sided, parts, sides-by, ready-by, with-sided}
use Rattle.tree_shape.proofs.Searching.{toward, found-leaf, found-side, framed-side}

entered-leaf : (order : ℕ → Ordering) (new : ℕ) → entered order new leaf ≡ fork new leaf leaf
unfolding entered
entered-leaf order new = refl

entered-side : (s : Bool) (order : ℕ → Ordering) (new at : ℕ) (t u : Tree) → order at ≡ toward s → entered order new (sided s (fork at) t u) ≡ sided s (balanced_at at) (entered order new t) u
unfolding entered
entered-side true order new at t u e = rw e refl
entered-side false order new at t u e = rw e refl

pub enter-none : (nodes : List Node) (frames : List ℕ) (pages : List (List ℕ)) (link new : ℕ) (order : ℕ → Ordering) → link ≡ none → (t : Tree) → IsGrowing nodes frames pages link new t
    → IsEnteredAt nodes (slice_set nodes new (with_sides nodes none none)) order new t (Root new)
unfolding Holds IsAway
enter-none nodes frames pages link new order e leaf is = (
  found-leaf order,
  record {
    holds = rw (entered-leaf order new) (holds-joined nodes none new none leaf leaf is.inside is.some tt tt refl refl);
    kept = kept-write nodes nodes (fork new leaf leaf) new (with_sides nodes none none) (kept-same nodes (fork new leaf leaf)) (λ slot away same. away.0 (sym same));
  },
)
enter-none nodes frames pages link new order e (fork at l r) is = let same = is.sound.holds.0 in let some = is.sound.holds.1 in absurd (some (omega (arith, e, same)))

-- a node, and the slot that is put in below it
pub record IsGrower (nodes : List Node) (frames : List ℕ) (pages : List (List ℕ)) (link new : ℕ) : Type 0 where
  pub l : Tree
  pub r : Tree
  pub is : IsGrowing nodes frames pages link new (fork link l r)

pub grower : (nodes : List Node) (frames : List ℕ) (pages : List (List ℕ)) (link new : ℕ) → link ≢ none → (t : Tree) → IsGrowing nodes frames pages link new t → IsGrower nodes frames pages link new
grower nodes frames pages link new some t is =
    with-node nodes link t (λ (t : Tree). IsGrowing nodes frames pages link new t → IsGrower nodes frames pages link new) is.sound.holds some (λ l r held. λ now. record { l = l; r = r; is = now }) is

-- the same, reported by a side
pub record IsGrowerBy (s : Bool) (nodes : List Node) (frames : List ℕ) (pages : List (List ℕ)) (link new : ℕ) : Type 0 where
  pub t : Tree
  pub u : Tree
  pub is : IsGrowing nodes frames pages link new (sided s (fork link) t u)

pub grower-by : (s : Bool) (nodes : List Node) (frames : List ℕ) (pages : List (List ℕ)) (link new : ℕ) → link ≢ none → (t : Tree) → IsGrowing nodes frames pages link new t → IsGrowerBy s nodes frames pages link new
grower-by s nodes frames pages link new some t is =
    with-sided s nodes link t (λ (t : Tree). IsGrowing nodes frames pages link new t → IsGrowerBy s nodes frames pages link new) is.sound.holds some (λ a b. λ now. record { t = a; u = b; is = now }) is

pub growing-searched : (nodes : List Node) (frames : List ℕ) (pages : List (List ℕ)) (link new : ℕ) (t : Tree) → IsGrowing nodes frames pages link new t → IsSearched nodes frames pages link t
growing-searched nodes frames pages link new t is = record { holds = is.sound.holds; framed = is.framed }

module _ (s : Bool) (nodes : List Node) (frames : List ℕ) (pages : List (List ℕ)) (link new : ℕ) (t u : Tree) (is : IsGrowing nodes frames pages link new (sided s (fork link) t u)) where
  abbrev node : Node
  node = slice_index_or nodes link blank

  own : (link ≢ none) × (link < length nodes) × Holds nodes (far s node) t × Holds nodes (near s node) u
  own = parts s nodes link link t u is.sound.holds

  -- how often a slot stands beside the new one
  sum-new : (i : ℕ) (w : Tree) → times i (fork new w leaf) ≡ times i w + here i new
  sum-new i w = let one = times-fork i new w leaf in let nought = times-leaf i in omega (arith, one, nought)

  all-once : (i : ℕ) → here i new + (times i t + here i link + times i u) ≤ 1
  all-once i =
      let one = sum-new i (sided s (fork link) t u) in
      let two = times-sided s i link t u in
      let most = once-times (fork new (sided s (fork link) t u) leaf) is.once i in
      omega (arith, one, two, most)

  pub growing-side : IsGrowing nodes frames pages (far s node) new t
  growing-side =
      let all = levels-sided s link t u in
      let low = is.sound.low in
      record {
        sound = record { holds = own.2; even = (even-sided s link t u is.sound.even).2; low = omega (arith, all, low) };
        framed = framed-side s frames pages link t u is.framed;
        once = times-once (fork new t leaf) (λ i. let one = sum-new i t in let most = all-once i in omega (arith, one, most));
        inside = is.inside;
        some = is.some;
      }

  -- the new slot stands on the far side now
  module _ (order : ℕ → Ordering) (mid : List Node) (root : ℕ) (hung : IsHung nodes mid root (entered order new t) (fork new t leaf)) where
    abbrev grown : Tree
    grown = entered order new t

    pub sides-grown : AreSidesBy s mid root link (near s node) grown u
    sides-grown =
        let size = hung.kept.size in
        let inside = own.1 in
        sides-by s mid root link (near s node) grown u hung.holds
        (holds-frame nodes mid (fork new t leaf) (near s node) u hung.kept (times-apart u (fork new t leaf) (λ i. let one = sum-new i t in let most = all-once i in omega (arith, one, most))) own.3)
        (omega (arith, size, inside)) own.0 (λ i. let more = times-entered order new i t in let most = all-once i in omega (arith, more, most))

    pub ready-grown : AreReadyBy s mid root link (near s node)
    ready-grown =
        let all = levels-sided s link t u in
        let low = is.sound.low in
        let more = (entered-grown order new t (even-sided s link t u is.sound.even).2).most in
        ready-by s mid root link (near s node) grown u sides-grown (omega (arith, all, low, more)) (omega (arith, all, low))

    pub entry-grown : (last : List Node) (result : ℕ) → order link ≡ toward s → found order t ≡ None → IsHung mid last result (sided s (balanced_at link) grown u) (sided s (fork link) grown u)
        → IsEnteredAt nodes last order new (sided s (fork link) t u) (Root result)
    entry-grown last result e lacks turned = (
      (let found_is = found-side s order link t u e in rw found_is lacks),
      record {
        holds = rw (entered-side s order new link t u e) turned.holds;
        kept = kept-after nodes mid last (fork new t leaf) (sided s (fork link) grown u) (fork new (sided s (fork link) t u) leaf) hung.kept turned.kept
            (λ i. away-within i (fork new (sided s (fork link) t u) leaf) (fork new t leaf)
            (let one = sum-new i t in let two = sum-new i (sided s (fork link) t u) in let three = times-sided s i link t u in omega (arith, one, two, three)))
            (λ i. away-within i (fork new (sided s (fork link) t u) leaf) (sided s (fork link) grown u)
            (let one = times-sided s i link grown u in let two = sum-new i (sided s (fork link) t u) in let three = times-sided s i link t u in let more = times-entered order new i t in omega (arith, one, two, three, more)));
      },
    )
