-- A look at a node leads to one side, and that side is lower.
use Rattle.std.proofs.Common.{◌≡◌, ◌≢◌, ℕ, ◌<◌, Bool, true, false, List, length, slice_index_or, Option, None, Some, refl, sym, arith}
use Rattle.std.specs.Ordering.{is_eq, is_gt}
use Rattle.std.specs.declared.cmp.Ordering.{Ordering}
use Rattle.std.specs.declared.cmp.Ordering.TheVariants.{Less, Equal, Greater}
use Rattle.tree_shape.specs.declared.Node.{Node}
use Rattle.tree_shape.specs.Shape.{Tree, leaf, fork, Holds, none, blank, height_at}
use Rattle.tree_shape.specs.Changes.{found}
use Rattle.tree_shape.specs.Searches.{AreFramed, IsSearched}
use Rattle.tree_shape.proofs.Holding.{holds-height}
use Rattle.tree_shape.specs.Sides.{sided, far}
use Rattle.tree_shape.proofs.Sided.{levels-sided}
use Rattle.tree_shape.proofs.Opening.{with-node}
use Rattle.tree_shape.proofs.Standing.{parts, with-sided}

pub falls : (s : Bool) (nodes : List Node) (link : ℕ) (t : Tree) → link ≢ none → Holds nodes link t → height_at nodes (far s (slice_index_or nodes link blank)) < height_at nodes link
falls s nodes link t some held =
    with-sided s nodes link t (λ (t : Tree). Holds nodes link t → height_at nodes (far s (slice_index_or nodes link blank)) < height_at nodes link) held some (λ a b. λ held.
    let one = holds-height nodes link (sided s (fork link) a b) held in
    let two = holds-height nodes (far s (slice_index_or nodes link blank)) a (parts s nodes link link a b held).2 in
    let all = levels-sided s link a b in
    omega (arith, one, two, all)) held

module _ (nodes : List Node) (link : ℕ) (l r : Tree) (held : Holds nodes link (fork link l r)) where
  pub node-some : link ≢ none
  unfolding Holds
  node-some = held.1

  pub node-inside : link < length nodes
  unfolding Holds
  node-inside = held.2

pub found-leaf : (order : ℕ → Ordering) → found order leaf ≡ None
unfolding found
found-leaf order = refl

-- how a slot stands to what is on a node's far side
abbrev pub toward : Bool → Ordering
toward true = Greater
toward false = Less

-- a content that isn't equal is looked for on a side
pub equal-order : (o : Ordering) → is_eq o ≡ true → o ≡ Equal
equal-order Less e = absurd (cc)
equal-order Equal e = refl
equal-order Greater e = absurd (cc)

pub side-order : (o : Ordering) → is_eq o ≡ false → o ≡ toward (is_gt o)
side-order Less e = refl
side-order Equal e = absurd (cc)
side-order Greater e = refl

pub found-side : (s : Bool) (order : ℕ → Ordering) (at : ℕ) (t u : Tree) → order at ≡ toward s → found order (sided s (fork at) t u) ≡ found order t
unfolding found
found-side true order at t u e = rw e refl
found-side false order at t u e = rw e refl

pub found-here : (order : ℕ → Ordering) (at : ℕ) (l r : Tree) → order at ≡ Equal → found order (fork at l r) ≡ Some at
unfolding found
found-here order at l r e = rw e refl

-- what can be looked through at a node
pub record IsNode (nodes : List Node) (frames : List ℕ) (pages : List (List ℕ)) (link : ℕ) : Type 0 where
  pub l : Tree
  pub r : Tree
  pub is : IsSearched nodes frames pages link (fork link l r)

pub searched-node : (nodes : List Node) (frames : List ℕ) (pages : List (List ℕ)) (link : ℕ) → link ≢ none → (t : Tree) → IsSearched nodes frames pages link t → IsNode nodes frames pages link
searched-node nodes frames pages link some t is =
    with-node nodes link t (λ (t : Tree). IsSearched nodes frames pages link t → IsNode nodes frames pages link) is.holds some (λ l r held. λ here. record { l = l; r = r; is = here }) is

module _ (nodes : List Node) (frames : List ℕ) (pages : List (List ℕ)) (link : ℕ) (l r : Tree) (is : IsSearched nodes frames pages link (fork link l r)) where
  pub framed-inside : link < length frames
  unfolding AreFramed
  framed-inside = is.framed.0

  pub framed-page : slice_index_or frames link 0 < length pages
  unfolding AreFramed
  framed-page = is.framed.1

pub framed-side : (s : Bool) (frames : List ℕ) (pages : List (List ℕ)) (at : ℕ) (t u : Tree) → AreFramed pages frames (sided s (fork at) t u) → AreFramed pages frames t
unfolding AreFramed
framed-side true frames pages at t u framed = framed.2
framed-side false frames pages at t u framed = framed.3

pub searched-side : (s : Bool) (nodes : List Node) (frames : List ℕ) (pages : List (List ℕ)) (link : ℕ) (t u : Tree) → IsSearched nodes frames pages link (sided s (fork link) t u)
    → IsSearched nodes frames pages (far s (slice_index_or nodes link blank)) t
searched-side s nodes frames pages link t u is = record { holds = (parts s nodes link link t u is.holds).2; framed = framed-side s frames pages link t u is.framed }

-- what is found
module _ (nodes : List Node) (frames : List ℕ) (pages : List (List ℕ)) (link : ℕ) (order : ℕ → Ordering) where
  -- what hangs on a side can be looked through, is lower, and what is found there is found from here on
  pub record LeadsOn (s : Bool) : Type 0 where
    pub side : Tree
    pub is : IsSearched nodes frames pages (far s (slice_index_or nodes link blank)) side
    pub lower : height_at nodes (far s (slice_index_or nodes link blank)) < height_at nodes link
    pub finds : (result : Option ℕ) → ((t : Tree) → IsSearched nodes frames pages (far s (slice_index_or nodes link blank)) t → result ≡ found order t)
        → (t : Tree) → IsSearched nodes frames pages link t → result ≡ found order t

  pub find-none : link ≡ none → (t : Tree) → IsSearched nodes frames pages link t → None ≡ found order t
  unfolding Holds
  find-none e leaf is = sym (found-leaf order)
  find-none e (fork at l r) is = let same = is.holds.0 in let some = is.holds.1 in absurd (some (omega (arith, e, same)))

  pub find-side : (s : Bool) → link ≢ none → order link ≡ toward s → (result : Option ℕ) → ((t : Tree) → IsSearched nodes frames pages (far s (slice_index_or nodes link blank)) t → result ≡ found order t)
      → (t : Tree) → IsSearched nodes frames pages link t → result ≡ found order t
  find-side s some e result inner t is =
      with-sided s nodes link t (λ (t : Tree). IsSearched nodes frames pages link t → result ≡ found order t) is.holds some
      (λ a b. λ here. rw (found-side s order link a b e) (inner a (searched-side s nodes frames pages link a b here))) is

  -- a step down leads on to what hangs there, and says what is found of that
  pub find-on : (s : Bool) → link ≢ none → order link ≡ toward s → (t : Tree) → IsSearched nodes frames pages link t → LeadsOn s
  find-on s some e t is =
      with-sided s nodes link t (λ (t : Tree). IsSearched nodes frames pages link t → LeadsOn s) is.holds some
      (λ a b. λ here. record {
        side = a;
        is = searched-side s nodes frames pages link a b here;
        lower = falls s nodes link (sided s (fork link) a b) some here.holds;
        finds = λ result inner. find-side s some e result inner;
      }) is

  pub find-here : link ≢ none → order link ≡ Equal → (t : Tree) → IsSearched nodes frames pages link t → Some link ≡ found order t
  find-here some equal t is =
      with-node nodes link t (λ (t : Tree). IsSearched nodes frames pages link t → Some link ≡ found order t) is.holds some
      (λ l r held. λ here. sym (found-here order link l r equal)) is
