-- The contents of a tree's nodes, where the chains that hang at them are sorted.
use Rattle.std.proofs.Common.{◌≡◌, ℕ, zero, suc, ◌-◌, ◌*◌, ◌<◌, ◌≤◌, ◌&&◌, nat_lt, Bool, true, false, List, [], ◌∷◌, ◌++◌, length, slice_index_or, All, None, Some, refl, sym, ap, ◌∙◌, arith, length-append}
use Rattle.std.specs.Str.{bytes_eq}
use Rattle.std.specs.Ordering.{is_lt, is_eq}
use Rattle.std.specs.declared.cmp.Ordering.{Ordering}
use Rattle.std.specs.declared.cmp.Ordering.TheVariants.{Equal, Greater}
use borrow.Author.Tests.{ltb-true, lt-ltb}
use Rattle.std.proofs.lemmas.Map.Text.{is_eq-slice_cmp}
use Rattle.std.proofs.lemmas.List.{get_or-map, length-map, get_or_append_left, get_or-append_right}
use Rattle.std.proofs.lemmas.List.Elements.{All-cons, All-weaker}
use Rattle.frame_arena.specs.Pages.{page_at}
use Rattle.tree_shape.specs.Shape.{in_order, height_at}
use Rattle.std.proofs.Math.Seq.{get_or-append_seam}
use Rattle.tree_shape.specs.Changes.{found, entered, tree_without}
use Rattle.tree_shape.specs.Searches.{order_to, AreFramed, IsSearched, IsSearchSound}
use Rattle.tree_shape.proofs.Order.{IsBefore, IsFollowing, IsAligned, IsBetween, between, entered-between}
use Rattle.tree_shape.proofs.Ascending.{ascending-aligned}
use Rattle.tree_shape.proofs.Leaving.{IsLeaving, leaving, tree_without-leaving}
use Rattle.tree_shape.proofs.Bound.{height-few}
use Rattle.stable_tree.specs.declared.store.Store.{Store}
use Rattle.stable_tree.specs.Digits.{digits}
use Rattle.stable_tree.specs.Groups.{IsSorted, IsCutAt, content, is_there}
use Rattle.stable_tree.specs.Slots.{walk, frames_at, chain_at, used, IsWholeStore, IsHead, tree_in, heads_in, chains_in}
use Rattle.stable_tree.proofs.Digits.{below-digits}
use Rattle.stable_tree.proofs.Sorting.{first-there}
use Rattle.stable_tree.proofs.Walks.{stands}
use Rattle.stable_tree.proofs.Trees.{levels-few, framed-all}
use Rattle.stable_tree.proofs.Hanging.{heads-used, heads-few}
use Rattle.stable_tree.proofs.Numbering.{slot-inside}

first-of : (n : ℕ) (frames nexts : List ℕ) (at : ℕ) → 1 ≤ n → slice_index_or (frames_at frames (walk n nexts at)) 0 0 ≡ slice_index_or frames at 0
unfolding walk
first-of zero frames nexts at some = absurd (omega (arith, some))
first-of (suc n) frames nexts at some = refl

not-less : (o : Ordering) → o ≡ Greater → is_lt o ≡ false
not-less o e = ap is_lt e

not-equal : (o : Ordering) → o ≡ Greater → is_eq o ≡ false
not-equal o e = ap is_eq e

-- an even tree is low
pub whole-sound : (store : Store) (free : List ℕ) → IsWholeStore store free → IsSearchSound store.nodes.items store.root (tree_in store)
whole-sound store free whole =
    let low = levels-few (tree_in store) in
    let few = heads-few store.nexts.items store.sizes.items (heads_in store) whole.hung.filled in
    let all = whole.hung.shared.all in
    let most = whole.few in
    let least = whole.low in
    record { holds = whole.holds; even = whole.even; low = omega (arith, low, few, all, most, least) }

-- a way down is short
pub whole-few : (store : Store) (free : List ℕ) → IsWholeStore store free → height_at store.nodes.items store.root ≤ 2 * digits (length (chains_in store))
whole-few store free whole =
    let same = length-map (heads_in store) (chain_at store.frames.items store.nexts.items store.sizes.items) in
    rw same (height-few store.nodes.items store.root (tree_in store) (digits (length (heads_in store))) whole.holds whole.even (below-digits (length (heads_in store))))

module _ (pages : List (List ℕ)) (store : Store) (free : List ℕ) (whole : IsWholeStore store free) (sorted : IsSorted pages (chains_in store)) where
  abbrev g : ℕ → List ℕ
  g = chain_at store.frames.items store.nexts.items store.sizes.items

  abbrev heads : List ℕ
  heads = heads_in store

  abbrev content_of : ℕ → List ℕ
  content_of p = page_at pages (slice_index_or store.frames.items p 0)

  head-content : (i d : ℕ) → i < length heads → slice_index_or (slice_index_or (chains_in store) i []) 0 0 ≡ slice_index_or store.frames.items (slice_index_or heads i d) 0
  head-content i d less =
      ap (λ chain. slice_index_or chain 0 0) (get_or-map g heads i d [] less)
      ∙ first-of (slice_index_or store.sizes.items (slice_index_or heads i d) 0) store.frames.items store.nexts.items (slice_index_or heads i d) (whole.hung.filled i d less)

  long : length (chains_in store) ≡ length heads
  long = length-map heads g

  pub whole-framed : AreFramed pages store.frames.items (tree_in store)
  whole-framed =
      framed-all pages store.frames.items (tree_in store) (λ i d less. (
        (let one = stands heads i d less in
            let two = heads-used (slice_index_or heads i d) store.nexts.items store.sizes.items heads whole.hung.filled in
            let inside = slot-inside (used store.nexts.items store.sizes.items heads) free (length store.nodes.items) (slice_index_or heads i d) whole.hung.shared (omega (arith, one, two)) in
            let size = whole.hung.framed in
            omega (arith, inside, size)),
        (let there = first-there pages (chains_in store) i sorted (omega (arith, long, less)) in let same = head-content i d less in omega (arith, there, same)),
      ))

  pub whole-searched : IsSearched store.nodes.items store.frames.items pages store.root (tree_in store)
  whole-searched = record { holds = whole.holds; framed = whole-framed }

  module _ (frame : ℕ) where
    abbrev stand : ℕ → Ordering
    stand = order_to pages store.frames.items frame

    pub whole-aligned : IsAligned stand (tree_in store)
    whole-aligned =
        ascending-aligned content_of (page_at pages frame) (tree_in store)
        (λ i j d less within.
        let one = ap (page_at pages) (head-content i d (omega (arith, less, within))) in
        let two = ap (page_at pages) (head-content j d within) in
        rw (← one, ← two) (sorted.ascending i j [] less (omega (arith, long, within))))

    -- where the smaller contents end
    cut : (earlier rest : List ℕ) → heads ≡ earlier ++ rest → All (IsBefore stand) earlier → All (λ p. is_lt (stand p) ≡ false) rest → IsCutAt pages (page_at pages frame) (chains_in store) (length earlier)
    cut earlier rest is before following =
        let all = ap length is in
        let size = length-append earlier rest in
        record {
          inside = omega (arith, long, all, size);
          before = λ i less.
              let e = ap (page_at pages) (head-content i 0 (omega (arith, all, size, less))) in
              let f = ap (λ xs. slice_index_or xs i 0) is ∙ get_or_append_left earlier rest 0 i less in
              rw e (rw f (ap is_lt (before i 0 less)));
          following = λ i ge less.
              let e = ap (page_at pages) (head-content i 0 (omega (arith, long, less))) in
              let f = ap (λ xs. slice_index_or xs i 0) is ∙ get_or-append_right earlier rest (length earlier) i 0 refl ge in
              rw e (rw f (following (i - length earlier) 0 (omega (arith, long, less, all, size, ge))));
        }

    there-at : (k at : ℕ) → k < length heads → slice_index_or heads k 0 ≡ at → stand at ≡ Equal → is_there pages (page_at pages frame) (chains_in store) k ≡ true
    there-at k at less is equal =
        let test = lt-ltb k (length (chains_in store)) (omega (arith, long, less)) in
        let e = ap (page_at pages) (head-content k 0 less) in
        rw test (rw e (rw is (sym (is_eq-slice_cmp (content_of at) (page_at pages frame)) ∙ ap is_eq equal)))

    -- a content that is found
    pub record IsHere (at : ℕ) : Type 0 where
      pub head : IsHead store at
      pub cut : IsCutAt pages (page_at pages frame) (chains_in store) (length head.earlier)
      pub there : is_there pages (page_at pages frame) (chains_in store) (length head.earlier) ≡ true
      pub inside : length head.earlier < length (chains_in store)
      pub chain : slice_index_or (chains_in store) (length head.earlier) [] ≡ g at
      pub less : in_order (tree_without stand (tree_in store)) ≡ head.earlier ++ head.later

    pub found-here : (at : ℕ) → found stand (tree_in store) ≡ Some at → IsHere at
    found-here at is = by_leaving (tree_without-leaving stand at (tree_in store) whole-aligned is)
      where
        by_leaving : IsLeaving stand at heads (in_order (tree_without stand (tree_in store))) → IsHere at
        by_leaving (leaving earlier later before following equal was now) =
            let seam : slice_index_or heads (length earlier) 0 ≡ at = ap (λ xs. slice_index_or xs (length earlier) 0) was ∙ get_or-append_seam earlier at later 0 in
            let size = length-append earlier (at ∷ later) in
            let all = ap length was in
            let less : length earlier < length heads = omega (arith, size, all) in
            record {
              head = record { earlier = earlier; later = later; is = was };
              cut = cut earlier (at ∷ later) was before
                  (All-cons (λ p. is_lt (stand p) ≡ false) at later (ap is_lt equal) (All-weaker (IsFollowing stand) (λ p. is_lt (stand p) ≡ false) (λ p e. not-less (stand p) e) later following));
              there = there-at (length earlier) at less seam equal;
              inside = omega (arith, long, less);
              chain = get_or-map g heads (length earlier) 0 [] less ∙ ap g seam;
              less = now;
            }

    -- a content that isn't
    pub record IsNowhere (new : ℕ) : Type 0 where
      pub earlier : List ℕ
      pub later : List ℕ
      pub is : heads_in store ≡ earlier ++ later
      pub cut : IsCutAt pages (page_at pages frame) (chains_in store) (length earlier)
      pub absent : is_there pages (page_at pages frame) (chains_in store) (length earlier) ≡ false
      pub more : in_order (entered stand new (tree_in store)) ≡ earlier ++ new ∷ later

    absent-at : (k : ℕ) → (k < length heads → stand (slice_index_or heads k 0) ≡ Greater) → is_there pages (page_at pages frame) (chains_in store) k ≡ false
    absent-at k greater = by_test (nat_lt k (length (chains_in store))) refl
      where
        by_test : (b : Bool) → nat_lt k (length (chains_in store)) ≡ b → (b && bytes_eq (content pages (slice_index_or (chains_in store) k [])) (page_at pages frame)) ≡ false
        by_test false e = refl
        by_test true e =
            let less : k < length heads = let below = ltb-true k (length (chains_in store)) e in omega (arith, long, below) in
            let f = ap (page_at pages) (head-content k 0 less) in
            rw f (sym (is_eq-slice_cmp (content_of (slice_index_or heads k 0)) (page_at pages frame)) ∙ not-equal (stand (slice_index_or heads k 0)) (greater less))

    pub missing-here : (new : ℕ) → found stand (tree_in store) ≡ None → IsNowhere new
    missing-here new lacks = by_between (entered-between stand new (tree_in store) whole-aligned lacks)
      where
        by_between : IsBetween stand new heads (in_order (entered stand new (tree_in store))) → IsNowhere new
        by_between (between earlier later before following was now) =
            let size = length-append earlier later in
            let all = ap length was in
            let none : length earlier - length earlier ≡ 0 = omega arith in
            record {
              earlier = earlier;
              later = later;
              is = was;
              cut = cut earlier later was before (All-weaker (IsFollowing stand) (λ p. is_lt (stand p) ≡ false) (λ p e. not-less (stand p) e) later following);
              absent = absent-at (length earlier) (λ less.
                  let f = ap (λ xs. slice_index_or xs (length earlier) 0) was ∙ get_or-append_right earlier later (length earlier) (length earlier) 0 refl (omega arith) ∙ ap (λ (n : ℕ). slice_index_or later n 0) none in
                  rw f (following 0 0 (omega (arith, less, all, size))));
              more = now;
            }
