-- A tree whose contents ascend is aligned to any content.
use Rattle.std.proofs.Common.{◌≡◌, ℕ, suc, List, [], ◌∷◌, ◌++◌, All, AllPairs, sym, ap, ◌∙◌, arith}
use Rattle.std.specs.declared.cmp.Ordering.{Ordering}
use Rattle.std.specs.declared.cmp.Ordering.TheVariants.{Less, Greater}
use Rattle.std.specs.Ordering.{nat_cmp, ordering_reverse}
use Rattle.std.specs.Cmp.Lexicographic.{slice_cmp}
use Rattle.std.proofs.lemmas.Cmp.{nat_list_cmp_total, alike_right}
use Rattle.std.proofs.lemmas.List.Elements.{All-nil, All-cons, All-head, All-tail, All-weaker}
use Rattle.std.proofs.lemmas.List.Kept.{AllPairs-cons}
use Rattle.tree_shape.specs.Shape.{Tree, leaf, fork, in_order}
use Rattle.tree_shape.proofs.Order.{IsBefore, IsFollowing, IsAligned}

pairs-head : {X : Type 0} (R : X → X → Type 0) (x : X) (xs : List X) → AllPairs R (x ∷ xs) → All (R x) xs
pairs-head R x xs pairs = λ k d less. pairs 0 (suc k) d (omega arith) (omega (arith, less))

pairs-tail : {X : Type 0} (R : X → X → Type 0) (x : X) (xs : List X) → AllPairs R (x ∷ xs) → AllPairs R xs
pairs-tail R x xs pairs = λ i j d less within. pairs (suc i) (suc j) d (omega (arith, less)) (omega (arith, within))

all-front : {X : Type 0} (P : X → Type 0) (xs ys : List X) → All P (xs ++ ys) → All P xs
all-front P [] ys all = All-nil P
all-front P (x ∷ xs) ys all = All-cons P x xs (All-head P x (xs ++ ys) all) (all-front P xs ys (All-tail P x (xs ++ ys) all))

all-back : {X : Type 0} (P : X → Type 0) (xs ys : List X) → All P (xs ++ ys) → All P ys
all-back P [] ys all = all
all-back P (x ∷ xs) ys all = all-back P xs ys (All-tail P x (xs ++ ys) all)

-- what pairs say where a list is cut at an element
record AreCut {X : Type 0} (R : X → X → Type 0) (xs : List X) (at : X) (ys : List X) : Type 0 where
  before : All (λ p. R p at) xs
  following : All (R at) ys
  fronts : AllPairs R xs
  backs : AllPairs R ys

cut-pairs : {X : Type 0} (R : X → X → Type 0) (xs : List X) (at : X) (ys : List X) → AllPairs R (xs ++ at ∷ ys) → AreCut R xs at ys
cut-pairs R [] at ys pairs = record {
  before = All-nil (λ p. R p at);
  following = pairs-head R at ys pairs;
  fronts = λ i j d less within. absurd (omega (arith, within));
  backs = pairs-tail R at ys pairs;
}
cut-pairs R (x ∷ xs) at ys pairs =
    let rest = cut-pairs R xs at ys (pairs-tail R x (xs ++ at ∷ ys) pairs) in
    let heads = pairs-head R x (xs ++ at ∷ ys) pairs in
    record {
      before = All-cons (λ p. R p at) x xs (All-head (R x) at ys (all-back (R x) xs (at ∷ ys) heads)) rest.before;
      following = rest.following;
      fronts = AllPairs-cons R x xs (all-front (R x) xs (at ∷ ys) heads) rest.fronts;
      backs = rest.backs;
    }

module _ (content : ℕ → List ℕ) (bytes : List ℕ) where
  abbrev pub rises : ℕ → ℕ → Type 0
  rises p q = slice_cmp nat_cmp (content p) (content q) ≡ Less

  abbrev pub order : ℕ → Ordering
  order p = slice_cmp nat_cmp (content p) bytes

  greater-turned : (at : ℕ) → order at ≡ Greater → slice_cmp nat_cmp bytes (content at) ≡ Less
  greater-turned at e = nat_list_cmp_total.antisymm bytes (content at) ∙ ap ordering_reverse e

  pub ascending-aligned : (t : Tree) → AllPairs rises (in_order t) → IsAligned order t
  unfolding IsAligned in_order
  ascending-aligned leaf pairs = tt
  ascending-aligned (fork at l r) pairs =
      let cut = cut-pairs rises (in_order l) at (in_order r) pairs in (
        (λ e. All-weaker (λ p. rises p at) (IsBefore order) (λ p less. nat_list_cmp_total.trans (content p) (content at) bytes less e) (in_order l) cut.before),
        (λ e. All-weaker (rises at) (IsFollowing order)
            (λ q less. nat_list_cmp_total.antisymm (content q) bytes ∙ ap ordering_reverse (nat_list_cmp_total.trans bytes (content at) (content q) (greater-turned at e) less))
            (in_order r) cut.following),
        ascending-aligned l cut.fronts,
        ascending-aligned r cut.backs,
        (λ e. All-weaker (λ p. rises p at) (IsBefore order) (λ p less. sym (alike_right nat_list_cmp_total (content at) bytes (content p) e) ∙ less) (in_order l) cut.before),
        (λ e. All-weaker (rises at) (IsFollowing order)
            (λ q less. nat_list_cmp_total.antisymm (content q) bytes ∙ ap ordering_reverse (sym (nat_list_cmp_total.congr (content at) bytes (content q) e) ∙ less))
            (in_order r) cut.following),
      )
