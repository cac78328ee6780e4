-- Lists of views in which one is replaced, or one is added.
use Rattle.std.proofs.Common.{◌≡◌, ◌≢◌, ◌⊎◌, ◌∙◌, ℕ, zero, suc, List, [], ◌∷◌, ◌++◌, length, set, sym, refl, ap, subst, inl, inr, ⊎_elim}
use mathlib.Core.Option.{some, some-injective, some-ne-none}
use lib.ListN.{get_elem?}
use Rattle.atomic_table.proofs.Lists.{at_set}
use Rattle.turn.specs.Views.{SeatView, Has}
use Rattle.turn.specs.Rule.{Each, Apart}

module _ {A : Type 0} where
  -- what stands at an index is replaced
  pub at_set_same : (l : List A) (i : ℕ) (a b : A) → get_elem? l i ≡ some a → get_elem? (set l i b) i ≡ some b
  at_set_same [] i a b e = absurd (some-ne-none a (sym e))
  at_set_same (x ∷ xs) zero a b e = refl
  at_set_same (x ∷ xs) (suc i) a b e = at_set_same xs i a b e

  -- what stands in a list with one more element: what stood there, or that element
  pub at_more : (l : List A) (a b : A) (j : ℕ) → get_elem? (l ++ a ∷ []) j ≡ some b
      → (get_elem? l j ≡ some b) ⊎ ((j ≡ length l) × (a ≡ b))
  at_more [] a b zero e = inr (refl, some-injective a b e)
  at_more [] a b (suc j) e = absurd (some-ne-none b (sym e))
  at_more (x ∷ xs) a b zero e = inl e
  at_more (x ∷ xs) a b (suc j) e = ⊎_elim (λ t. inl t) (λ t. inr (ap suc t.0, t.1)) (at_more xs a b j e)

-- a fact of each view, where one is replaced
pub Each-set : (views : List SeatView) (id : ℕ) (new : SeatView) (P : ℕ → SeatView → Type 0) → P id new
    → ((i : ℕ) (view : SeatView) → i ≢ id → get_elem? views i ≡ some view → P i view) → Each (set views id new) P
Each-set views id new P here else i view at =
    ⊎_elim
    (λ t. subst (λ (j : ℕ). P j view) (sym t.0) (subst (λ (v : SeatView). P id v) t.1 here))
    (λ t. else i view t.0 t.1)
    (at_set views id i new view at)

-- a fact of each view, where one is added
pub Each-more : (views : List SeatView) (new : SeatView) (P : ℕ → SeatView → Type 0) → P (length views) new → Each views P
    → Each (views ++ new ∷ []) P
Each-more views new P here each i view at =
    ⊎_elim
    (λ t. each i view t)
    (λ t. subst (λ (j : ℕ). P j view) (sym t.0) (subst (λ (v : SeatView). P (length views) v) t.1 here))
    (at_more views new view i at)

-- a replaced view with no further tenant leaves each tenant with one seat
pub Apart-set : (views : List SeatView) (id : ℕ) (old new : SeatView) → get_elem? views id ≡ some old
    → ((t : ℕ) → Has new t → Has old t) → Apart views → Apart (set views id new)
Apart-set views id old new there less apart =
    let Back : ℕ → SeatView → Type 0 = λ i v. (w : SeatView) × (get_elem? views i ≡ some w) × ((t : ℕ) → Has v t → Has w t) in
    let back : Each (set views id new) Back = Each-set views id new Back (old, there, less) (λ i v ne at. (v, at, λ t has. has)) in
    λ i v at j w at' t has has'.
    let a = back i v at in
    let b = back j w at' in
    apart i a.0 a.1 j b.0 b.1 t (a.2 t has) (b.2 t has')

-- a view that is cut in two leaves each tenant with one seat
pub Apart-split : (views : List SeatView) (id : ℕ) (old left right : SeatView) → get_elem? views id ≡ some old
    → ((t : ℕ) → Has left t → Has old t) → ((t : ℕ) → Has right t → Has old t) → ((t : ℕ) → Has left t → Has right t → ⊥)
    → Apart views → Apart (set views id left ++ right ∷ [])
Apart-split views id old left right there less more cut apart =
    let rest : Apart (set views id left) = Apart-set views id old left there less apart in
    let alone : Each (set views id left) (λ i v. (t : ℕ) → Has v t → Has right t → ⊥) =
    Each-set views id left (λ i v. (t : ℕ) → Has v t → Has right t → ⊥) cut
    (λ i v ne at t has has'. ne (apart i v at id old there t has (more t has'))) in
    λ i v at j w at' t has has'.
    ⊎_elim
    (λ x. ⊎_elim
    (λ y. rest i v x j w y t has has')
    (λ y. absurd (alone i v x t has (subst (λ (u : SeatView). Has u t) (sym y.1) has')))
    (at_more (set views id left) right w j at'))
    (λ x. ⊎_elim
    (λ y. absurd (alone j w y t has' (subst (λ (u : SeatView). Has u t) (sym x.1) has)))
    (λ y. x.0 ∙ sym y.0)
    (at_more (set views id left) right w j at'))
    (at_more (set views id left) right v i at)
