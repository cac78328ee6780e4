-- Where the contents of a tree's slots ascend, those before a slot that is taken out come before it, and those after it after it.
use Rattle.std.proofs.Common.{◌≡◌, ℕ, List, ◌∷◌, ◌++◌, Option, None, Some, refl, sym, ap, ◌∙◌, append_assoc}
use Rattle.std.specs.List.{All}
use Rattle.std.proofs.lemmas.List.Elements.{All-append, All-cons}
use Rattle.std.specs.declared.cmp.Ordering.{Ordering}
use Rattle.std.specs.declared.cmp.Ordering.TheVariants.{Less, Equal, Greater}
use Rattle.tree_shape.specs.Shape.{Tree, leaf, fork, in_order}
use Rattle.tree_shape.specs.Turns.{balanced_at}
use Rattle.tree_shape.specs.Changes.{by_order, found, joined_sides, tree_without}
use Rattle.tree_shape.proofs.Turning.{in_order-balanced_at}
use Rattle.tree_shape.proofs.Changing.{in_order-joined_sides}
use Rattle.tree_shape.proofs.Order.{IsBefore, IsFollowing, IsAligned}

-- a slot goes from between the earlier ones and the later ones
pub data IsLeaving (order : ℕ → Ordering) (out : ℕ) (old now : List ℕ) : Type 0 where
  leaving : (earlier later : List ℕ) → All (IsBefore order) earlier → All (IsFollowing order) later → order out ≡ Equal → old ≡ earlier ++ out ∷ later → now ≡ earlier ++ later → IsLeaving order out old now

none-some : (out : ℕ) (found : Option ℕ) → found ≡ None → found ≡ Some out → ⊥
none-some out found lacks is = cc

some-same : (at out : ℕ) → Some at ≡ Some out → at ≡ out
some-same at out is = cc

pub tree_without-leaving : (order : ℕ → Ordering) (out : ℕ) (t : Tree) → IsAligned order t → found order t ≡ Some out → IsLeaving order out (in_order t) (in_order (tree_without order t))
unfolding IsAligned tree_without found in_order
tree_without-leaving order out leaf aligned is = absurd (none-some out None refl is)
tree_without-leaving order out (fork at l r) aligned is =
    by_test (order at) refl is (λ e. tree_without-leaving order out l aligned.2 e) (λ e. tree_without-leaving order out r aligned.3 e)
  where
    on_right : All (IsBefore order) (in_order l) → order at ≡ Less → IsLeaving order out (in_order r) (in_order (tree_without order r))
        → IsLeaving order out (in_order l ++ at ∷ in_order r) (in_order (balanced_at at l (tree_without order r)))
    on_right lefts less (leaving earlier later before following equal was now) =
        leaving (in_order l ++ at ∷ earlier) later
        (All-append (IsBefore order) (in_order l) (at ∷ earlier) lefts (All-cons (IsBefore order) at earlier less before)) following equal
        (ap (λ xs. in_order l ++ at ∷ xs) was ∙ sym (append_assoc (in_order l) (at ∷ earlier) (out ∷ later)))
        (in_order-balanced_at at l (tree_without order r) ∙ ap (λ xs. in_order l ++ at ∷ xs) now ∙ sym (append_assoc (in_order l) (at ∷ earlier) later))

    on_left : All (IsFollowing order) (in_order r) → order at ≡ Greater → IsLeaving order out (in_order l) (in_order (tree_without order l))
        → IsLeaving order out (in_order l ++ at ∷ in_order r) (in_order (balanced_at at (tree_without order l) r))
    on_left rights greater (leaving earlier later before following equal was now) =
        leaving earlier (later ++ at ∷ in_order r) before
        (All-append (IsFollowing order) later (at ∷ in_order r) following (All-cons (IsFollowing order) at (in_order r) greater rights)) equal
        (ap (λ xs. xs ++ at ∷ in_order r) was ∙ append_assoc earlier (out ∷ later) (at ∷ in_order r))
        (in_order-balanced_at at (tree_without order l) r ∙ ap (λ xs. xs ++ at ∷ in_order r) now ∙ append_assoc earlier later (at ∷ in_order r))

    by_test : (o : Ordering) → order at ≡ o → by_order o (found order r) (Some at) (found order l) ≡ Some out
        → (found order l ≡ Some out → IsLeaving order out (in_order l) (in_order (tree_without order l)))
        → (found order r ≡ Some out → IsLeaving order out (in_order r) (in_order (tree_without order r)))
        → IsLeaving order out (in_order l ++ at ∷ in_order r) (in_order (by_order o (balanced_at at l (tree_without order r)) (joined_sides l r) (balanced_at at (tree_without order l) r)))
    by_test Less e is left right = on_right (aligned.0 e) e (right is)
    by_test Equal e is left right =
        let same = some-same at out is in
        leaving (in_order l) (in_order r) (aligned.4 e) (aligned.5 e) (ap order (sym same) ∙ e) (ap (λ n. in_order l ++ n ∷ in_order r) same) (in_order-joined_sides l r)
    by_test Greater e is left right = on_left (aligned.1 e) e (left is)
