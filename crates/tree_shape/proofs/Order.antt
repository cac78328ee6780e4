-- Where the contents of a tree's slots ascend, those before a new slot come before it, and those after it after it.
use Rattle.std.proofs.Common.{◌≡◌, ℕ, List, [], ◌∷◌, ◌++◌, Option, None, Some, refl, sym, ap, ◌∙◌, append_assoc}
use Rattle.std.specs.Bool.{⊤}
use Rattle.std.specs.List.{All}
use Rattle.std.proofs.lemmas.List.Elements.{All-append, All-cons, All-nil}
use Rattle.std.specs.declared.cmp.Ordering.{Ordering}
use Rattle.std.specs.declared.cmp.Ordering.TheVariants.{Less, Equal, Greater}
use Rattle.tree_shape.specs.Shape.{Tree, leaf, fork, in_order}
use Rattle.tree_shape.specs.Turns.{balanced_at}
use Rattle.tree_shape.specs.Changes.{by_order, found, entered}
use Rattle.tree_shape.proofs.Turning.{in_order-balanced_at}

abbrev pub IsBefore : (ℕ → Ordering) → ℕ → Type 0
IsBefore order at = order at ≡ Less

abbrev pub IsFollowing : (ℕ → Ordering) → ℕ → Type 0
IsFollowing order at = order at ≡ Greater

-- what is left of a slot that comes before comes before, and what is right of one that comes after comes after; round an equal one both
unfoldable pub IsAligned : (ℕ → Ordering) → Tree → Type 0
IsAligned order leaf = ⊤
IsAligned order (fork at l r) =
    (order at ≡ Less → All (IsBefore order) (in_order l)) × (order at ≡ Greater → All (IsFollowing order) (in_order r)) × IsAligned order l × IsAligned order r
    × (order at ≡ Equal → All (IsBefore order) (in_order l)) × (order at ≡ Equal → All (IsFollowing order) (in_order r))

-- a new slot between the earlier ones and the later ones
pub data IsBetween (order : ℕ → Ordering) (new : ℕ) (old now : List ℕ) : Type 0 where
  between : (earlier later : List ℕ) → All (IsBefore order) earlier → All (IsFollowing order) later → old ≡ earlier ++ later → now ≡ earlier ++ new ∷ later → IsBetween order new old now

-- constructors differ
some-none : (at : ℕ) (found : Option ℕ) → found ≡ Some at → found ≡ None → ⊥
some-none at found is lacks = cc

pub entered-between : (order : ℕ → Ordering) (new : ℕ) (t : Tree) → IsAligned order t → found order t ≡ None → IsBetween order new (in_order t) (in_order (entered order new t))
unfolding IsAligned entered found in_order
entered-between order new leaf aligned lacks = between [] [] (All-nil (IsBefore order)) (All-nil (IsFollowing order)) refl refl
entered-between order new (fork at l r) aligned lacks =
    by_test (order at) refl lacks (λ e. entered-between order new l aligned.2 e) (λ e. entered-between order new r aligned.3 e)
  where
    on_right : All (IsBefore order) (in_order l) → order at ≡ Less → IsBetween order new (in_order r) (in_order (entered order new r))
        → IsBetween order new (in_order l ++ at ∷ in_order r) (in_order (balanced_at at l (entered order new r)))
    on_right lefts less (between earlier later before following was is) =
        between (in_order l ++ at ∷ earlier) later
        (All-append (IsBefore order) (in_order l) (at ∷ earlier) lefts (All-cons (IsBefore order) at earlier less before)) following
        (ap (λ xs. in_order l ++ at ∷ xs) was ∙ sym (append_assoc (in_order l) (at ∷ earlier) later))
        (in_order-balanced_at at l (entered order new r) ∙ ap (λ xs. in_order l ++ at ∷ xs) is ∙ sym (append_assoc (in_order l) (at ∷ earlier) (new ∷ later)))

    on_left : All (IsFollowing order) (in_order r) → order at ≡ Greater → IsBetween order new (in_order l) (in_order (entered order new l))
        → IsBetween order new (in_order l ++ at ∷ in_order r) (in_order (balanced_at at (entered order new l) r))
    on_left rights greater (between earlier later before following was is) =
        between earlier (later ++ at ∷ in_order r) before
        (All-append (IsFollowing order) later (at ∷ in_order r) following (All-cons (IsFollowing order) at (in_order r) greater rights))
        (ap (λ xs. xs ++ at ∷ in_order r) was ∙ append_assoc earlier later (at ∷ in_order r))
        (in_order-balanced_at at (entered order new l) r ∙ ap (λ xs. xs ++ at ∷ in_order r) is ∙ append_assoc earlier (new ∷ later) (at ∷ in_order r))

    by_test : (o : Ordering) → order at ≡ o → by_order o (found order r) (Some at) (found order l) ≡ None
        → (found order l ≡ None → IsBetween order new (in_order l) (in_order (entered order new l)))
        → (found order r ≡ None → IsBetween order new (in_order r) (in_order (entered order new r)))
        → IsBetween order new (in_order l ++ at ∷ in_order r) (in_order (by_order o (balanced_at at l (entered order new r)) (fork at l r) (balanced_at at (entered order new l) r)))
    by_test Less e lacks left right = on_right (aligned.0 e) e (right lacks)
    by_test Equal e lacks left right = absurd (some-none at (Some at) refl lacks)
    by_test Greater e lacks left right = on_left (aligned.1 e) e (left lacks)
