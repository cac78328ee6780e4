-- Lists of seats to which one is added.
use Rattle.std.proofs.Common.{ℕ, zero, suc, List, [], ◌∷◌, ◌++◌, length, IfSome, slice_get}

-- what holds of each element by its index still does where one more has it
pub each_push : {X : Type 0} (P : ℕ → X → Type 0) (xs : List X) (x : X)
    → ((t : ℕ) → IfSome (slice_get xs t) (P t)) → P (length xs) x → (t : ℕ) → IfSome (slice_get (xs ++ x ∷ []) t) (P t)
each_push P [] x each here zero = here
each_push P [] x each here (suc t) = tt
each_push P (y ∷ ys) x each here zero = each zero
each_push P (y ∷ ys) x each here (suc t) = each_push (λ t. P (suc t)) ys x (λ t. each (suc t)) here t
