-- Lists of events, one after the other.
use Rattle.std.proofs.Common.{[], ◌∷◌, refl, ap, subst}
use Rattle.host_core.specs.Happens.{AllHappen, JoinHappens, SplitHappens}

-- two lists that happen one after the other
pub AllHappen-join : JoinHappens
AllHappen-join x next x' [] more [] further first second = subst (λ v. AllHappen v more further x') first second
AllHappen-join x next x' [] more (reply ∷ replies) further first second = absurd first
AllHappen-join x next x' (event ∷ events) more [] further first second = absurd first
AllHappen-join x next x' (event ∷ events) more (reply ∷ replies) further first second =
    (first.0, first.1, first.2, first.3, AllHappen-join first.0 next x' events more replies further first.4 second)

-- the two parts of a list that happens
pub AllHappen-split : SplitHappens
AllHappen-split x x' [] more replies h = (x, ([], (replies, refl, refl, h)))
AllHappen-split x x' (event ∷ events) more [] h = absurd h
AllHappen-split x x' (event ∷ events) more (reply ∷ replies) h =
    let rest = AllHappen-split h.0 x' events more replies h.4 in
    let parts = rest.1.1 in
    (rest.0, (reply ∷ rest.1.0, (parts.0, ap (λ xs. reply ∷ xs) parts.1, (h.0, h.1, h.2, h.3, parts.2), parts.3)))
