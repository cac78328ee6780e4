-- Plans that stay as they were.
use Rattle.std.proofs.Common.{◌≡◌, ℕ, zero, suc, List, [], ◌∷◌, map, get_or, length, take, ◌++◌, refl, sym, ap, subst, ◌∙◌, inl, inr, Result}
use Rattle.std.proofs.Math.ListN.{set}
use Rattle.std.proofs.lemmas.List.{length-map, take_at}
use Rattle.host_types.specs.declared.fault.Fault.{Fault}
use Rattle.tenant_runs.specs.declared.answers.RunReply.{RunReply}
use Rattle.tenant_workers.specs.declared.plans.TenantPlan.{TenantPlan}
use Rattle.tenant_workers.specs.Plans.{AreAnswered, AreSamePlans, AreServed, IsPlanServed, Planned, planned_by}
use Rattle.tenant_workers.specs.Jobs.{AreEach}

-- an element written over by another one that is mapped to the same
pub map-set_same : {X Y : Type 0} (f : X → Y) (xs : List X) (entry_index : ℕ) (x y : X) → f y ≡ f (get_or xs entry_index x) → map f (set xs entry_index y) ≡ map f xs
map-set_same f [] entry_index x y same = refl
map-set_same f (first ∷ xs) zero x y same = ap (λ z. z ∷ map f xs) same
map-set_same f (first ∷ xs) (suc entry_index) x y same = ap (λ zs. f first ∷ zs) (map-set_same f xs entry_index x y same)

abbrev pub with_replies : Planned → List (Result RunReply Fault) → Planned
with_replies planned replies = record planned { replies = replies }

-- a plan with the same replies says the same
pub same_replies : (plan : TenantPlan) (replies : List (Result RunReply Fault)) → replies ≡ plan.replies.items → with_replies (planned_by plan) replies ≡ planned_by plan
same_replies plan replies same = ap (with_replies (planned_by plan)) same

-- as many plans
same_many : (old new : List TenantPlan) → AreSamePlans old new → length new ≡ length old
same_many old new same = sym (length-map new planned_by) ∙ ap length same ∙ length-map old planned_by

-- plans that were served, as they were before room was made in them
pub served-from : (old reserved beyond new : List TenantPlan) (count : ℕ) → AreSamePlans old reserved → length old ≡ count
    → AreServed (take count (reserved ++ beyond)) new → AreServed old new
served-from old reserved beyond new count same many served =
    let whole = take_at reserved beyond count (same_many old reserved same ∙ many) in
    subst (λ plans. AreEach IsPlanServed plans (map planned_by new)) (ap (map planned_by) whole ∙ same) served

-- what the runs of a plan that was served were answered
pub answers-of : (old new : Planned) → IsPlanServed old new → AreAnswered old.programs old.runs old.seat new.replies new.seat
answers-of old new (inl made) = inl made.replies
answers-of old new (inr refused) = inr (refused.replies, refused.untouched)
