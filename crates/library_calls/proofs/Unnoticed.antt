-- A tenant sees nothing of a call for another one, or for none.
use Rattle.std.proofs.Common.{◌≡◌, inl, inr, ℕ, zero, suc, false, List, Some, unwrap_or, refl, ap, ◌∙◌}
use Rattle.host_types.specs.declared.event.Event.TheVariants.{Begin, Step, Visit, Counters}
use Rattle.host_core.specs.declared.reply.Reply.{Reply}
use Rattle.host_core.specs.declared.reply.Reply.TheVariants.{Begun, Stepped}
use Rattle.host_core.specs.World.{System}
use Rattle.isolation.specs.Tenants.{AgreeOn, seen_by, names_tenant}
use Rattle.isolation.proofs.Changes.{unnoticed}
use Rattle.library_calls.specs.Calls.{RunsWhole, Steps, Visits}
use Rattle.library_calls.specs.Isolation.{Call, once, whole, further, scanning, CallHappens, is_call_for}
use Rattle.library_calls.proofs.Walks.{Walks, steps_walk}

walk_unnoticed : (t u limit : ℕ) (reply : Reply) (x x' : System) → names_tenant t (Some u) ≡ false → Walks u limit reply x x' → AgreeOn t x' x
walk_unnoticed t u zero reply x x' other h = ap (seen_by t) h.1
walk_unnoticed t u (suc limit) reply x x' other (next, (made, (served, inl ends))) =
    ap (seen_by t) ends.2 ∙ unnoticed t x next (Step u) made other served.0
walk_unnoticed t u (suc limit) reply x x' other (next, (made, (served, inr goes))) =
    walk_unnoticed t u limit reply next x' other goes.1 ∙ unnoticed t x next (Step u) made other served.0

run_unnoticed : (t u k : ℕ) (context : List ℕ) (reply : Reply) (x x' : System) → names_tenant t (Some u) ≡ false → RunsWhole u k context reply x x' → AgreeOn t x' x
run_unnoticed t u k context reply x x' other (inl refused) = unnoticed t x x' (Begin u k context) reply other refused.1
run_unnoticed t u k context reply x x' other (inr (begun, served, steps)) =
    walk_unnoticed t u 4294967296 reply begun x' other (steps_walk u 4294967296 (Some reply) begun x' steps)
    ∙ unnoticed t x begun (Begin u k context) Begun other served.0

steps_unnoticed : (t u limit : ℕ) (reply : Reply) (x x' : System) → names_tenant t (Some u) ≡ false → Steps u limit reply x x' → AgreeOn t x' x
steps_unnoticed t u limit reply x x' other (last, is, steps) =
    walk_unnoticed t u limit (unwrap_or last Stepped) x x' other (steps_walk u limit last x x' steps)

visits_unnoticed : (t n : ℕ) (x x' : System) → Visits n x x' → AgreeOn t x' x
visits_unnoticed t zero x x' h = ap (seen_by t) h
visits_unnoticed t (suc n) x x' (between, visits, (reply, served)) =
    unnoticed t between x' Visit reply refl served.0 ∙ visits_unnoticed t n x between visits

pub call_unnoticed : (t : ℕ) (x x' : System) (call : Call) (reply : Reply) → is_call_for t call ≡ false → CallHappens call reply x x' → AgreeOn t x' x
call_unnoticed t x x' (once event) reply other h = unnoticed t x x' event reply other h.0
call_unnoticed t x x' (whole u k context) reply other h = run_unnoticed t u k context reply x x' other h
call_unnoticed t x x' (further u limit) reply other h = steps_unnoticed t u limit reply x x' other h
call_unnoticed t x x' (scanning n) reply other (between, visits, served) =
    unnoticed t between x' Counters reply refl served.0 ∙ visits_unnoticed t n x between visits
