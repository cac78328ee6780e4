-- A step of an open run, in two systems that agree on the tenant.
use Rattle.std.proofs.Common.{◌≡◌, ℕ, suc, inl, inr, List, Option, Some, None, MatchOption, sym, ap, refl, ◌∙◌, subst}
use Rattle.std.specs.List.{slice_get}
use Rattle.std.specs.Option.{option_map}
use Rattle.host_types.specs.declared.fault.Fault.TheVariants as fault
use Rattle.host_types.specs.Sharing.{Sharing}
use Rattle.verifier.specs.Subject.{Subject}
use Rattle.interp.specs.Machine.{Outcome, Next, Exits, step}
use Rattle.host_core.specs.declared.reply.Reply.{Reply}
use Rattle.host_core.specs.declared.reply.Reply.TheVariants.{Stepped, Ended, Refused}
use Rattle.host_core.specs.World.{Tenant, System, OpenRun}
use Rattle.host_core.specs.Happens.{Answers, StepHappens, StepLeads}
use Rattle.isolation.specs.Tenants.{Seen, SeenRun, seen_tenant, seen_run}
use Rattle.isolation.proofs.Happenings.{StepOf}
use Rattle.isolation.proofs.Alike.{Alike, of_tenant, Shows, shows-change, alike-shown, alike-replied}
use Rattle.isolation.proofs.Leaving.{GoesAlike}

abbrev answer_of : SeenRun → Outcome → Reply
answer_of run (Next s) = Stepped
answer_of run (Exits number maps) = Ended number (suc run.steps)

abbrev seen_after : List (Option Subject) → SeenRun → Outcome → Seen
seen_after programs run (Next s) =
    record { maps = s.memory.maps; programs = programs; run = Some (record { program = run.program; state = s; steps = suc run.steps }) }
seen_after programs run (Exits number maps) = record { maps = maps; programs = programs; run = None }

leads : (t : ℕ) (x x' : System) (tenant : Tenant) (r : OpenRun) (sharing : Sharing) (outcome : Outcome) (reply : Reply) → slice_get x.world t ≡ Some tenant → StepLeads x t tenant r sharing outcome reply x'
    → Shows t (answer_of (seen_run r) outcome) (seen_after tenant.programs (seen_run r) outcome) reply x'
leads t x x' tenant r sharing (Next s) reply there h = shows-change t x x' tenant _ _ Stepped reply there h
leads t x x' tenant r sharing (Exits number maps) reply there h = shows-change t x x' tenant _ _ (Ended number (suc r.steps)) reply there h

steps : (t : ℕ) (x y x' y' : System) (a b : Tenant) (r q : OpenRun) (reply other : Reply) → slice_get x.world t ≡ Some a → slice_get y.world t ≡ Some b → b.programs ≡ a.programs → seen_run q ≡ seen_run r
    → StepHappens x t a r reply x' → StepHappens y t b q other y' → Alike t reply other x' y'
steps t x y x' y' a b r q reply other there found programs same h k =
    let led : step q.program.text q.state ≡ step r.program.text r.state = ap (λ (run : SeenRun). step run.program.text run.state) same in
    let outcome : k.0 ≡ h.0 = cc (h.1, k.1, led) in
    let left = leads t x x' a r _ h.0 reply there h.2 in
    let right = leads t y y' b q _ k.0 other found k.2 in
    let answers : answer_of (seen_run q) k.0 ≡ answer_of (seen_run r) h.0 =
    ap (λ (o : Outcome). answer_of (seen_run q) o) outcome ∙ ap (λ (run : SeenRun). answer_of run h.0) same in
    let sees : seen_after b.programs (seen_run q) k.0 ≡ seen_after a.programs (seen_run r) h.0 =
    ap (λ (o : Outcome). seen_after b.programs (seen_run q) o) outcome ∙ ap (λ (run : SeenRun). seen_after b.programs run h.0) same
    ∙ ap (λ (ps : List (Option Subject)). seen_after ps (seen_run r) h.0) programs in
    alike-shown t x' y' reply other (answer_of (seen_run r) h.0) (seen_after a.programs (seen_run r) h.0) left (right.0 ∙ answers, right.1 ∙ ap Some sees)

pub alike-step : (t : ℕ) (x y : System) (reply : Reply) (x' : System) (other : Reply) (y' : System) → GoesAlike t x y reply x' other y' (StepOf t)
alike-step t x y reply x' other y' agree = of_tenant t x y x' y' reply other (StepOf t) agree (λ a b there found same h k. runs a b there found same a.run b.run refl refl h k)
  where
    runs : (a b : Tenant) → slice_get x.world t ≡ Some a → slice_get y.world t ≡ Some b → seen_tenant a ≡ seen_tenant b → (p q : Option OpenRun) → a.run ≡ p → b.run ≡ q
        → MatchOption p (Answers x (Refused fault.NoRun) reply x') (λ r. StepHappens x t a r reply x') → MatchOption q (Answers y (Refused fault.NoRun) other y') (λ r. StepHappens y t b r other y')
        → Alike t reply other x' y'
    runs a b there found same None None e f h k = alike-replied t x y x' y' a b (Refused fault.NoRun) reply other there found same h k
    runs a b there found same (Some r) (Some q) e f h k =
        let runs_same : Some (seen_run q) ≡ Some (seen_run r) = sym (ap (option_map seen_run) f) ∙ sym (ap (λ (s : Seen). s.run) same) ∙ ap (option_map seen_run) e in
        let run_same : seen_run q ≡ seen_run r = cc runs_same in
        steps t x y x' y' a b r q reply other there found (sym (ap (λ (s : Seen). s.programs) same)) run_same h k
    runs a b there found same (Some r) None e f h k = absurd (cc (sym (ap (option_map seen_run) e) ∙ ap (λ (s : Seen). s.run) same ∙ ap (option_map seen_run) f))
    runs a b there found same None (Some q) e f h k = absurd (cc (sym (ap (option_map seen_run) e) ∙ ap (λ (s : Seen). s.run) same ∙ ap (option_map seen_run) f))
