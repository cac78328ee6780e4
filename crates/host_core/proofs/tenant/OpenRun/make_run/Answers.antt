use Rattle.std.proofs.Common.{◌≡◌, ℕ, ◌+◌, ◌-◌, ◌≤◌, List, Option, None, Some, Ok, ◌∙◌, sym, refl, subst, arith, ◌<◌, length}
use Rattle.host_types.specs.declared.event.Event.TheVariants.{Begin}
use Rattle.page_table.specs.Changes.{OtherTenantsUnchanged}
use Rattle.page_table.specs.Reads.{ReadsAs}
use Rattle.page_table.specs.State.{MemoryState, part, have_of}
use Rattle.admission.specs.Reserve.{needed_from}
use Rattle.verifier.specs.Verified.{Accepted}
use Rattle.interp.specs.Machine.{MachineState}
use Rattle.interp.specs.StandsFor.{with_context}
use Rattle.tenant_runs.specs.Fulfilment.{KeepsSizes}
use Rattle.host_core.specs.Batches.{IsUnderWayAt, IsStarted, HasAdvanced}
use Rattle.host_core.specs.declared.reply.Reply.{Reply}
use Rattle.host_core.specs.declared.reply.Reply.TheVariants.{Begun, Ended, Refused}
use Rattle.host_core.specs.declared.tenant.OpenRun.{OpenRun as KeptRun}
use Rattle.host_core.specs.HostView.{TenantView, IsServed, IsKept, HasMadeRun, HasMadeSteps}
use Rattle.host_core.specs.WholeRuns.{IsReady, HasComeTo, idle_tenant, busy_tenant}
use Rattle.host_core.proofs.Indices.{slice_get-there}
use Rattle.host_core.proofs.Serving.{kept-there}
use Rattle.host_core.proofs.Opening.{begin-not_opened, begin-begun, kept-idle, kept-resting}
use Rattle.host_core.proofs.Making.{kept-served, kept-made, made-join, made-some, run-refused, run-made}
use Rattle.host_core.proofs.Leaving.{kept-inside}
use Rattle.host_core.proofs.Unreserved.{with_need, reads_with, admitted, begins, others_later, sizes_later}
use Rattle.host_core.proofs.Stepping.{made-steps, made-last_step, advanced-some, under-way-kept}
use Rattle.host_core.proofs.tenant.OpenRun.make_run.Given.{Over}
use Rattle.host_core.proofs.tenant.OpenRun.make_run.Goals as goal
use Rattle.host_core.proofs.tenant.OpenRun.make_run.Goals.{After-facts-2, After-facts-3}

pub reopen_unreserved-requires-clause-there : goal.reopen_unreserved-requires-clause-there
reopen_unreserved-requires-clause-there g c = let (programs, rests) = c.requires.rests in kept-there c.args.number (idle_tenant programs) c.args.memory.now rests.kept

pub reopen_unreserved-requires-clause-none : goal.reopen_unreserved-requires-clause-none
reopen_unreserved-requires-clause-none g c = let (programs, rests) = c.requires.rests in kept-resting c.args.number (idle_tenant programs) c.args.memory.now rests.kept refl

pub reopen_unreserved-requires-clause-unreserved : goal.reopen_unreserved-requires-clause-unreserved
reopen_unreserved-requires-clause-unreserved g c = let (programs, rests) = c.requires.rests in kept-idle c.args.number (idle_tenant programs) c.args.memory.now rests.kept refl

pub returns-in-Err-clause-made : goal.returns-in-Err-clause-made
returns-in-Err-clause-made g c programs rests =
    let call = c.in-Err.ensures in
    let k = c.args.self.now.program in
    let refused = begin-not_opened c.args.number k (idle_tenant programs) c.args.context.now c.args.program.now refl rests.found c.args.memory.now c.in-Err.fault call.refused in
    let made = run-refused c.args.number k c.args.context.now (idle_tenant programs) (idle_tenant programs) c.args.memory.now c.args.memory.now (Refused c.in-Err.fault) c.facts.ensures refused (λ e. cc) in
    subst (HasMadeRun c.args.number (idle_tenant programs) c.args.memory.now k c.args.context.now (Refused c.in-Err.fault) (idle_tenant programs)) (sym call.unchanged) made

module _ (g : Over) (c : After-facts-2 g) (programs : List (Option Accepted)) (rests : IsReady programs c.args.self.now.program c.args.program.now c.args.number c.args.memory.now) where
  there : c.args.number < length c.args.memory.now.tenants
  there = kept-inside c.args.number (idle_tenant programs) c.args.memory.now rests.kept

  eight : length (part c.args.memory.now c.args.number).maps ≡ 8
  eight = kept-there c.args.number (idle_tenant programs) c.args.memory.now rests.kept

  unreserved : (part c.args.memory.now c.args.number).reserve ≡ 0
  unreserved = kept-idle c.args.number (idle_tenant programs) c.args.memory.now rests.kept refl

  enough : needed_from c.args.program.now (part c.args.memory.now c.args.number) 0 ≤ have_of c.args.memory.now
  enough = c.in_default.ensures.enough

  -- the memory with what the run may need recorded
  abbrev with_it : MemoryState
  with_it = with_need c.args.program.now c.args.number c.args.memory.now c.facts.ensures there eight unreserved enough

  reads_it : ReadsAs with_it
  reads_it = reads_with c.args.program.now c.args.number c.args.memory.now c.facts.ensures there eight unreserved enough

  abbrev open_run : KeptRun
  open_run = record { program = c.args.self.now.program; run = with_context c.args.context.now c.reopen_unreserved.new.run }

  -- the run is begun
  served : IsServed c.args.number (idle_tenant programs) c.args.memory.now (Begin c.args.number c.args.self.now.program c.args.context.now) Begun (busy_tenant programs open_run) with_it
  served =
      let call = c.in_default.ensures in
      begin-begun c.args.number c.args.self.now.program (idle_tenant programs) c.args.memory.now with_it c.args.context.now (with_context c.args.context.now c.reopen_unreserved.new.run) c.args.program.now refl rests.found call.sized call.begun call.steps
      (admitted c.args.program.now c.args.number c.args.memory.now c.facts.ensures there eight unreserved enough)

  kept_begun : IsKept c.args.number (busy_tenant programs open_run) with_it
  kept_begun = kept-served c.args.number (idle_tenant programs) (busy_tenant programs open_run) c.args.memory.now with_it (Begin c.args.number c.args.self.now.program c.args.context.now) Begun served rests.kept

  -- it is one of this program
  same : (v : Accepted) (s : MachineState) → IsUnderWayAt programs open_run v s (part with_it c.args.number) → v ≡ c.args.program.now
  same v s under =
      let numbered = slice_get-there programs c.args.self.now.program c.args.program.now rests.found in
      let alike : Some (Some v) ≡ Some (Some c.args.program.now) = sym under.numbered ∙ numbered in
      cc

  starts : (s : MachineState) → IsUnderWayAt programs open_run c.args.program.now s (part with_it c.args.number) → IsStarted c.args.program.now c.args.number s with_it c.reopen_unreserved.new.memory
  starts s under =
      let call = c.in_default.ensures in
      begins c.args.program.now c.args.number c.args.memory.now c.facts.ensures there eight unreserved enough c.reopen_unreserved.new.memory call.recorded call.all programs open_run s under c.facts-2.ensures

pub finish_started-ended-requires : goal.finish_started-ended-requires
finish_started-ended-requires g c =
    let at = (goal.at.finish_started-ended-requires g c).After-facts-2 in
    let (programs, rests) = c.requires.rests in
    let (v, s, under) = under-way-kept programs (open_run g at programs rests) c.args.number (with_it g at programs rests) (kept_begun g at programs rests) in
    let way = subst (λ p. IsUnderWayAt programs (open_run g at programs rests) p s (part (with_it g at programs rests) c.args.number)) (same g at programs rests v s under) under in
    record { room = c.in_default.ensures.room; started = (programs, s, with_it g at programs rests, way, starts g at programs rests s way) }

module _ (g : Over) (c : After-facts-3 g) (programs : List (Option Accepted)) (rests : IsReady programs c.args.self.now.program c.args.program.now c.args.number c.args.memory.now) where
  abbrev here : After-facts-2 g
  here = (goal.at.After-facts-3 g c).After-facts-2

  abbrev before : MemoryState
  before = with_it g here programs rests

  abbrev begun : KeptRun
  begun = open_run g here programs rests

  abbrev after : KeptRun
  after = c.finish_started-ended.new.self

  abbrev later : MemoryState
  later = c.finish_started-ended.new.memory

  -- its steps are those of the standard's machine
  advanced : (ended : Option ℕ) → c.finish_started-ended.result ≡ ended → (v : Accepted) (s : MachineState) → IsUnderWayAt programs begun v s (part before c.args.number)
      → HasAdvanced v s c.args.number 4294967296 (with_context c.args.context.now c.reopen_unreserved.new.run) before ended after.run later
  advanced ended is v s under =
      let is_same = same g here programs rests v s under in
      let way = subst (λ p. IsUnderWayAt programs begun p s (part before c.args.number)) is_same under in
      subst (λ p. HasAdvanced p s c.args.number 4294967296 (with_context c.args.context.now c.reopen_unreserved.new.run) before ended after.run later) (sym is_same)
      (subst (λ o. HasAdvanced c.args.program.now s c.args.number 4294967296 (with_context c.args.context.now c.reopen_unreserved.new.run) before o after.run later) is
      (c.finish_started-ended.ensures.advanced programs s before way (starts g here programs rests s way)))

  counted : c.reopen_unreserved.new.run.steps + after.run.steps ≡ after.run.steps
  counted = let none = c.in_default.ensures.steps in omega (arith, none)

  few : after.run.steps ≤ 4294967296
  few =
      let (more, most) = advanced-some programs begun after.run c.args.number 4294967296 c.finish_started-ended.result before later (kept_begun g here programs rests) (advanced c.finish_started-ended.result refl) in
      omega (arith, most, counted)

  others_kept : OtherTenantsUnchanged c.args.number before later
  others_kept =
      let call = c.in_default.ensures in
      others_later c.args.program.now c.args.number c.args.memory.now c.facts.ensures (there g here programs rests) (eight g here programs rests) (unreserved g here programs rests) (enough g here programs rests) c.reopen_unreserved.new.memory call.recorded call.all later call.others c.finish_started-ended.ensures.others

  sizes_kept : KeepsSizes before later
  sizes_kept =
      let call = c.in_default.ensures in
      sizes_later c.args.program.now c.args.number c.args.memory.now c.facts.ensures (there g here programs rests) (eight g here programs rests) (unreserved g here programs rests) (enough g here programs rests) c.reopen_unreserved.new.memory call.recorded call.all later c.finish_started-ended.ensures.sizes

  -- the steps that are made after its beginning make a whole run
  whole : (new : TenantView) (last_memory : MemoryState) (last : Reply) → HasMadeSteps c.args.number (busy_tenant programs begun) before 4294967296 (Some last) new last_memory
      → HasMadeRun c.args.number (idle_tenant programs) c.args.memory.now c.args.self.now.program c.args.context.now last new last_memory
  whole new last_memory last made =
      run-made c.args.number c.args.self.now.program c.args.context.now (idle_tenant programs) (busy_tenant programs begun) c.args.memory.now before Begun (reads_it g here programs rests) (served g here programs rests) refl new last_memory (Some last) last refl made

  -- steps up to what is asked, after which the run goes on
  first : c.finish_started-ended.result ≡ None → HasMadeSteps c.args.number (busy_tenant programs begun) before after.run.steps None (busy_tenant programs after) later
  first asked =
      made-steps programs begun after c.args.number 4294967296 after.run.steps before later
      (reads_it g here programs rests) c.facts-3.ensures others_kept sizes_kept c.finish_started-ended.ensures.program counted (advanced None asked)

  came_to : (ended : Option ℕ) → c.finish_started-ended.result ≡ ended → HasComeTo programs c.args.number c.args.self.now.program c.args.context.now c.args.memory.now (Ok ended) after later
  came_to (Some ret) is =
      let made = made-last_step programs begun after.run c.args.number 4294967296 ret after.run.steps after.run.steps before later
      (reads_it g here programs rests) c.facts-3.ensures others_kept sizes_kept counted refl (advanced (Some ret) is) in
      let last = Ended ret after.run.steps in
      whole (idle_tenant programs) later last
      (made-some c.args.number after.run.steps 4294967296 (busy_tenant programs begun) (idle_tenant programs) before later (Some last) few refl made)
  came_to None is = record {
    is = kept-made c.args.number after.run.steps (busy_tenant programs begun) (busy_tenant programs after) before later None (first is) (kept_begun g here programs rests);
    whole = λ last new last_memory made.
        let left = 4294967296 - after.run.steps in
        let joined = made-join c.args.number after.run.steps left (busy_tenant programs begun) (busy_tenant programs after) new before later last_memory (Some last) (first is) made in
        let all : after.run.steps + left ≡ 4294967296 = omega (arith, few) in
        whole new last_memory last (subst (λ k. HasMadeSteps c.args.number (busy_tenant programs begun) before k (Some last) new last_memory) all joined);
  }

pub returns-clause-made : goal.returns-clause-made
returns-clause-made g c programs rests =
    came_to g (goal.at.returns-clause-made g c).After-facts-3 programs rests c.finish_started-ended.result refl
