use Rattle.std.proofs.Common.{◌≡◌, ◌≤◌, ℕ, ◌+◌, List, Option, length, ◌∙◌, min, subst, refl, ap, arith}
use Rattle.host_types.specs.Pins.{released}
use Rattle.bpf_decode.specs.Text.{instructions_of}
use Rattle.verifier.specs.Verified.{Accepted}
use Rattle.interp.specs.declared.need.Need.{Need}
use Rattle.interp.specs.declared.need.Need.TheVariants.{Ended, Update, Delete}
use Rattle.interp.specs.Machine.{MachineState}
use Rattle.interp.specs.OnMaps.{FollowsOn}
use Rattle.page_table.specs.Changes.{OtherTenantsUnchanged}
use Rattle.page_table.specs.State.{MemoryState, part}
use Rattle.tenant_runs.specs.Fulfilment.{KeepsSizes}
use Rattle.tenant_runs.specs.Storing.{maps_of_part, HasStoreFrames, HasStored}
use Rattle.tenant_runs.proofs.OnMaps.{Keeps}
use Rattle.tenant_runs.proofs.Rooms.{ended_keeps, keeps_twice}
use Rattle.host_core.specs.Batches.{IsUnderWayAt, on_context}
use Rattle.host_core.proofs.Advances.{IsStarted, stands_at, kept_on, ended_advanced, asked_advanced, asked_at, asking_at, asks_to_change}
use Rattle.host_core.proofs.tenant.OpenRun.finish_started.Given.{Over}
use Rattle.host_core.proofs.tenant.OpenRun.finish_started.Goals as goal
use Rattle.host_core.proofs.tenant.OpenRun.finish_started.Goals.{After-finish_on}

module _ (g : Over) (c : After-finish_on g) where
  -- from a state in which the kept run is under way
  module _ (programs : List (Option Accepted)) (s : MachineState) (before : MemoryState) (here : IsUnderWayAt programs (on_context c.args.context.now c.args.self.now) c.args.program.now s (part before c.args.tenant)) (start : IsStarted c.args.program.now c.args.tenant s before c.args.memory.now) where
    -- so its steps are those of the standard's machine from there
    followed : (need : Need) → c.finish_on.result ≡ need
        → (n : ℕ) × FollowsOn (maps_of_part c.args.tenant) (HasStoreFrames c.args.tenant) (HasStored c.args.tenant) c.args.program.now s c.args.memory.now n need c.finish_on.new.self c.finish_on.new.memory
        × (c.finish_on.new.self.steps ≡ c.args.self.now.run.steps + n)
    followed need is =
        let (n, follows, made) = c.finish_on.ensures.follows s (stands_at programs (on_context c.args.context.now c.args.self.now) c.args.program.now s c.args.tenant before c.args.memory.now here start) in
        (n, subst (λ (need : Need). FollowsOn (maps_of_part c.args.tenant) (HasStoreFrames c.args.tenant) (HasStored c.args.tenant) c.args.program.now s c.args.memory.now n need c.finish_on.new.self c.finish_on.new.memory) is follows, made)

  -- what they keep of the memory
  kept : Keeps c.args.tenant c.args.memory.now c.finish_on.new.memory × (length (part c.finish_on.new.memory c.args.tenant).maps ≡ 8)
  kept =
      let (programs, s, before, under, start) = c.requires.started in
      let (n, follows, made) = followed programs s before under start c.finish_on.result refl in
      kept_on c.args.program.now c.args.tenant s n c.finish_on.result c.finish_on.new.self before c.args.memory.now c.finish_on.new.memory start follows

  others_kept : OtherTenantsUnchanged c.args.tenant c.args.memory.now c.finish_on.new.memory
  others_kept t other = kept.0.others t other

  sizes_kept : KeepsSizes c.args.memory.now c.finish_on.new.memory
  sizes_kept = kept.0.sizes

  -- how many they may be
  many : c.lesser-most.result ≡ min (instructions_of c.args.program.now.subject.text) 4294967296
  many = c.lesser-most.ensures ∙ ap (λ all. min all 4294967296) c.instructions.ensures

  few : c.finish_on.new.self.steps ≤ c.args.self.now.run.steps + c.lesser-most.result
  few =
      let most : c.lesser-most.result ≡ instructions_of c.args.program.now.subject.text = omega (arith, many, min) in
      omega (arith, most, c.finish_on.ensures.few)

pub finish_on-requires : goal.finish_on-requires
finish_on-requires g c =
    let (programs, s, before, under, start) = c.requires.started in
    record { room = c.requires.room; running = (s, stands_at programs (on_context c.args.context.now c.args.self.now) c.args.program.now s c.args.tenant before c.args.memory.now under start) }

pub release-requires : goal.release-requires
release-requires g c = record { there = (kept g (goal.at.release-requires g c).After-finish_on).1 }

pub answer_update-requires : goal.answer_update-requires
answer_update-requires g c =
    let (programs, s, before, under, start) = c.requires.started in
    let at = (goal.at.answer_update-requires g c).After-finish_on in
    let (n, follows, made) = followed g at programs s before under start (Update c.in-Update.map c.in-Update.key c.in-Update.flags) c.in-Update.is in
    let asked = asked_at c.args.program.now c.args.tenant s n (Update c.in-Update.map c.in-Update.key c.in-Update.flags) c.finish_on.new.self c.args.memory.now c.finish_on.new.memory (λ is. cc) (λ number is. cc) follows in
    record { asks = (asked.here, asking_at c.args.program.now c.args.tenant s n (Update c.in-Update.map c.in-Update.key c.in-Update.flags) c.finish_on.new.self before c.args.memory.now c.finish_on.new.memory start asked) }

pub answer_delete-requires : goal.answer_delete-requires
answer_delete-requires g c =
    let (programs, s, before, under, start) = c.requires.started in
    let at = (goal.at.answer_delete-requires g c).After-finish_on in
    let (n, follows, made) = followed g at programs s before under start (Delete c.in-Delete.map c.in-Delete.key) c.in-Delete.is in
    let asked = asked_at c.args.program.now c.args.tenant s n (Delete c.in-Delete.map c.in-Delete.key) c.finish_on.new.self c.args.memory.now c.finish_on.new.memory (λ is. cc) (λ number is. cc) follows in
    record { asks = (asked.here, asking_at c.args.program.now c.args.tenant s n (Delete c.in-Delete.map c.in-Delete.key) c.finish_on.new.self before c.args.memory.now c.finish_on.new.memory start asked) }

pub returns-in-Ended-clause-advanced : goal.returns-in-Ended-clause-advanced
returns-in-Ended-clause-advanced g c programs s before under start =
    let at = (goal.at.returns-in-Ended-clause-advanced g c).After-finish_on in
    let sharing : c.release.new.memory.sharing ≡ released c.finish_on.new.memory.sharing c.args.tenant = ap (λ (memory : MemoryState). memory.sharing) c.release.ensures.all in
    (ended_advanced programs (on_context c.args.context.now c.args.self.now) c.args.program.now s c.args.tenant 4294967296 c.lesser-most.result c.in-Ended.ret c.finish_on.new.self before c.args.memory.now c.finish_on.new.memory c.release.new.memory
    start (many g at) (followed g at programs s before under start (Ended c.in-Ended.ret) c.in-Ended.is) (few g at) c.release.ensures.recorded sharing)

pub returns-in-Ended-clause-others : goal.returns-in-Ended-clause-others
returns-in-Ended-clause-others g c t other = c.release.ensures.others t other ∙ others_kept g (goal.at.returns-in-Ended-clause-others g c).After-finish_on t other

pub returns-in-Ended-clause-sizes : goal.returns-in-Ended-clause-sizes
returns-in-Ended-clause-sizes g c =
    keeps_twice c.args.memory.now c.finish_on.new.memory c.release.new.memory (sizes_kept g (goal.at.returns-in-Ended-clause-sizes g c).After-finish_on)
    (ended_keeps c.finish_on.new.memory c.release.new.memory c.args.tenant c.release.ensures.all)

pub returns-in-Update : goal.returns-in-Update
returns-in-Update g c =
    let at = (goal.at.returns-in-Update g c).After-finish_on in
    record {
      program = refl;
      advanced = λ programs s before under start.
          (asked_advanced (on_context c.args.context.now c.args.self.now) c.args.program.now s c.args.tenant 4294967296 c.lesser-most.result (Update c.in-Update.map c.in-Update.key c.in-Update.flags) c.finish_on.new.self c.answer_update.new.run before c.args.memory.now c.finish_on.new.memory c.answer_update.new.memory
          start (many g at) (λ is. cc) (λ number is. cc) (followed g at programs s before under start (Update c.in-Update.map c.in-Update.key c.in-Update.flags) c.in-Update.is) (few g at)
          c.answer_update.ensures.goes_on c.answer_update.ensures.reserve c.answer_update.ensures.steps c.answer_update.ensures.sharing);
      others = λ t other. c.answer_update.ensures.others t other ∙ others_kept g at t other;
      sizes = keeps_twice c.args.memory.now c.finish_on.new.memory c.answer_update.new.memory (sizes_kept g at) c.answer_update.ensures.sizes;
    }

pub returns-in-Delete : goal.returns-in-Delete
returns-in-Delete g c =
    let at = (goal.at.returns-in-Delete g c).After-finish_on in
    record {
      program = refl;
      advanced = λ programs s before under start.
          (asked_advanced (on_context c.args.context.now c.args.self.now) c.args.program.now s c.args.tenant 4294967296 c.lesser-most.result (Delete c.in-Delete.map c.in-Delete.key) c.finish_on.new.self c.answer_delete.new.run before c.args.memory.now c.finish_on.new.memory c.answer_delete.new.memory
          start (many g at) (λ is. cc) (λ number is. cc) (followed g at programs s before under start (Delete c.in-Delete.map c.in-Delete.key) c.in-Delete.is) (few g at)
          c.answer_delete.ensures.goes_on c.answer_delete.ensures.reserve c.answer_delete.ensures.steps c.answer_delete.ensures.sharing);
      others = λ t other. c.answer_delete.ensures.others t other ∙ others_kept g at t other;
      sizes = keeps_twice c.args.memory.now c.finish_on.new.memory c.answer_delete.new.memory (sizes_kept g at) c.answer_delete.ensures.sizes;
    }

pub unreachable-requires : goal.unreachable-requires
unreachable-requires g c =
    let (programs, s, before, under, start) = c.requires.started in
    let (n, follows, made) = followed g (goal.at.unreachable-requires g c).After-finish_on programs s before under start c.finish_on.result refl in
    asks_to_change c.args.program.now c.args.tenant s n c.finish_on.result c.finish_on.new.self c.args.memory.now c.finish_on.new.memory c.finish_on.ensures.some c.in_default.not-Ended c.in_default.not-Update c.in_default.not-Delete follows
