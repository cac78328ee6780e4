use Rattle.std.proofs.Common.{◌≡◌, ℕ, ◌+◌, List, Option, length, ◌∙◌, min, subst, refl, ap, arith}
use Rattle.host_types.specs.Pins.{released}
use Rattle.bpf_decode.specs.Text.{instructions_of}
use Rattle.verifier.specs.Verified.{Accepted}
use Rattle.admission.specs.Reserve.{needed_from}
use Rattle.interp.specs.declared.need.Need.{Need}
use Rattle.interp.specs.declared.need.Need.TheVariants.{Private, Ended}
use Rattle.interp.specs.Machine.{MachineState}
use Rattle.interp.specs.OnMaps.{FollowsOn}
use Rattle.page_table.specs.Changes.{OtherTenantsUnchanged}
use Rattle.page_table.specs.State.{MemoryState, part}
use Rattle.tenant_runs.specs.Fulfilment.{KeepsSizes}
use Rattle.tenant_runs.specs.Storing.{maps_of_part, HasStoreFrames, HasStored}
use Rattle.tenant_runs.proofs.OnMaps.{Keeps}
use Rattle.tenant_runs.proofs.Rooms.{record_keeps, ended_keeps, keeps_twice}
use Rattle.host_core.specs.Batches.{IsUnderWayAt}
use Rattle.host_core.proofs.Advances.{IsStarted, stands_at, kept_on, private_room, private_advanced, ended_advanced, asked_advanced, asked_at, asking_at}
use Rattle.host_core.proofs.tenant.OpenRun.advance_started.Goals as goal
use Rattle.host_core.proofs.tenant.OpenRun.advance_started.Goals.{After-advance_on}

module _ (c : After-advance_on) where
  -- from a state in which the kept run is under way
  module _ (programs : List (Option Accepted)) (s : MachineState) (before : MemoryState) (here : IsUnderWayAt programs c.args.self.now c.args.program.now s (part before c.args.number)) (start : IsStarted c.args.program.now c.args.number s before c.args.memory.now) where
    -- so its steps are those of the standard's machine from there
    followed : (need : Need) → c.advance_on.result ≡ need
        → (n : ℕ) × FollowsOn (maps_of_part c.args.number) (HasStoreFrames c.args.number) (HasStored c.args.number) c.args.program.now s c.args.memory.now n need c.advance_on.new.self c.advance_on.new.memory
        × (c.advance_on.new.self.steps ≡ c.args.self.now.run.steps + n)
    followed need is =
        let (n, follows, made) = c.advance_on.ensures.follows s (stands_at programs c.args.self.now c.args.program.now s c.args.number before c.args.memory.now here start) in
        (n, subst (λ (need : Need). FollowsOn (maps_of_part c.args.number) (HasStoreFrames c.args.number) (HasStored c.args.number) c.args.program.now s c.args.memory.now n need c.advance_on.new.self c.advance_on.new.memory) is follows, made)

  -- what they keep of the memory
  kept : Keeps c.args.number c.args.memory.now c.advance_on.new.memory × (length (part c.advance_on.new.memory c.args.number).maps ≡ 8)
  kept =
      let (programs, s, before, under, start) = c.requires.started in
      let (n, follows, made) = followed programs s before under start c.advance_on.result refl in
      kept_on c.args.program.now c.args.number s n c.advance_on.result c.advance_on.new.self before c.args.memory.now c.advance_on.new.memory start follows

  others_kept : OtherTenantsUnchanged c.args.number c.args.memory.now c.advance_on.new.memory
  others_kept t other = kept.0.others t other

  sizes_kept : KeepsSizes c.args.memory.now c.advance_on.new.memory
  sizes_kept = kept.0.sizes

  -- how many they may be
  many : c.lesser-steps.result ≡ min (instructions_of c.args.program.now.subject.text) c.args.limit
  many = c.lesser-steps.ensures ∙ ap (λ all. min all c.args.limit) c.instructions.ensures

pub advance_on-requires : goal.advance_on-requires
advance_on-requires c =
    let (programs, s, before, under, start) = c.requires.started in
    record { running = (s, stands_at programs c.args.self.now c.args.program.now s c.args.number before c.args.memory.now under start) }

pub record-requires-clause-there : goal.record-requires-clause-there
record-requires-clause-there c = (kept (goal.at.record-requires-clause-there c).After-advance_on).1

pub record-requires-clause-room : goal.record-requires-clause-room
record-requires-clause-room c =
    let (programs, s, before, under, start) = c.requires.started in
    let (n, private, made) = followed (goal.at.record-requires-clause-room c).After-advance_on programs s before under start Private c.in-Private.is in
    let room = private_room c.args.program.now c.args.number s n c.advance_on.new.self c.args.memory.now c.advance_on.new.memory private in
    rw (c.needed-left.ensures, c.slot.ensures) (omega (arith, room))

pub release-requires : goal.release-requires
release-requires c = record { there = (kept (goal.at.release-requires c).After-advance_on).1 }

pub answer-requires : goal.answer-requires
answer-requires c =
    let (programs, s, before, under, start) = c.requires.started in
    let at = (goal.at.answer-requires c).After-advance_on in
    let (n, follows, made) = followed at programs s before under start c.advance_on.result refl in
    let asked = asked_at c.args.program.now c.args.number s n c.advance_on.result c.advance_on.new.self c.args.memory.now c.advance_on.new.memory c.in_default.not-Private c.in_default.not-Ended follows in
    record { asks = (asked.here, asking_at c.args.program.now c.args.number s n c.advance_on.result c.advance_on.new.self before c.args.memory.now c.advance_on.new.memory start asked) }

pub returns-in-Private-clause-advanced : goal.returns-in-Private-clause-advanced
returns-in-Private-clause-advanced c programs s before under start =
    let at = (goal.at.returns-in-Private-clause-advanced c).After-advance_on in
    let left : c.needed-left.result ≡ needed_from c.args.program.now (part c.advance_on.new.memory c.args.number) c.advance_on.new.self.slot =
    c.needed-left.ensures ∙ ap (needed_from c.args.program.now (part c.advance_on.new.memory c.args.number)) c.slot.ensures in
    let sharing : c.record.new.self.sharing ≡ c.advance_on.new.memory.sharing = ap (λ (memory : MemoryState). memory.sharing) c.record.ensures.all in
    (private_advanced programs c.args.self.now c.args.program.now s c.args.number c.args.limit c.lesser-steps.result c.advance_on.new.self before c.args.memory.now c.advance_on.new.memory c.record.new.self
    under start c.facts.ensures c.requires.some (many at) (followed at programs s before under start Private c.in-Private.is) (c.advance_on.ensures.all c.in-Private.is) (rw left at c.record.ensures.recorded) sharing)

pub returns-in-Private-clause-others : goal.returns-in-Private-clause-others
returns-in-Private-clause-others c t other = c.record.ensures.others t other ∙ others_kept (goal.at.returns-in-Private-clause-others c).After-advance_on t other

pub returns-in-Private-clause-sizes : goal.returns-in-Private-clause-sizes
returns-in-Private-clause-sizes c =
    keeps_twice c.args.memory.now c.advance_on.new.memory c.record.new.self (sizes_kept (goal.at.returns-in-Private-clause-sizes c).After-advance_on)
    (record_keeps c.advance_on.new.memory c.record.new.self c.args.number _ c.record.ensures.all)

pub returns-in-Ended-clause-advanced : goal.returns-in-Ended-clause-advanced
returns-in-Ended-clause-advanced c programs s before under start =
    let at = (goal.at.returns-in-Ended-clause-advanced c).After-advance_on in
    let sharing : c.release.new.memory.sharing ≡ released c.advance_on.new.memory.sharing c.args.number = ap (λ (memory : MemoryState). memory.sharing) c.release.ensures.all in
    (ended_advanced programs c.args.self.now c.args.program.now s c.args.number c.args.limit c.lesser-steps.result c.in-Ended.ret c.advance_on.new.self before c.args.memory.now c.advance_on.new.memory c.release.new.memory
    start (many at) (followed at programs s before under start (Ended c.in-Ended.ret) c.in-Ended.is) c.advance_on.ensures.limit c.release.ensures.recorded sharing)

pub returns-in-Ended-clause-others : goal.returns-in-Ended-clause-others
returns-in-Ended-clause-others c t other = c.release.ensures.others t other ∙ others_kept (goal.at.returns-in-Ended-clause-others c).After-advance_on t other

pub returns-in-Ended-clause-sizes : goal.returns-in-Ended-clause-sizes
returns-in-Ended-clause-sizes c =
    keeps_twice c.args.memory.now c.advance_on.new.memory c.release.new.memory (sizes_kept (goal.at.returns-in-Ended-clause-sizes c).After-advance_on)
    (ended_keeps c.advance_on.new.memory c.release.new.memory c.args.number c.release.ensures.all)

pub returns-in_default : goal.returns-in_default
returns-in_default c =
    let at = (goal.at.returns-in_default c).After-advance_on in
    record {
      program = refl;
      advanced = λ programs s before under start.
          (asked_advanced c.args.self.now c.args.program.now s c.args.number c.args.limit c.lesser-steps.result c.advance_on.result c.advance_on.new.self c.answer.new.run before c.args.memory.now c.advance_on.new.memory c.answer.new.memory
          start (many at) c.in_default.not-Private c.in_default.not-Ended (followed at programs s before under start c.advance_on.result refl) c.advance_on.ensures.limit
          c.answer.ensures.goes_on c.answer.ensures.reserve c.answer.ensures.steps c.answer.ensures.sharing);
      others = λ t other. c.answer.ensures.others t other ∙ others_kept at t other;
      sizes = keeps_twice c.args.memory.now c.advance_on.new.memory c.answer.new.memory (sizes_kept at) c.answer.ensures.sizes;
    }
