use Rattle.std.proofs.Common.{◌≡◌, ◌∙◌, refl, subst, ap, arith}
use Rattle.host_types.specs.Pins.{released}
use Rattle.admission.specs.Reserve.{needed_from}
use Rattle.interp.specs.declared.need.Need.{Need}
use Rattle.interp.specs.StandsFor.{Follows}
use Rattle.page_table.specs.State.{MemoryState, part}
use Rattle.tenant_runs.proofs.Rooms.{record_keeps, ended_keeps}
use Rattle.host_core.proofs.OneStep.{asks_of, step_asking, step_following, step_private, step_ended, step_answered}
use Rattle.host_core.proofs.tenant.OpenRun.finish_step.Goals as goal

pub record-requires-clause-there : goal.record-requires-clause-there
record-requires-clause-there c =
    let (programs, kept, s, made) = c.requires.made in
    rw made.under.maps made.under.stands.state.maps.eight

pub record-requires-clause-room : goal.record-requires-clause-room
record-requires-clause-room c =
    let (programs, kept, s, made) = c.requires.made in
    let private = subst (λ (need : Need). Follows c.args.program.now s need c.args.self.now.run) c.in-Private.is made.follows in
    let following = step_following programs kept c.args.program.now s c.args.tenant c.args.self.now.run c.args.memory.now made.under private in
    rw (c.needed-left.ensures, c.slot.ensures) (omega (arith, following))

pub release-requires : goal.release-requires
release-requires c =
    let (programs, kept, s, made) = c.requires.made in
    record { there = rw made.under.maps made.under.stands.state.maps.eight }

pub answer-requires : goal.answer-requires
answer-requires c =
    let (programs, kept, s, made) = c.requires.made in
    let asks = asks_of c.args.program.now s c.args.need c.args.self.now.run c.in_default.not-Private c.in_default.not-Ended made.follows in
    record { asks = (s, step_asking programs kept c.args.program.now s c.args.tenant c.args.need c.args.self.now.run c.args.memory.now made.under asks) }

pub returns-in-Private-clause-advanced : goal.returns-in-Private-clause-advanced
returns-in-Private-clause-advanced c programs kept s made =
    let private = subst (λ (need : Need). Follows c.args.program.now s need c.args.self.now.run) c.in-Private.is made.follows in
    let owned = part c.args.memory.now c.args.tenant in
    let left : c.needed-left.result ≡ needed_from c.args.program.now owned c.args.self.now.run.slot =
    c.needed-left.ensures ∙ ap (needed_from c.args.program.now owned) c.slot.ensures in
    let sharing : c.record.new.self.sharing ≡ c.args.memory.now.sharing = ap (λ (memory : MemoryState). memory.sharing) c.record.ensures.all in
    step_private programs kept c.args.program.now s c.args.tenant c.args.self.now.run c.args.memory.now c.record.new.self
    made.under c.facts.ensures private made.counted (rw left at c.record.ensures.recorded) sharing

pub returns-in-Private-clause-others : goal.returns-in-Private-clause-others
returns-in-Private-clause-others c = c.record.ensures.others

pub returns-in-Private-clause-sizes : goal.returns-in-Private-clause-sizes
returns-in-Private-clause-sizes c = record_keeps c.args.memory.now c.record.new.self c.args.tenant _ c.record.ensures.all

pub returns-in-Ended-clause-advanced : goal.returns-in-Ended-clause-advanced
returns-in-Ended-clause-advanced c programs kept s made =
    let ends = subst (λ (need : Need). Follows c.args.program.now s need c.args.self.now.run) c.in-Ended.is made.follows in
    let sharing : c.release.new.memory.sharing ≡ released c.args.memory.now.sharing c.args.tenant = ap (λ (memory : MemoryState). memory.sharing) c.release.ensures.all in
    step_ended programs kept c.args.program.now s c.args.tenant c.in-Ended.ret c.args.self.now.run c.args.memory.now c.release.new.memory
    made.under ends made.counted c.release.ensures.recorded sharing

pub returns-in-Ended-clause-others : goal.returns-in-Ended-clause-others
returns-in-Ended-clause-others c = c.release.ensures.others

pub returns-in-Ended-clause-sizes : goal.returns-in-Ended-clause-sizes
returns-in-Ended-clause-sizes c = ended_keeps c.args.memory.now c.release.new.memory c.args.tenant c.release.ensures.all

pub returns-in_default : goal.returns-in_default
returns-in_default c = record {
  program = refl;
  advanced = λ programs kept s made.
      let asks = asks_of c.args.program.now s c.args.need c.args.self.now.run c.in_default.not-Private c.in_default.not-Ended made.follows in
      step_answered programs kept c.args.program.now s c.args.tenant c.args.need c.args.self.now.run c.answer.new.run c.args.memory.now c.answer.new.memory
      made.under asks made.counted c.answer.ensures.goes_on c.answer.ensures.reserve c.answer.ensures.steps c.answer.ensures.sharing;
  others = c.answer.ensures.others;
  sizes = c.answer.ensures.sizes;
}
