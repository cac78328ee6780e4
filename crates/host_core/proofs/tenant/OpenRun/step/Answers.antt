use Rattle.std.proofs.Common.{◌≡◌, ◌+◌, None, sym, subst, refl, arith}
use Rattle.interp.specs.declared.need.Need.{Need}
use Rattle.interp.specs.Machine.{MachineState}
use Rattle.interp.specs.StandsFor.{Running, StandsFor, Follows}
use Rattle.verifier.specs.Verified.{Accepted}
use Rattle.page_table.specs.State.{part}
use Rattle.host_core.specs.Batches.{IsUnderWayAt, HasMadeStep, HasAdvanced}
use Rattle.host_core.proofs.Advances.{program_is}
use Rattle.host_core.proofs.OneStep.{step_following, none_left, step_private}
use Rattle.host_core.proofs.tenant.OpenRun.step.Goals as goal
use Rattle.host_core.proofs.tenant.OpenRun.step.Goals.{In-Some}

-- the program at the run's index is the one that it runs
same : (c : In-Some) (v : Accepted) (s : MachineState) → IsUnderWayAt c.args.programs.now c.args.self.now v s (part c.args.memory.now c.args.tenant) → c.in-Some.program ≡ v
same c v s under = program_is c.args.programs.now c.args.self.now.program c.index-programs-self.result c.in-Some.program v c.index-programs-self.is c.in-Some.is under.numbered

-- so the run is one of that program
here : (c : In-Some) (v : Accepted) (s : MachineState) → IsUnderWayAt c.args.programs.now c.args.self.now v s (part c.args.memory.now c.args.tenant)
    → IsUnderWayAt c.args.programs.now c.args.self.now c.in-Some.program s (part c.args.memory.now c.args.tenant)
here c v s under = subst (λ p. IsUnderWayAt c.args.programs.now c.args.self.now p s (part c.args.memory.now c.args.tenant)) (sym (same c v s under)) under

-- and a step of it was made
made : (c : In-Some) (v : Accepted) (s : MachineState) (need : Need) (run : Running)
    → ((s : MachineState) → StandsFor c.in-Some.program c.args.self.now.run s → Follows c.in-Some.program s need run) → run.steps ≡ c.args.self.now.run.steps + 1
    → IsUnderWayAt c.args.programs.now c.args.self.now v s (part c.args.memory.now c.args.tenant)
    → HasMadeStep c.args.programs.now c.args.self.now c.in-Some.program s need run (part c.args.memory.now c.args.tenant)
made c v s need run follows counted under =
    let at = here c v s under in
    record { under = at; follows = follows s at.stands; counted = counted }

pub next-need-requires : goal.next-need-requires
next-need-requires c =
    let (v, s, under) = c.requires.under_way in
    record { running = (s, (here (goal.at.next-need-requires c).In-Some v s under).stands) }

pub returns-then-reserve-eq0-clause-advanced : goal.returns-then-reserve-eq0-clause-advanced
returns-then-reserve-eq0-clause-advanced c v s under =
    let index = (goal.at.returns-then-reserve-eq0-clause-advanced c).In-Some in
    let step = made index v s c.next-need.result c.next-need.new.self c.next-need.ensures.follows c.next-need.ensures.steps under in
    let private = subst (λ (need : Need). Follows c.in-Some.program s need c.next-need.new.self) c.in-Private.is step.follows in
    let owned = part c.args.memory.now c.args.tenant in
    let following = step_following c.args.programs.now c.args.self.now c.in-Some.program s c.args.tenant c.next-need.new.self c.args.memory.now step.under private in
    let none : owned.reserve ≡ 0 = omega (arith, c.reserve.ensures, c.if-reserve-eq0.true) in
    subst (λ p. HasAdvanced p s c.args.tenant 1 c.args.self.now.run c.args.memory.now None c.next-need.new.self c.args.memory.now) (same index v s under)
    (step_private c.args.programs.now c.args.self.now c.in-Some.program s c.args.tenant c.next-need.new.self c.args.memory.now c.args.memory.now
    step.under c.facts-2.ensures private step.counted (none_left owned _ following none) refl)

pub returns-clause-advanced : goal.returns-clause-advanced
returns-clause-advanced c v s under =
    let index = (goal.at.returns-clause-advanced c).In-Some in
    subst (λ p. HasAdvanced p s c.args.tenant 1 c.args.self.now.run c.args.memory.now c.finish_step.result c.finish_step.new.self.run c.finish_step.new.memory) (same index v s under)
    (c.finish_step.ensures.advanced c.args.programs.now c.args.self.now s
    (made index v s c.next-need.result c.next-need.new.self c.next-need.ensures.follows c.next-need.ensures.steps under))
