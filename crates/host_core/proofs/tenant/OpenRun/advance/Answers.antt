use Rattle.std.proofs.Common.{◌≡◌, subst, sym, ◌∙◌}
use Rattle.verifier.specs.Verified.{Accepted}
use Rattle.interp.specs.Machine.{MachineState}
use Rattle.page_table.specs.State.{part}
use Rattle.tenant_runs.proofs.Rooms.{record_keeps, keeps_twice}
use Rattle.host_core.specs.Batches.{IsUnderWayAt, IsStarted, HasAdvanced}
use Rattle.host_core.proofs.Advances.{program_is, started}
use Rattle.host_core.proofs.tenant.OpenRun.advance.Goals as goal
use Rattle.host_core.proofs.tenant.OpenRun.advance.Goals.{In-Some, After-facts-3}

-- in a state in which the kept run is under way its program was found
module _ (c : In-Some) (v : Accepted) (s : MachineState) (under : IsUnderWayAt c.args.programs.now c.args.self.now v s (part c.args.memory.now c.args.number)) where
  same : c.in-Some.program ≡ v
  same = program_is c.args.programs.now c.args.self.now.program c.index-programs-self.result c.in-Some.program v c.index-programs-self.is c.in-Some.is under.numbered

  here : IsUnderWayAt c.args.programs.now c.args.self.now c.in-Some.program s (part c.args.memory.now c.args.number)
  here = subst (λ p. IsUnderWayAt c.args.programs.now c.args.self.now p s (part c.args.memory.now c.args.number)) (sym same) under

module _ (c : After-facts-3) (v : Accepted) (s : MachineState) (under : IsUnderWayAt c.args.programs.now c.args.self.now v s (part c.args.memory.now c.args.number)) where
  abbrev found : In-Some
  found = (goal.at.After-facts-3 c).In-Some

  -- what was reserved may be had
  start : IsStarted c.in-Some.program c.args.number s c.args.memory.now c.record_left.new.memory
  start = started c.args.programs.now c.args.self.now c.in-Some.program s c.args.number c.args.memory.now c.record_left.new.memory (here found v s under) c.facts-2.ensures c.facts-3.ensures c.record_left.ensures.recorded c.record_left.ensures.have c.record_left.ensures.all

pub record_left-requires-clause-there : goal.record_left-requires-clause-there
record_left-requires-clause-there c =
    let (v, s, under) = c.requires.under_way in
    rw under.maps under.stands.state.maps.eight

pub advance_started-requires-clause-started : goal.advance_started-requires-clause-started
advance_started-requires-clause-started c =
    let (v, s, under) = c.requires.under_way in
    let at = (goal.at.advance_started-requires-clause-started c).After-facts-3 in
    (c.args.programs.now, s, c.args.memory.now, here (found at v s under) v s under, start at v s under)

pub returns-clause-advanced : goal.returns-clause-advanced
returns-clause-advanced c v s under =
    let at = (goal.at.returns-clause-advanced c).After-facts-3 in
    subst (λ p. HasAdvanced p s c.args.number c.args.limit c.args.self.now.run c.args.memory.now c.advance_started.result c.advance_started.new.self.run c.advance_started.new.memory) (same (found at v s under) v s under)
    (c.advance_started.ensures.advanced c.args.programs.now s c.args.memory.now (here (found at v s under) v s under) (start at v s under))

pub returns-clause-others : goal.returns-clause-others
returns-clause-others c t other = c.advance_started.ensures.others t other ∙ c.record_left.ensures.others t other

pub returns-clause-sizes : goal.returns-clause-sizes
returns-clause-sizes c =
    keeps_twice c.args.memory.now c.record_left.new.memory c.advance_started.new.memory (record_keeps c.args.memory.now c.record_left.new.memory c.args.number 0 c.record_left.ensures.all) c.advance_started.ensures.sizes
