use Rattle.std.proofs.Common.{◌≡◌, ◌+◌, ℕ, ◌∙◌, arith}
use Rattle.interp.specs.Machine.{MachineState}
use Rattle.interp.proofs.OnMaps.{never_private_on}
use Rattle.tenant_runs.specs.Storing.{maps_of_part, HasStoreFrames, HasStored}
use Rattle.tenant_runs.specs.UnderWay.{IsUnderWay, part_with_have}
use Rattle.tenant_runs.proofs.Rooms.{record_keeps, keeps_twice}
use Rattle.tenant_runs.proofs.Finishing.{steps_below, followed_on}
use Rattle.tenant_runs.proofs.OnMaps.{IsAskedLater, IsEndedLater, stands_on, eight_there, eight_still, asked_later, ended_later}
use Rattle.tenant_runs.proofs.answers.finish.Goals as goal
use Rattle.tenant_runs.proofs.answers.finish.Goals.{In_default}

pub record_left-requires-clause-there : goal.record_left-requires-clause-there
record_left-requires-clause-there c =
    let finishing = c.loop-ret.invariant in
    let (s, start) = finishing.some in
    let followed = finishing.followed s start in
    eight_there c.args.program.now c.args.tenant c.loop-ret.run followed.state c.loop-ret.memory followed.under_way

pub advance_on-requires : goal.advance_on-requires
advance_on-requires c =
    let finishing = c.loop-ret.invariant in
    let (s, start) = finishing.some in
    let followed = finishing.followed s start in
    record { running = (followed.state, stands_on c.args.program.now c.args.tenant c.loop-ret.run followed.state c.loop-ret.memory c.record_left.new.memory followed.under_way c.record_left.ensures.recorded c.record_left.ensures.have) }

-- the steps with which the run ends, from a state for which it stood at the beginning
ended : (c : goal.After-steps) (s : MachineState) → IsUnderWay c.args.program.now c.args.run.now s (part_with_have c.args.memory.now c.args.tenant)
    → IsEndedLater c.args.program.now c.args.tenant s c.in-Ended.ret c.args.run.now c.advance_on.new.self c.record_left.new.memory c.advance_on.new.memory
ended c s start =
    let followed = c.loop-ret.invariant.followed s start in
    let (n, follows, more) = c.in-Ended.ensures.follows followed.state (stands_on c.args.program.now c.args.tenant c.loop-ret.run followed.state c.loop-ret.memory c.record_left.new.memory followed.under_way c.record_left.ensures.recorded c.record_left.ensures.have) in
    ended_later c.args.program.now c.args.tenant c.args.run.now c.loop-ret.run c.advance_on.new.self s c.in-Ended.ret n (part_with_have c.loop-ret.memory c.args.tenant) c.record_left.new.memory c.advance_on.new.memory followed follows more

pub returns-in-Ended-clause-ended : goal.returns-in-Ended-clause-ended
returns-in-Ended-clause-ended c s start =
    let last = ended c s start in
    (last.count, last.reaches, c.steps.ensures ∙ last.steps)

pub returns-in-Ended-clause-few : goal.returns-in-Ended-clause-few
returns-in-Ended-clause-few c =
    let (s, start) = c.loop-ret.invariant.some in
    rw c.steps.ensures (ended c s start).few

pub returns-in-Ended-clause-others : goal.returns-in-Ended-clause-others
returns-in-Ended-clause-others c t other =
    let (s, start) = c.loop-ret.invariant.some in
    (ended c s start).keeps.others t other ∙ c.record_left.ensures.others t other ∙ c.loop-ret.invariant.others t other

pub returns-in-Ended-clause-sizes : goal.returns-in-Ended-clause-sizes
returns-in-Ended-clause-sizes c =
    let (s, start) = c.loop-ret.invariant.some in
    let recorded = record_keeps c.loop-ret.memory c.record_left.new.memory c.args.tenant 0 c.record_left.ensures.all in
    keeps_twice c.args.memory.now c.record_left.new.memory c.advance_on.new.memory (keeps_twice c.args.memory.now c.loop-ret.memory c.record_left.new.memory c.loop-ret.invariant.sizes recorded) (ended c s start).keeps.sizes

-- the steps with which the run asks, from such a state: it made as many, since all that it has are allowed
asked : (c : In_default) (s : MachineState) (start : IsUnderWay c.args.program.now c.args.run.now s (part_with_have c.args.memory.now c.args.tenant))
    → (n : ℕ) × (c.advance_on.new.self.steps ≡ c.loop-ret.run.steps + n)
    × IsAskedLater c.args.program.now c.args.tenant (c.loop-ret.invariant.followed s start).state n c.advance_on.result c.advance_on.new.self c.record_left.new.memory c.advance_on.new.memory
asked c s start =
    let v = c.args.program.now in
    let finishing = c.loop-ret.invariant in
    let followed = finishing.followed s start in
    let (n, follows, more) = c.advance_on.ensures.follows followed.state (stands_on v c.args.tenant c.loop-ret.run followed.state c.loop-ret.memory c.record_left.new.memory followed.under_way c.record_left.ensures.recorded c.record_left.ensures.have) in
    let many = c.advance_on.ensures.all in
    let all = c.instructions.ensures in
    let eight = eight_still c.args.tenant c.loop-ret.memory c.record_left.new.memory (eight_there v c.args.tenant c.loop-ret.run followed.state c.loop-ret.memory followed.under_way) c.record_left.ensures.recorded in (
      n,
      more,
      asked_later v c.args.tenant followed.state n c.advance_on.result c.advance_on.new.self c.record_left.new.memory c.advance_on.new.memory
          (λ e. never_private_on (maps_of_part c.args.tenant) (HasStoreFrames c.args.tenant) (HasStored c.args.tenant) v followed.state c.record_left.new.memory c.advance_on.new.memory c.advance_on.new.self n finishing.verified (rw e at follows) (omega (arith, many e, all)))
          c.in_default.not-Ended follows eight,
    )

pub respond-requires : goal.respond-requires
respond-requires c =
    let (s, start) = c.loop-ret.invariant.some in
    let (n, more, later) = asked (goal.at.respond-requires c).In_default s start in
    record { asks = (c.args.program.now, later.asked.state, later.asked.asking) }

pub loop-ret-smaller : goal.loop-ret-smaller
loop-ret-smaller c =
    let finishing = c.loop-ret.invariant in
    let (s, start) = finishing.some in
    let followed = finishing.followed s start in
    let (n, more, later) = asked (goal.at.loop-ret-smaller c).In_default s start in
    let below = steps_below c.args.program.now c.loop-ret.run followed.state finishing.verified followed.under_way.stands in
    omega (arith, below, more, later.asked.count, c.respond.ensures.steps)

pub loop-ret-preserved : goal.loop-ret-preserved
loop-ret-preserved c =
    let v = c.args.program.now in
    let finishing = c.loop-ret.invariant in
    let (s, start) = finishing.some in
    let (n, more, later) = asked (goal.at.loop-ret-preserved c).In_default s start in
    let recorded = record_keeps c.loop-ret.memory c.record_left.new.memory c.args.tenant 0 c.record_left.ensures.all in
    record {
      verified = finishing.verified;
      some = finishing.some;
      followed = λ s start.
          let (n, more, later) = asked (goal.at.loop-ret-preserved c).In_default s start in
          followed_on v c.args.run.now c.loop-ret.run c.advance_on.new.self c.respond.new.run s c.advance_on.result n (part_with_have c.loop-ret.memory c.args.tenant) (part_with_have c.advance_on.new.memory c.args.tenant) (part_with_have c.respond.new.memory c.args.tenant)
          (finishing.followed s start) later.asked more c.respond.ensures.steps (λ t asking. c.respond.ensures.goes_on v t asking);
      others = λ t other. c.respond.ensures.others t other ∙ later.keeps.others t other ∙ c.record_left.ensures.others t other ∙ finishing.others t other;
      sizes =
          keeps_twice c.args.memory.now c.advance_on.new.memory c.respond.new.memory
          (keeps_twice c.args.memory.now c.record_left.new.memory c.advance_on.new.memory (keeps_twice c.args.memory.now c.loop-ret.memory c.record_left.new.memory finishing.sizes recorded) later.keeps.sizes) c.respond.ensures.sizes;
    }
