use Rattle.std.proofs.Common.{◌≡◌, ◌≤◌, refl, ap, arith, rules}
use Rattle.host_types.specs.Tenant.{TenantPart}
use Rattle.verifier.specs.Named.{named_shapes}
use Rattle.page_table.specs.Changes.{with_run}
use Rattle.admission.specs.Reserve.{needed_from}
use Rattle.interp.specs.Fits.{HaveShapes}
use Rattle.interp.specs.Machine.{start_state}
use Rattle.tenant_runs.specs.UnderWay.{IsUnderWay}
use Rattle.turn.specs.Seats.{own_part}
use Rattle.tenant_workers.proofs.Turns.{gone_further}
use Rattle.tenant_workers.proofs.shared.Shared.run.Goals as goal

-- the run begins at the standard's start on the maps of the seat, and its end leaves the maps
pub returns-clause-ran : goal.returns-clause-ran
returns-clause-ran g c =
    let owned = own_part c.args.seat.now in
    let v = c.args.program.now in
    let shapes : HaveShapes (named_shapes v.subject) owned.maps = search rules in
    let recorded : own_part c.begin.new.seat ≡ with_run (needed_from v owned 0) owned = search rules in
    let stands = c.requires.fresh.begun owned.maps c.facts.ensures shapes in
    let enough : needed_from v owned c.args.run.slot ≤ needed_from v owned 0 = rw stands.slot (omega arith) in
    let way : IsUnderWay v c.args.run (start_state c.args.run.context owned.maps) (own_part c.begin.new.seat) = rw recorded (record { stands = stands; maps = refl; running = refl; reserve = enough }) in
    let (n, reaches, count) = c.drive-reply.ensures.ended (start_state c.args.run.context owned.maps) way in
    let steps : c.drive-reply.result.steps ≡ n = omega (arith, count, c.requires.fresh.steps) in
    let kept : (own_part c.end.new.seat).maps ≡ (own_part c.drive-reply.new.seat).maps = ap (λ (one : TenantPart). one.maps) c.end.ensures.released in
    record {
      shapes = shapes;
      sized = search rules;
      runs = rw (kept, steps) reaches;
      few = search rules;
      released = search rules;
      ended = search rules;
      unpinned = search rules;
    }

-- the turns of its beginning, of its steps and of its end
pub returns-clause-turns : goal.returns-clause-turns
returns-clause-turns g c =
    gone_further c.args.seat.now c.drive-reply.new.seat c.end.new.seat (gone_further c.args.seat.now c.begin.new.seat c.drive-reply.new.seat c.begin.ensures.turns c.drive-reply.ensures.turns) c.end.ensures.turns
