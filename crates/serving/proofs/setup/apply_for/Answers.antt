use Rattle.tenant_workers.specs.Calls.{memory_left}
use Rattle.serving.specs.Opened.{home_of}
use Rattle.serving.proofs.Opened.{refused_update}
use Rattle.serving.proofs.setup.apply_for.Goals as goal

pub returns-in-Err-clause-refused : goal.returns-in-Err-clause-refused
returns-in-Err-clause-refused g c =
    let seat = c.create_map-made.new.seat in
    rw c.in-CreateMap.is (c.in-Err.ensures.refused, (memory_left seat, record { tenant = seat.view.first; known = c.in-Err.ensures.kept; printed = c.in-Err.ensures.reported }))

pub returns-in-HostUpdate-clause-refused : goal.returns-in-HostUpdate-clause-refused
returns-in-HostUpdate-clause-refused g c =
    rw c.in-HostUpdate.is (refused_update c.update.result (home_of c.args.plan.now) c.update.new.seat c.in-HostUpdate.tenant c.in-HostUpdate.map c.in-HostUpdate.key c.in-HostUpdate.value
    (rw c.as_slice-in-HostUpdate.ensures at c.update.ensures.refused) c.update.ensures.reported c.update.ensures.kept)
