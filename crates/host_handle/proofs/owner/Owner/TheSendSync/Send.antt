-- A handle may go to another thread: what a host owns says the same to each.
use Rattle.std.proofs.Common.{Option, Some, None}
use mir.Raw.{raw}
use base.Shift.{Keyless}
use denote.Memory.{lone}
use denote.RawPtr.{Ptr}
use denote.Struct.Struct.{exits_of}
use denote.Struct.Owning.{shape, fields, to}
use denote.Param.Send.{IsSend, AllSend, owning_send, struct_send, sendable}
use Rattle.std.proofs.Crossing as heap
use Rattle.std_alloc.proofs.SendSync.{quiet, lies}
use Rattle.host_core.specs.HostView.{HostView}
use Rattle.host_core.specs.contracts.host.Host as host
use Rattle.host_core.proofs.host.Host.TheSendSync.{the_send as host_crosses}
use Rattle.host_handle.specs.Owned.{owned}
use Rattle.host_handle.specs.contracts.owner.Owner.{the_row, the_type}

crosses : (at : Ptr) (kept : Option HostView) → Keyless (owned at kept)
crosses at None = tt
crosses at (Some value) = (lies host.the_row host_crosses at value, heap.frees.frees (record { memory = record { seal = tt } }) (raw (lone host.the_row.mir)) at)

pub send : IsSend the_row
send =
    let all : AllSend (fields the_type) = (search sendable, tt) in
    owning_send the_type all (λ owner. crosses owner.at owner.host)
    (λ k. quiet (to the_type) (exits_of k (fields the_type)) ((struct_send (shape the_type) all).leaving k))
