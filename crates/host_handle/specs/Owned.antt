-- What a pointer that leads to a host owns.
use Rattle.std.specs.Prelude.{Option, Some, None}
use base.Fml.{Fml, ftrue}
use base.Stored.{Coded}
use denote.RawPtr.{Ptr}
use Rattle.std.specs.contracts.impls.GlobalAllocator.TheImpl.{ghosts}
use Rattle.std_alloc.specs.Box.Ownership.{box_owns}
use Rattle.host_core.specs.HostView.{HostView}
use Rattle.host_core.specs.contracts.host.Host.{the_row}

abbrev pub coded_host : Coded HostView
coded_host = the_row.coded

-- a boxed host that stands for this, if there is one
abbrev pub owned : Ptr → Option HostView → Fml
owned at None = ftrue
owned at (Some host) = box_owns (ghosts.dealloc_token (record { memory = record { seal = tt } })) the_row at host
