use Rattle.std.proofs.Common.{◌≡◌, replicate, vec_capacity, vec_len}
use Rattle.std.specs.List.{AllZip}
use Rattle.host_core.specs.World.{new_tenant}
use Rattle.host_core.specs.HostView.{StandsForTenant}
use Rattle.host_core.proofs.host.Host.new.Given as goal

abbrev pub invariant-loop : goal.invariant-loop
invariant-loop l = record {
  room : vec_capacity l.entries ≡ l.tenants;
  given : vec_len l.entries ≡ l.counter;
  new : AllZip StandsForTenant l.entries.items (replicate l.counter new_tenant);
}
