-- Events of a host, and whom they name (this project's own rules, docs/HOST.md).
use Rattle.std.specs.Prelude.{ℕ, Option, Some, None}
use Rattle.host_types.specs.declared.event.Event.{Event}
use Rattle.host_types.specs.declared.event.Event.TheVariants.{CreateMap, Load, Begin, Step, HostUpdate, HostLookup, Unload, DropMap}

-- the tenant that an event names, if it names one
abbrev pub tenant_of : Event → Option ℕ
tenant_of (CreateMap t value_size entries mergeable) = Some t
tenant_of (Load t text size) = Some t
tenant_of (Begin t k context) = Some t
tenant_of (Step t) = Some t
tenant_of (HostUpdate t m key value) = Some t
tenant_of (HostLookup t m key) = Some t
tenant_of (Unload t k) = Some t
tenant_of (DropMap t m) = Some t
tenant_of event = None
