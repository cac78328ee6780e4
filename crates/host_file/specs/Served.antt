-- Which host files are served (docs/HOST.md): those that ask for nothing but what threads beside each other can do.
use Rattle.std.specs.Prelude.{ℕ, ◌<◌}
use Rattle.host_types.specs.declared.event.Event.{Event}
use Rattle.host_types.specs.declared.event.Event.TheVariants.{CreateMap, Load, HostUpdate, HostLookup, Set}
use Rattle.host_file.specs.declared.command.Command.{Command}
use Rattle.host_file.specs.declared.command.Command.TheVariants.{Apply, Run, Visit}

-- a map, a program, a value or an option, or a value that is looked up, of one of so many tenants
abbrev pub IsServedEvent : ℕ → Event → Type 0
IsServedEvent tenants (CreateMap tenant value_size entries mergeable) = tenant < tenants
IsServedEvent tenants (Load tenant text context_size) = tenant < tenants
IsServedEvent tenants (HostUpdate tenant map number value) = tenant < tenants
IsServedEvent tenants (HostLookup tenant map number) = tenant < tenants
IsServedEvent tenants (Set opt value) = Unit {0}
IsServedEvent tenants _ = ⊥

-- one of those, a whole run of one of so many tenants, or visits
abbrev pub IsServedCommand : ℕ → Command → Type 0
IsServedCommand tenants (Apply event) = IsServedEvent tenants event
IsServedCommand tenants (Run tenant program context) = tenant < tenants
IsServedCommand tenants (Visit count) = Unit {0}
IsServedCommand tenants _ = ⊥
