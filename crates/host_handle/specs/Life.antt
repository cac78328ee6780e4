-- How a handle is opened.
use Rattle.std.specs.Prelude.{◌≡◌, ℕ, Option, Some, None}
use Rattle.host_types.specs.declared.fault.Fault.{Fault}
use Rattle.host_types.specs.declared.options.Options.{Options}
use Rattle.host_types.specs.OptionTable.{AreOptions}
use Rattle.host_types.specs.Refusals.{fault_number}
use Rattle.page_table.specs.Changes.{RefusesMemory}
use Rattle.page_table.specs.Limits.{AreLimits}
use Rattle.host_core.specs.World.{new_system}
use Rattle.host_core.specs.HostView.{HostView, StandsForSystem}
use Rattle.host_handle.specs.declared.structs.BpfHostOptions.{BpfHostOptions}

-- the options as the host takes them
abbrev pub options_of : BpfHostOptions → Options
options_of options = record {
  pages_to_scan = options.pages_to_scan;
  run = options.run;
  use_zero_pages = options.use_zero_pages;
  max_page_sharing = options.max_page_sharing;
}

-- An open handle stays as it is. A closed one holds a new host then, or stays closed for a reason that holds.
abbrev pub IsOpened : ℕ → ℕ → BpfHostOptions → ℕ → Option HostView → Option HostView → Type 0
IsOpened frames tenants options result (Some old) new = (result ≡ 101) × (new ≡ Some old)
IsOpened frames tenants options result None None =
    (fault : Fault) × (result ≡ fault_number fault) × RefusesMemory frames tenants (options_of options) fault
IsOpened frames tenants options result None (Some host) =
    (result ≡ 0) × AreLimits frames tenants × AreOptions (options_of options)
    × StandsForSystem host (new_system frames tenants (options_of options))
