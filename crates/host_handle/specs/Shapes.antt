-- What a call returns and writes that asks for the shape of a map.
use Rattle.std.specs.Prelude.{◌≡◌, ℕ, Option, Some, None, MatchOption}
use Rattle.host_types.specs.Memory.{map_at}
use Rattle.page_table.specs.State.{part}
use Rattle.host_core.specs.HostView.{HostView}
use Rattle.host_handle.specs.declared.structs.BpfHostShape.{BpfHostShape}

-- a closed handle has no map; of an open one's host the map's shape is written, or nothing where the tenant has no such map
abbrev pub HasShape : ℕ → ℕ → ℕ → BpfHostShape → BpfHostShape → Option HostView → Type 0
HasShape tenant m result old new None = (result ≡ 100) × (new ≡ old)
HasShape tenant m result old new (Some host) =
    MatchOption (map_at (part host.memory tenant).maps m) ((result ≡ 34) × (new ≡ old))
    (λ flat. (result ≡ 0) × (new ≡ record { value_size = flat.shape.value_size; entries = flat.shape.entries }))
