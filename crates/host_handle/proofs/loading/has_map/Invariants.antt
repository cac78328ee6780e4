use Rattle.std.proofs.Common.{◌<◌, ℕ, is_some, false, ◌≡◌}
use Rattle.host_types.specs.Memory.{map_at}
use Rattle.page_table.specs.State.{part}
use Rattle.host_handle.proofs.loading.has_map.Given as goal

-- none of the maps so far is there
abbrev pub invariant-loop-map : goal.invariant-loop-map
invariant-loop-map l = (m : ℕ) → m < l.map → is_some (map_at (part l.host.memory l.tenant).maps m) ≡ false
