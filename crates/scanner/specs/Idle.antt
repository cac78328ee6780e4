-- When a visit does nothing.
use Rattle.std.specs.Prelude.{◌≡◌, ◌≢◌, ◌⊎◌, ℕ, false}
use Rattle.host_types.specs.Sharing.{Sharing, state_at}
use Rattle.host_types.specs.Visits.{is_mergeable}

-- the scanner is stopped, or no page may be merged
abbrev pub ScansNothing : Sharing → Type 0
ScansNothing sharing = (sharing.options.run ≢ 1) ⊎ ((i : ℕ) → is_mergeable (state_at sharing i) ≡ false)
