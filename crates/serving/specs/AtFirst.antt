-- What a tenant of a new memory has.
use Rattle.std.specs.Prelude.{◌≡◌, false, replicate, None}
use Rattle.atomic_table.specs.Seated.{TableId}
use Rattle.host_types.specs.Tenant.{TenantPart}
use Rattle.turn.specs.Seats.{SeatState, IsIdle, own_part}

-- eight entries without a map, and no open run
abbrev pub first_part : TenantPart
first_part = record { maps = replicate 8 None; reserve = 0; running = false; pins = replicate 2048 false }

-- a tenant's seat holds nothing, and its tenant has that
pub record IsAtFirst (turn : TableId) (seat : SeatState) : Type 0 where
  pub idle : IsIdle turn seat
  pub first : own_part seat ≡ first_part
