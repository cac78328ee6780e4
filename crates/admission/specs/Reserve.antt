-- How many frames are reserved for a run (this project's own rule): what its stores may take, and no more than the pages
-- that they may take out.
use Rattle.std.specs.Prelude.{ℕ, Bool, false, replicate, option_map, unwrap_or}
use Rattle.host_types.specs.Pins.{unpinned_in, capped}
use Rattle.host_types.specs.Tenant.{TenantPart}
use Rattle.page_table.specs.Changes.{pages_of_map}
use Rattle.page_table.specs.Limits.{page_count}
use Rattle.verifier_kinds.specs.Kinds.{shape_at}
use Rattle.verifier.specs.Reserve.{reserve_from}
use Rattle.verifier.specs.Subject.{Subject}
use Rattle.verifier.specs.Verified.{Accepted}
use Rattle.verifier.specs.Writes.{writes_from}

-- how many pages a map has that a program has a shape for
abbrev pub pages_asked : Subject → ℕ → ℕ
pages_asked p m = unwrap_or (option_map page_count (shape_at p.shapes m)) 0

-- What stores may need that take so much in all and write these maps alone: no more than the pages of these maps that
-- aren't pinned.
abbrev pub needed_by : ℕ → (ℕ → Bool) → TenantPart → ℕ
needed_by total writes owned = capped total (unpinned_in writes (pages_of_map owned) owned.pins 0 8)

-- what the rest of a tenant's run of a program may need from a slot on
abbrev pub needed_from : Accepted → TenantPart → ℕ → ℕ
needed_from v owned slot = needed_by (reserve_from v slot) (writes_from v slot) owned

-- what a run of a program may need where no page is pinned, by the shapes that the program has for its maps
abbrev pub whole_need : Accepted → ℕ
whole_need v = capped (reserve_from v 0) (unpinned_in (writes_from v 0) (pages_asked v.subject) (replicate 2048 false) 0 8)
