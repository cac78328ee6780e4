-- Which pages a store touches, and what it does to the pages that share frames (this project's own
-- rule, in the manner of Linux's KSM).
use Rattle.std.specs.Prelude.{◌≡◌, ℕ, zero, suc, ◌+◌, ◌-◌, ◌*◌, ◌/◌, Bool, List, length}
use Rattle.host_types.specs.Bytes.{bytes_of, part_of, with_part}
use Rattle.host_types.specs.Pages.{map_index_of}
use Rattle.host_types.specs.Pins.{broken_for_run_from}
use Rattle.host_types.specs.Sharing.{Sharing, cost_from}
use Rattle.host_types.specs.Tenant.{TenantPart}
use Rattle.page_table.specs.Changes.{with_pins, part_written, AreMapsKeptBut, OtherTenantsUnchanged, KeepsSettings}
use Rattle.page_table.specs.State.{MemoryState, part, map_bytes, have_of}

-- how many pages some bytes of a map lie on; no bytes lie on none
unfoldable pub touched : ℕ → ℕ → ℕ
touched at zero = 0
touched at (suc n) = (at + n) / 4096 - at / 4096 + 1

-- the index, among all pages, of the page that a byte of a tenant's map is in
abbrev pub page_of_byte : ℕ → ℕ → ℕ → ℕ
page_of_byte tenant m at = map_index_of tenant m * 256 + at / 4096

-- the state of sharing after a store, by an open run or by none: the pages of its bytes are broken, one after another in
-- page order
abbrev pub stored_sharing : Bool → Sharing → ℕ → ℕ → ℕ → ℕ → Sharing
stored_sharing running sharing tenant m at size = broken_for_run_from running sharing (page_of_byte tenant m at) (touched at size)

-- how many frames a store takes: what these breaks take, each after the breaks before it
abbrev pub store_frames : Sharing → ℕ → ℕ → ℕ → ℕ → ℕ
store_frames sharing tenant m at size = cost_from sharing (page_of_byte tenant m at) (touched at size)

-- a tenant's part with a number written as `size` bytes of its map m
abbrev pub part_stored : TenantPart → ℕ → ℕ → ℕ → ℕ → TenantPart
part_stored owned m at size number = part_written owned m at (bytes_of size number)

-- a tenant's part with the pins that a state of sharing has of it: which pages a store pins hangs on the pages that share
-- frames, and not on the part alone
abbrev pub with_pins_of : Sharing → ℕ → TenantPart → TenantPart
with_pins_of sharing tenant owned = with_pins (part_of sharing.pins (tenant * 2048) 2048) owned

-- what a store of bytes into a tenant's map m does to a memory, all of it; the pages that it takes out are pinned, or aren't
pub record IsStored (is_pinned : Bool) (old new : MemoryState) (tenant m at : ℕ) (input : List ℕ) : Type 0 where
  pub written : part new tenant ≡ with_pins_of new.sharing tenant (part_written (part old tenant) m at input)
  pub bytes : map_bytes (part new tenant) m ≡ with_part (map_bytes (part old tenant) m) at input
  pub sized : length (map_bytes (part new tenant) m) ≡ length (map_bytes (part old tenant) m)
  pub other_maps : AreMapsKeptBut m (part old tenant) (part new tenant)
  pub others : OtherTenantsUnchanged tenant old new
  pub sharing : new.sharing ≡ stored_sharing is_pinned old.sharing tenant m at (length input)
  pub have : have_of new + store_frames old.sharing tenant m at (length input) ≡ have_of old
  pub settings : KeepsSettings old new
