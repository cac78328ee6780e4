-- A tenant's maps in the memory of all, as a run on them finds them.
use Rattle.std.specs.Prelude.{◌≡◌, ◌≤◌, ◌+◌, ℕ, Bool, true}
use Rattle.host_types.specs.Memory.{FlatMaps}
use Rattle.bpf_decode.specs.declared.operation.Size.{Size}
use Rattle.bpf_decode.specs.Opcodes.{byte_count}
use Rattle.page_table.specs.Changes.{OtherTenantsUnchanged, KeepsSettings}
use Rattle.page_table.specs.Reads.{ReadsAs}
use Rattle.page_table.specs.State.{MemoryState, part, have_of}
use Rattle.write_break.specs.Stores.{part_stored, with_pins_of, stored_sharing, store_frames}
use Rattle.admission.specs.Reserve.{needed_by}
use Rattle.interp.specs.OnMaps.{KeepsRoom}

-- the tenant's maps
abbrev pub maps_of_part : ℕ → MemoryState → FlatMaps
maps_of_part tenant memory = (part memory tenant).maps

-- the memory has the frames for stores of the tenant's open run that take so many at most and write these maps alone
pub record HasStoreFrames (tenant : ℕ) (memory : MemoryState) (total : ℕ) (writes : ℕ → Bool) : Type 0 where
  pub running : (part memory tenant).running ≡ true
  pub frames : needed_by total writes (part memory tenant) ≤ have_of memory

-- What a store of the low bytes of a number makes of the memory: the tenant's map has them, a page that shared its frame is broken, and
-- pinned for an open run; no other tenant's part changes; it takes the frames of the break, of those for stores of which it is one, and the
-- memory is one as ever.
pub record HasStored (tenant : ℕ) (old : MemoryState) (m at : ℕ) (size : Size) (number : ℕ) (new : MemoryState) : Type 0 where
  pub owned : part new tenant ≡ with_pins_of new.sharing tenant (part_stored (part old tenant) m at (byte_count size) number)
  pub others : OtherTenantsUnchanged tenant old new
  pub sharing : new.sharing ≡ stored_sharing (part old tenant).running old.sharing tenant m at (byte_count size)
  pub settings : KeepsSettings old new
  pub have : have_of new + store_frames old.sharing tenant m at (byte_count size) ≡ have_of old
  pub room : KeepsRoom (HasStoreFrames tenant) old m new
  pub reads : ReadsAs new
