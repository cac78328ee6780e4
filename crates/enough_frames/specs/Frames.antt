-- Enough frames: twice as many as the maps have pages, and two (docs/GUIDE.md, "How many frames": a rule of this project).
use Rattle.std.specs.Prelude.{ℕ, ◌+◌, ◌*◌, ◌≤◌, sum_by, Bool, true, false, Option, option_map, unwrap_or}
use Rattle.host_types.specs.declared.event.Event.{Event}
use Rattle.host_types.specs.declared.event.Event.TheVariants.{CreateMap}
use Rattle.host_types.specs.declared.fault.Fault.TheVariants.{NoFrames}
use Rattle.host_types.specs.Memory.{FlatMap, FlatMaps}
use Rattle.page_table.specs.Limits.{page_count, shape_of}
use Rattle.host_core.specs.declared.reply.Reply.{Reply}
use Rattle.host_core.specs.declared.reply.Reply.TheVariants.{Refused}
use Rattle.host_core.specs.World.{Tenant, World, System}

-- how many pages a map has, where there is one
abbrev pub map_pages : Option FlatMap → ℕ
map_pages slot = unwrap_or (option_map (λ (flat : FlatMap). page_count flat.shape) slot) 0

-- how many pages maps have together
abbrev pub pages_in : FlatMaps → ℕ
pages_in maps = sum_by map_pages maps

-- how many pages the maps of all tenants have
abbrev pub pages_of_all : World → ℕ
pages_of_all w = sum_by (λ (tenant : Tenant). pages_in tenant.maps) w

-- how many pages an event is to make
abbrev pub pages_made : Event → ℕ
pages_made (CreateMap t value_size entries mergeable) = page_count (shape_of value_size entries)
pages_made event = 0

-- There are two frames for each page of the maps, also of the one that is to be made, and two more: one is the frame of zeros.
abbrev pub AreEnough : System → ℕ → Type 0
AreEnough x made = (pages_of_all x.world + made + 1) * 2 ≤ x.frames

-- a refusal for lack of frames
abbrev pub lacks_frames : Reply → Bool
lacks_frames (Refused (NoFrames need have)) = true
lacks_frames reply = false
