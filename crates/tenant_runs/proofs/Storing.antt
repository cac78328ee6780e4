-- A store of a run in its loop.
use Rattle.std.proofs.Common.{◌≡◌, ◌≤◌, ◌+◌, ◌*◌, ◌%◌, ◌<◌, inl, inr, ℕ, Bool, true, [], length, take, drop, Option, Some, None, refl, ap, ◌∙◌, arith}
use Rattle.std.proofs.lemmas.Bool.{cases_lt}
use Rattle.std.proofs.lemmas.List.{get_or_past, length-drop, length-take}
use Rattle.host_types.specs.Bytes.{part_of}
use Rattle.host_types.specs.Memory.{FlatMap, map_at}
use Rattle.host_types.specs.Sharing.{Sharing}
use Rattle.host_types.specs.Tenant.{TenantPart, AreFlatMaps}
use Rattle.page_table.specs.Changes.{pages_of_map}
use Rattle.page_table.specs.Reads.{ReadsAs}
use Rattle.page_table.specs.State.{MemoryState, part, map_bytes, have_of}
use Rattle.write_break.specs.Stores.{part_stored, with_pins_of, stored_sharing, store_frames}
use Rattle.write_break.proofs.Stores.{touched-within}
use Rattle.admission.specs.Reserve.{needed_by}
use Rattle.bpf_decode.specs.declared.operation.Size.{Size}
use Rattle.bpf_decode.specs.Opcodes.{byte_count}
use Rattle.interp.specs.declared.need.Need.TheVariants.{Store}
use Rattle.interp.specs.OnMaps.{HasRoomFor, KeepsRoom}
use Rattle.interp.specs.StandsFor.{AreAmong}
use Rattle.tenant_runs.specs.Storing.{HasStoreFrames}
use Rattle.tenant_runs.proofs.Rooms.{in_page, some_bytes}
use Rattle.tenant_runs.proofs.Pinning.{pages_after, stored_pays}

-- ---- the room

-- the map to whose bytes a store goes
record IsThere (owned : TenantPart) (m at n : ℕ) : Type 0 where
  flat : FlatMap
  found : map_at owned.maps m ≡ Some flat
  within : at + n ≤ length flat.bytes

there_is : (owned : TenantPart) (m at n : ℕ) → 1 ≤ n → at + n ≤ length (map_bytes owned m) → IsThere owned m at n
there_is owned m at n some within = by_map (map_at owned.maps m) refl
  where
    by_map : (there : Option FlatMap) → map_at owned.maps m ≡ there → IsThere owned m at n
    by_map None e = let none : length (map_bytes owned m) ≡ 0 = rw e refl in absurd (omega (arith, none, within, some))
    by_map (Some flat) e = record { flat = flat; found = e; within = rw e at within }

-- a tenant that has a map is there
there_tenant : (memory : MemoryState) (t m : ℕ) (flat : FlatMap) → ReadsAs memory → map_at (part memory t).maps m ≡ Some flat → t < length memory.tenants
unfolding part part_of
there_tenant memory t m flat reads found = elim (cases_lt t (length memory.tenants)) [
  | inl there ↦ there
  | inr past ↦
      let eight = reads.eight in
      let rest = length-drop (t * 8) memory.maps in
      let short = length-take 8 (drop (t * 8) memory.maps) in
      let none : map_at (take 8 (drop (t * 8) memory.maps)) m ≡ None = get_or_past (take 8 (drop (t * 8) memory.maps)) m None (omega (arith, eight, rest, short, past)) in
      absurd (cc)
]

-- so its maps are flat
pub flat_there : (memory : MemoryState) (t m at : ℕ) (size : Size) → ReadsAs memory → at + byte_count size ≤ length (map_bytes (part memory t) m)
    → ((t : ℕ) → t < length memory.tenants → length (part memory t).maps ≡ 8) → ((t : ℕ) → length (part memory t).maps ≡ 8 → AreFlatMaps (part memory t).maps) → AreFlatMaps (part memory t).maps
flat_there memory t m at size reads within eight flat =
    let there = there_is (part memory t) m at (byte_count size) (some_bytes size).0 within in
    flat t (eight t (there_tenant memory t m there.flat reads there.found))

-- a store to a map has as many pages of each map after it
pages_stored : (owned : TenantPart) (m at number : ℕ) (size : Size) (k : ℕ) → pages_of_map (part_stored owned m at (byte_count size) number) k ≡ pages_of_map owned k
pages_stored owned m at number size k = pages_after (Store m at size number) [] owned.maps k

module _ (memory : MemoryState) (t m at : ℕ) (size : Size) (reads : ReadsAs memory) (flat : AreFlatMaps (part memory t).maps) (within : at + byte_count size ≤ length (map_bytes (part memory t) m)) (aligned : at % byte_count size ≡ 0) where
  -- what a store takes, and what is needed after it, was needed before
  pays : (running : (part memory t).running ≡ true) (total : ℕ) (writes later : ℕ → Bool) (after : TenantPart) → writes m ≡ true → AreAmong later writes
      → after.pins ≡ part_of (stored_sharing (part memory t).running memory.sharing t m at (byte_count size)).pins (t * 2048) 2048 → ((k : ℕ) → pages_of_map after k ≡ pages_of_map (part memory t) k)
      → store_frames memory.sharing t m at (byte_count size) + needed_by total later after ≤ needed_by (1 + total) writes (part memory t)
  pays running total writes later after marked among pins pages =
      let there = there_is (part memory t) m at (byte_count size) (some_bytes size).0 within in
      let now = pins ∙ ap (λ (b : Bool). part_of (stored_sharing b memory.sharing t m at (byte_count size)).pins (t * 2048) 2048) running in
      let few : 1 + total ≤ 1 + total = omega arith in
      stored_pays memory t m at (byte_count size) 1 (1 + total) total writes later there.flat after reads flat there.found there.within (touched-within at (byte_count size) (in_page at size aligned)) few marked among now pages

  -- a memory that has room for a store has the frames that it takes
  pub room_enough : HasRoomFor (HasStoreFrames t) memory m → store_frames memory.sharing t m at (byte_count size) ≤ have_of memory
  room_enough (writes, marked, has) =
      let after = with_pins_of (stored_sharing (part memory t).running memory.sharing t m at (byte_count size)) t (part memory t) in
      let enough = has.frames in
      let least = pays has.running 0 writes writes after marked (λ k is. is) refl (λ k. refl) in
      omega (arith, enough, least)

  -- and has room for what comes after it
  pub room_kept : (new : MemoryState) (number : ℕ) → part new t ≡ with_pins_of new.sharing t (part_stored (part memory t) m at (byte_count size) number)
      → new.sharing ≡ stored_sharing (part memory t).running memory.sharing t m at (byte_count size) → have_of new + store_frames memory.sharing t m at (byte_count size) ≡ have_of memory → KeepsRoom (HasStoreFrames t) memory m new
  room_kept new number owned sharing have total writes later marked among has =
      let pins : (part new t).pins ≡ part_of (stored_sharing (part memory t).running memory.sharing t m at (byte_count size)).pins (t * 2048) 2048 =
      ap (λ (one : TenantPart). one.pins) owned ∙ ap (λ (s : Sharing). part_of s.pins (t * 2048) 2048) sharing in
      let pages : (k : ℕ) → pages_of_map (part new t) k ≡ pages_of_map (part memory t) k =
      λ k. ap (λ (one : TenantPart). pages_of_map one k) owned ∙ pages_stored (part memory t) m at number size k in
      let least = pays has.running total writes later (part new t) marked among pins pages in
      let enough = has.frames in
      record { running = ap (λ (one : TenantPart). one.running) owned ∙ has.running; frames = omega (arith, least, enough, have) }
