-- What a store of a tenant's open run takes, and what the rest of the run needs after it, was needed before.
use Rattle.std.proofs.Common.{◌≡◌, ◌≤◌, ◌<◌, ◌+◌, ◌*◌, ◌/◌, ◌==◌, inl, inr, ℕ, zero, suc, nat_le, nat_lt, Bool, true, false, if◌then◌else◌, List, [], ◌∷◌, length, slice_set, Option, Some, None, option_map, unwrap_or, refl, sym, ap, ◌∙◌, arith}
use Rattle.std.proofs.lemmas.Bool.{cases_lt}
use Rattle.std.proofs.lemmas.Bool.Decides.{nat_tests}
use Rattle.std.proofs.lemmas.List.{get_or_past}
use Rattle.host_types.specs.declared.shape.Shape.{Shape}
use Rattle.host_types.specs.Bytes.{part_of, with_part}
use Rattle.host_types.specs.Helpers.{element_at, update_answer, update_charge, map_updated, maps_updated, exist, failed, einval, e2big}
use Rattle.host_types.specs.Memory.{FlatMap, FlatMaps, map_at}
use Rattle.host_types.specs.Shapes.{byte_len_of}
use Rattle.host_types.specs.Sharing.{Sharing}
use Rattle.host_types.specs.Tenant.{TenantPart, IsFlatMap, AreFlatMaps}
use Rattle.host_types.proofs.Elements.{element-in-map}
use Rattle.page_table.specs.Changes.{pages_of_map}
use Rattle.page_table.specs.Limits.{page_count}
use Rattle.page_table.specs.Reads.{ReadsAs}
use Rattle.page_table.specs.State.{MemoryState, part, have_of}
use Rattle.write_break.specs.Stores.{touched, page_of_byte, with_pins_of, stored_sharing, store_frames}
use Rattle.write_break.proofs.Stores.{touched-within}
use Rattle.map_helpers.specs.Updates.{update_frames}
use Rattle.map_helpers.proofs.Charges.{touched-charged}
use Rattle.map_helpers.proofs.Updates.{cost-refused, cost-written, sharing-refused, sharing-written}
use Rattle.verifier.specs.Reserve.{reserve_from}
use Rattle.verifier.specs.Verified.{Accepted}
use Rattle.verifier.specs.Writes.{writes_from}
use Rattle.admission.specs.Reserve.{needed_by, needed_from}
use Rattle.admission.proofs.Falling.{few_of_map, needed_kept, needed_falls, needed_pays}
use Rattle.bpf_decode.specs.Opcodes.{byte_count}
use Rattle.interp.specs.declared.need.Need.{Need}
use Rattle.interp.specs.declared.need.Need.TheVariants.{Private, Ended, Load, Store, Lookup, Update, Delete}
use Rattle.interp.specs.Machine.{MachineState}
use Rattle.interp.specs.Needs.{LieInMap, map_stored, maps_after}
use Rattle.interp.specs.StandsFor.{Running, Asks, AreAmong}
use Rattle.tenant_runs.specs.Fulfilment.{frames_fulfilled, part_fulfilled, sharing_fulfilled}
use Rattle.tenant_runs.specs.UnderWay.{IsAsking, part_with_have}
use Rattle.tenant_runs.proofs.Rooms.{in_page}

-- ---- what a store leaves of a part

-- a tenant's pins are those of its pages
pub own_pins : (memory : MemoryState) (t : ℕ) → (part memory t).pins ≡ part_of memory.sharing.pins (t * 2048) 2048
unfolding part
own_pins memory t = refl

pub pinned_itself : (memory : MemoryState) (t : ℕ) → part memory t ≡ with_pins_of memory.sharing t (part memory t)
unfolding part
pinned_itself memory t = refl

-- how many pages what may be a map has
abbrev pages_in : Option FlatMap → ℕ
pages_in there = unwrap_or (option_map (λ (flat : FlatMap). page_count flat.shape) there) 0

-- a change that keeps a map's shape keeps how many pages each map has
pages_set : (maps : FlatMaps) (m k : ℕ) (f : FlatMap → FlatMap) → ((flat : FlatMap) → (f flat).shape ≡ flat.shape) → pages_in (map_at (slice_set maps m (option_map f (map_at maps m))) k) ≡ pages_in (map_at maps k)
pages_set [] m k f same = refl
pages_set (there ∷ maps) zero zero f same = by_map there
  where
    by_map : (there : Option FlatMap) → pages_in (option_map f there) ≡ pages_in there
    by_map None = refl
    by_map (Some flat) = ap page_count (same flat)
pages_set (there ∷ maps) zero (suc k) f same = refl
pages_set (there ∷ maps) (suc m) zero f same = refl
pages_set (there ∷ maps) (suc m) (suc k) f same = pages_set maps m k f same

-- so does what a run asks
pub pages_after : (need : Need) (value : List ℕ) (maps : FlatMaps) (k : ℕ) → pages_in (map_at (maps_after need value maps) k) ≡ pages_in (map_at maps k)
unfolding maps_updated map_updated
pages_after Private value maps k = refl
pages_after (Ended number) value maps k = refl
pages_after (Load m at size) value maps k = refl
pages_after (Store m at size number) value maps k = pages_set maps m k (map_stored at size number) (λ flat. refl)
pages_after (Lookup m key) value maps k = refl
pages_after (Delete m key) value maps k = refl
pages_after (Update m key flags) value maps k = pages_set maps m k (map_updated key value flags) (λ flat. by_test flat (update_answer flat.shape key flags == 0))
  where
    by_test : (flat : FlatMap) (b : Bool) → (if b then record flat { bytes = with_part flat.bytes (element_at flat.shape key) value } else flat).shape ≡ flat.shape
    by_test flat true = refl
    by_test flat false = refl

-- ---- what a store takes

-- a map that is there has one of eight numbers
few_there : (maps : FlatMaps) (m : ℕ) (flat : FlatMap) → length maps ≡ 8 → map_at maps m ≡ Some flat → m < 8
few_there maps m flat eight there = elim (cases_lt m 8) [
  | inl less ↦ less
  | inr past ↦ let none : map_at maps m ≡ None = get_or_past maps m None (omega (arith, eight, past)) in absurd (cc)
]

-- bytes within a map lie on its pages
touched_inside : (at n len : ℕ) → at + n ≤ len → at / 4096 + touched at n ≤ (len + 4095) / 4096
unfolding touched
touched_inside at zero len within = omega (arith, within)
touched_inside at (suc n) len within = omega (arith, within)

pub stored_pays : (memory : MemoryState) (t m at n charge total less : ℕ) (writes fewer : ℕ → Bool) (there : FlatMap) (after : TenantPart) → ReadsAs memory → AreFlatMaps (part memory t).maps → map_at (part memory t).maps m ≡ Some there
    → at + n ≤ length there.bytes → touched at n ≤ charge → charge + less ≤ total → writes m ≡ true → AreAmong fewer writes
    → after.pins ≡ part_of (stored_sharing true memory.sharing t m at n).pins (t * 2048) 2048 → ((k : ℕ) → pages_of_map after k ≡ pages_of_map (part memory t) k)
    → store_frames memory.sharing t m at n + needed_by less fewer after ≤ needed_by total writes (part memory t)
stored_pays memory t m at n charge total less writes fewer there after reads flat found within charged falls marked among pins pages =
    let is : IsFlatMap there = rw found at (flat.each m) in
    let sized = is.sized in
    let few = few_there (part memory t).maps m there flat.eight found in
    let inside : at / 4096 + touched at n ≤ page_count there.shape = touched_inside at n (byte_len_of there.shape) (omega (arith, within, sized)) in
    let counted : pages_of_map (part memory t) m ≡ page_count there.shape = ap pages_in found in
    let above : t * 2048 + m * 256 ≤ page_of_byte t m at = omega arith in
    let below : page_of_byte t m at + touched at n ≤ t * 2048 + m * 256 + pages_of_map (part memory t) m = omega (arith, inside, counted) in
    needed_pays memory.sharing t (page_of_byte t m at) (touched at n) charge total less m writes fewer (part memory t) after reads.pinned (own_pins memory t) pins pages (few_of_map (part memory t) flat) among few marked above below charged falls

-- ---- what is asked takes

-- an update that is answered by 0 is one of an element that is there
element_there : (shape : Shape) (key flags : ℕ) → (update_answer shape key flags == 0) ≡ true → key < shape.entries
unfolding update_answer
element_there shape key flags answered = elim (cases_lt key shape.entries) [
  | inl less ↦ less
  | inr past ↦
      let beyond : nat_le shape.entries key ≡ true = grind (arith, nat_tests, past) in
      by_flags (nat_lt exist flags) (rw beyond at answered)
]
  where
    by_flags : (b : Bool) → ((if b then failed einval else failed e2big) == 0) ≡ true → key < shape.entries
    by_flags true e = absurd (cc)
    by_flags false e = absurd (cc)

-- where nothing is written, no more is needed after
quiet_pays : (v : Accepted) (s : MachineState) (run : Running) (memory : MemoryState) (t : ℕ) (after : TenantPart) (frames charge : ℕ) → frames ≡ 0 → charge + reserve_from v run.slot ≤ reserve_from v s.slot → AreAmong (writes_from v run.slot) (writes_from v s.slot)
    → after.pins ≡ part_of memory.sharing.pins (t * 2048) 2048 → ((k : ℕ) → pages_of_map after k ≡ pages_of_map (part memory t) k)
    → frames + needed_from v after run.slot ≤ needed_from v (part memory t) s.slot
quiet_pays v s run memory t after frames charge none charged among pins pages =
    let same : needed_from v after run.slot ≡ needed_from v (part memory t) run.slot = needed_kept (reserve_from v run.slot) (writes_from v run.slot) after (part memory t) (pins ∙ sym (own_pins memory t)) pages in
    let falls = needed_falls (reserve_from v s.slot) (reserve_from v run.slot) (writes_from v s.slot) (writes_from v run.slot) (part memory t) (omega (arith, charged)) among in
    omega (arith, none, same, falls)

-- What a run asks, and what the rest of the run needs after it, was needed before.
pub fulfilled_pays : (v : Accepted) (s : MachineState) (need : Need) (run : Running) (memory : MemoryState) (t : ℕ) (after : TenantPart) → ReadsAs memory → AreFlatMaps (part memory t).maps → IsAsking v s need run (part_with_have memory t)
    → after.pins ≡ part_of (sharing_fulfilled (part memory t) memory.sharing t need).pins (t * 2048) 2048 → ((k : ℕ) → pages_of_map after k ≡ pages_of_map (part memory t) k)
    → frames_fulfilled (part memory t) memory.sharing t need + needed_from v after run.slot ≤ needed_from v (part memory t) s.slot
fulfilled_pays v s Private run memory t after reads flat asking pins pages = absurd asking.asks.may
fulfilled_pays v s (Ended number) run memory t after reads flat asking pins pages = absurd asking.asks.may
fulfilled_pays v s (Load m at size) run memory t after reads flat asking pins pages =
    quiet_pays v s run memory t after 0 0 refl asking.asks.charged asking.asks.fewer pins pages
fulfilled_pays v s (Lookup m key) run memory t after reads flat asking pins pages =
    quiet_pays v s run memory t after 0 0 refl asking.asks.charged asking.asks.fewer pins pages
fulfilled_pays v s (Delete m key) run memory t after reads flat asking pins pages =
    quiet_pays v s run memory t after 0 0 refl asking.asks.charged asking.asks.fewer pins pages
fulfilled_pays v s (Store m at size number) run memory t after reads flat asking pins pages =
    let asks = asking.asks in
    let may : LieInMap asks.flat at size = asks.may in
    let found : map_at (part memory t).maps m ≡ Some asks.flat = ap (λ (maps : FlatMaps). map_at maps m) asking.maps ∙ asks.there in
    let running : (part memory t).running ≡ true = asking.running in
    let pinned = pins ∙ ap (λ (b : Bool). part_of (stored_sharing b memory.sharing t m at (byte_count size)).pins (t * 2048) 2048) running in
    stored_pays memory t m at (byte_count size) 1 (reserve_from v s.slot) (reserve_from v run.slot) (writes_from v s.slot) (writes_from v run.slot) asks.flat after reads flat found
    may.within (touched-within at (byte_count size) (in_page at size may.aligned)) asks.charged asks.among asks.fewer pinned pages
fulfilled_pays v s (Update m key flags) run memory t after reads flat asking pins pages = by_answer (update_answer asks.flat.shape key flags == 0) refl
  where
    asks : Asks v s (Update m key flags) run
    asks = asking.asks

    found : map_at (part memory t).maps m ≡ Some asks.flat
    found = ap (λ (maps : FlatMaps). map_at maps m) asking.maps ∙ asks.there

    shaped : option_map (λ (flat : FlatMap). flat.shape) (map_at (part memory t).maps m) ≡ Some asks.flat.shape
    shaped = ap (option_map (λ (flat : FlatMap). flat.shape)) found

    running : (part memory t).running ≡ true
    running = asking.running

    is : IsFlatMap asks.flat
    is = rw found at (flat.each m)

    charged : update_charge asks.flat.shape + reserve_from v run.slot ≤ reserve_from v s.slot
    charged = asks.charged

    by_answer : (b : Bool) → (update_answer asks.flat.shape key flags == 0) ≡ b
        → update_frames (part memory t) memory.sharing t m key flags + needed_from v after run.slot ≤ needed_from v (part memory t) s.slot
    by_answer true answered =
        let there = element_there asks.flat.shape key flags answered in
        let within = element-in-map asks.flat.shape key there in
        let sized = is.sized in
        let frames = cost-written asks.flat.shape memory.sharing t m key flags (map_at (part memory t).maps m) shaped answered in
        let stored = sharing-written asks.flat.shape (part memory t).running memory.sharing t m key flags (map_at (part memory t).maps m) shaped answered in
        let pinned = pins ∙ ap (λ (s : Sharing). part_of s.pins (t * 2048) 2048) stored
        ∙ ap (λ (b : Bool). part_of (stored_sharing b memory.sharing t m (element_at asks.flat.shape key) asks.flat.shape.value_size).pins (t * 2048) 2048) running in
        let pays = stored_pays memory t m (element_at asks.flat.shape key) asks.flat.shape.value_size (update_charge asks.flat.shape) (reserve_from v s.slot) (reserve_from v run.slot) (writes_from v s.slot) (writes_from v run.slot) asks.flat after reads flat found
        (omega (arith, within, sized)) (touched-charged asks.flat.shape key is.shape) charged asks.among asks.fewer pinned pages in
        omega (arith, frames, pays)
    by_answer false refused =
        let none = cost-refused asks.flat.shape memory.sharing t m key flags (map_at (part memory t).maps m) shaped refused in
        let kept = sharing-refused asks.flat.shape (part memory t).running memory.sharing t m key flags (map_at (part memory t).maps m) shaped refused in
        quiet_pays v s run memory t after (update_frames (part memory t) memory.sharing t m key flags) (update_charge asks.flat.shape) none charged asks.fewer (pins ∙ ap (λ (s : Sharing). part_of s.pins (t * 2048) 2048) kept) pages

-- so it takes no more than is reserved or may be had
pub fulfilled_room : (v : Accepted) (s : MachineState) (need : Need) (run : Running) (memory : MemoryState) (t : ℕ) (value : List ℕ) → ReadsAs memory → AreFlatMaps (part memory t).maps → IsAsking v s need run (part_with_have memory t)
    → frames_fulfilled (part memory t) memory.sharing t need ≤ have_of memory + (part memory t).reserve
fulfilled_room v s need run memory t value reads flat asking =
    let after = with_pins_of (sharing_fulfilled (part memory t) memory.sharing t need) t (part_fulfilled (part memory t) need value) in
    let pays = fulfilled_pays v s need run memory t after reads flat asking refl (pages_after need value (part memory t).maps) in
    let enough : needed_from v (part memory t) s.slot ≤ have_of memory + (part memory t).reserve = asking.reserve in
    omega (arith, pays, enough)
