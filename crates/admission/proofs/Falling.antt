-- What a run may need falls: by what its stores take, and from slot to slot.
use Rattle.std.proofs.Common.{◌≡◌, ◌∙◌, ℕ, zero, suc, ◌+◌, ◌*◌, ◌<◌, ◌≤◌, Bool, true, if◌then◌else◌, List, drop, option_map, unwrap_or, Option, Some, None, IfSome, refl, ap, arith}
use Rattle.std.proofs.lemmas.List.{get_or-take, get_or-drop}
use Rattle.host_types.specs.Bytes.{part_of}
use Rattle.host_types.specs.Memory.{FlatMap, map_at}
use Rattle.host_types.specs.Sharing.{Sharing, cost_from}
use Rattle.host_types.specs.Pins.{is_pinned, broken_for_run_from, PinsOwn, unpinned_from, unpinned_in, capped}
use Rattle.host_types.specs.Tenant.{TenantPart, IsFlatMap, AreFlatMaps}
use Rattle.host_types.proofs.Pins.{reserve-pays, reserve-falls}
use Rattle.page_table.specs.Changes.{pages_of_map}
use Rattle.page_table.specs.Limits.{page_count}
use Rattle.page_table.proofs.Reading.{few_pages}
use Rattle.verifier.specs.Reserve.{reserve_from}
use Rattle.verifier.specs.Verified.{Accepted}
use Rattle.verifier.specs.Writes.{writes_from}
use Rattle.verifier.proofs.Reserves.{reserve_below}
use Rattle.verifier.proofs.Written.{writes_fall}
use Rattle.admission.specs.Reserve.{needed_by, needed_from}
use Rattle.admission.proofs.Counting.{one_unless}

-- ---- the pins of a part are those of all indices

pin_of_part : (pins : List Bool) (page_index i : ℕ) → i < 2048 → is_pinned (part_of pins page_index 2048) i ≡ is_pinned pins (page_index + i)
unfolding part_of
pin_of_part pins page_index i few = get_or-take 2048 (drop page_index pins) i true few ∙ get_or-drop page_index pins i true

unpinned_of_part : (pins : List Bool) (page_index i n : ℕ) → i + n ≤ 2048 → unpinned_from (part_of pins page_index 2048) i n ≡ unpinned_from pins (page_index + i) n
unfolding unpinned_from
unpinned_of_part pins page_index i zero few = refl
unpinned_of_part pins page_index i (suc n) few =
    let next : page_index + (i + 1) ≡ page_index + i + 1 = omega arith in
    let here = ap one_unless (pin_of_part pins page_index i (omega (arith, few))) in
    let rest = unpinned_of_part pins page_index (i + 1) n (omega (arith, few)) ∙ ap (λ (k : ℕ). unpinned_from pins k n) next in
    omega (arith, here, rest)

-- so are the numbers of pages of a tenant's maps, of which each has 256 indices
pub unpinned_of_tenant : (writes : ℕ → Bool) (pages : ℕ → ℕ) (pins : List Bool) (page_index n : ℕ) → n ≤ 8 → ((m : ℕ) → pages m ≤ 256)
    → unpinned_in writes pages (part_of pins page_index 2048) 0 n ≡ unpinned_in writes pages pins page_index n
unfolding unpinned_in
unpinned_of_tenant writes pages pins page_index zero few small = refl
unpinned_of_tenant writes pages pins page_index (suc m) few small =
    let rest = unpinned_of_tenant writes pages pins page_index m (omega (arith, few)) small in
    let most = small m in
    let same = unpinned_of_part pins page_index (0 + m * 256) (pages m) (omega (arith, few, most)) in
    let there : page_index + (0 + m * 256) ≡ page_index + m * 256 = omega arith in
    let here = ap (λ (k : ℕ). if writes m then k else 0) (same ∙ ap (λ (k : ℕ). unpinned_from pins k (pages m)) there) in
    omega (arith, rest, here)

-- ---- what is reported by the pages of each map

pub same_pages : (writes : ℕ → Bool) (pages others : ℕ → ℕ) (pins : List Bool) (page_index n : ℕ) → ((m : ℕ) → pages m ≡ others m) → unpinned_in writes pages pins page_index n ≡ unpinned_in writes others pins page_index n
unfolding unpinned_in
same_pages writes pages others pins page_index zero same = refl
same_pages writes pages others pins page_index (suc m) same =
    let rest = same_pages writes pages others pins page_index m same in
    let here = ap (λ (k : ℕ). if writes m then unpinned_from pins (page_index + m * 256) k else 0) (same m) in
    omega (arith, rest, here)

-- a map has at most 256 pages
pub few_of_map : (owned : TenantPart) → AreFlatMaps owned.maps → (m : ℕ) → pages_of_map owned m ≤ 256
few_of_map owned are m = by_map (map_at owned.maps m) (are.each m)
  where
    by_map : (there : Option FlatMap) → IfSome there IsFlatMap → unwrap_or (option_map (λ (flat : FlatMap). page_count flat.shape) there) 0 ≤ 256
    by_map None is = omega arith
    by_map (Some flat) is = few_pages flat.shape is.shape

-- parts with the same pins, and as many pages of each map, need the same
pub needed_kept : (total : ℕ) (writes : ℕ → Bool) (owned other : TenantPart) → owned.pins ≡ other.pins → ((m : ℕ) → pages_of_map owned m ≡ pages_of_map other m) → needed_by total writes owned ≡ needed_by total writes other
needed_kept total writes owned other pins same =
    ap (capped total) (same_pages writes (pages_of_map owned) (pages_of_map other) owned.pins 0 8 same ∙ ap (λ (p : List Bool). unpinned_in writes (pages_of_map other) p 0 8) pins)

-- ---- what may be needed falls

-- where nothing is written
pub needed_falls : (total less : ℕ) (writes fewer : ℕ → Bool) (owned : TenantPart) → less ≤ total → ((m : ℕ) → fewer m ≡ true → writes m ≡ true) → needed_by less fewer owned ≤ needed_by total writes owned
needed_falls total less writes fewer owned few among = reserve-falls total less 0 writes fewer (pages_of_map owned) owned.pins among few

-- at a later slot no more is needed
pub needed_later : (v : Accepted) (owned : TenantPart) (slot later : ℕ) → slot ≤ later → needed_from v owned later ≤ needed_from v owned slot
needed_later v owned slot later ahead =
    needed_falls (reserve_from v slot) (reserve_from v later) (writes_from v slot) (writes_from v later) owned (reserve_below v slot later ahead) (λ m. writes_fall v slot later m ahead)

-- A store of a tenant's open run to pages of one of its maps: what it takes, and what is needed after it, was needed before. So many frames
-- are charged for it as pages are written, and what is charged falls off the total.
pub needed_pays : (s : Sharing) (t i k charge total less m0 : ℕ) (writes fewer : ℕ → Bool) (owned after : TenantPart) → PinsOwn s
    → owned.pins ≡ part_of s.pins (t * 2048) 2048 → after.pins ≡ part_of (broken_for_run_from true s i k).pins (t * 2048) 2048
    → ((m : ℕ) → pages_of_map after m ≡ pages_of_map owned m) → ((m : ℕ) → pages_of_map owned m ≤ 256)
    → ((m : ℕ) → fewer m ≡ true → writes m ≡ true) → m0 < 8 → writes m0 ≡ true
    → t * 2048 + m0 * 256 ≤ i → i + k ≤ t * 2048 + m0 * 256 + pages_of_map owned m0 → k ≤ charge → charge + less ≤ total
    → cost_from s i k + needed_by less fewer after ≤ needed_by total writes owned
needed_pays s t i k charge total less m0 writes fewer owned after own pins pins_after same small among below marked above within charged falls =
    let page_index = t * 2048 in
    let pages = pages_of_map owned in
    let before : needed_by total writes owned ≡ capped total (unpinned_in writes pages s.pins page_index 8) =
    ap (capped total) (ap (λ (p : List Bool). unpinned_in writes pages p 0 8) pins ∙ unpinned_of_tenant writes pages s.pins page_index 8 (omega arith) small) in
    let later : needed_by less fewer after ≡ capped less (unpinned_in fewer pages (broken_for_run_from true s i k).pins page_index 8) =
    ap (capped less) (same_pages fewer (pages_of_map after) pages after.pins 0 8 same ∙ ap (λ (p : List Bool). unpinned_in fewer pages p 0 8) pins_after
    ∙ unpinned_of_tenant fewer pages (broken_for_run_from true s i k).pins page_index 8 (omega arith) small) in
    let pays = reserve-pays s i k charge total less page_index m0 writes fewer pages own among below marked above within charged falls in
    omega (arith, before, later, pays)
