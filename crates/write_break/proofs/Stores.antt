-- A store page by page does what the whole store does.
use Rattle.std.proofs.Common.{◌≡◌, ◌∙◌, ◌⊎◌, ⊎_elim, ℕ, zero, suc, ◌+◌, ◌-◌, ◌*◌, ◌/◌, ◌%◌, ◌<◌, ◌≤◌, Bool, true, false, List, [], ◌∷◌, ◌++◌, length, take, drop, slice_set, Option, Some, None, option_map, unwrap_or, refl, sym, ap, arith}
use Rattle.std.proofs.lemmas.List.{get_or-set_same, set-get_or, set-set, append_assoc, length-append, length-take, take_at, drop_at, drop-drop}
use Rattle.host_types.specs.Bytes.{part_of, with_part}
use Rattle.host_types.specs.Memory.{FlatMap, FlatMaps, map_at}
use Rattle.host_types.specs.Sharing.{Sharing, state_at, is_shared_page, broken, break_cost, pages_broken, cost_from}
use Rattle.host_types.specs.Pins.{broken_for_run, broken_for_run_from}
use Rattle.host_types.proofs.Unmerging.{broken-own, broken-shared}
use Rattle.host_types.proofs.Pins.{cost-by}
use Rattle.host_types.specs.Tenant.{TenantPart}
use Rattle.page_table.specs.State.{MemoryState, part, map_bytes, have_of}
use Rattle.page_table.specs.Changes.{with_pins, map_written, part_written, AreMapsKeptBut, OtherTenantsUnchanged, KeepsSettings}
use Rattle.page_table.proofs.Creating.{with_part-none}
use Rattle.write_break.specs.Stores.{touched, page_of_byte, with_pins_of, stored_sharing, store_frames, IsStored}

-- some bytes lie on the pages from their first one to their last one
pub touched-some : (at n : ℕ) → 0 < n → touched at n ≡ (at + n - 1) / 4096 - at / 4096 + 1
unfolding touched
touched-some at zero some = absurd (omega arith)
touched-some at (suc n) some =
    let last : at + suc n - 1 ≡ at + n = omega arith in
    ap (λ (end : ℕ). end / 4096 - at / 4096 + 1) (sym last)

-- where bytes lie on a page, there are some
pub touched-none : (at n : ℕ) → 0 < touched at n → 0 < n
unfolding touched
touched-none at zero h = absurd (omega (arith, h))
touched-none at (suc n) h = omega arith

-- bytes in one page lie on one
pub touched-one : (at size : ℕ) → 0 < size → at % 4096 + size ≤ 4096 → touched at size ≡ 1
unfolding touched
touched-one at zero some in_page = absurd (omega arith)
touched-one at (suc n) some in_page = omega arith

-- bytes in one page lie on one at most
pub touched-within : (at size : ℕ) → at % 4096 + size ≤ 4096 → touched at size ≤ 1
unfolding touched
touched-within at zero in_page = omega arith
touched-within at (suc n) in_page = omega arith

-- as many bytes as a page has lie on two at most
pub touched-two : (at size : ℕ) → size ≤ 4096 → touched at size ≤ 2
unfolding touched
touched-two at zero small = omega arith
touched-two at (suc n) small = omega arith

-- bytes up to the end of a page, and more after it
pub touched-more : (at size rest : ℕ) → 0 < size → at % 4096 + size ≡ 4096 → touched at (size + rest) ≡ suc (touched (at + size) rest)
unfolding touched
touched-more at zero rest some ends = absurd (omega arith)
touched-more at (suc n) zero some ends =
    let whole : suc n + 0 ≡ suc n = omega arith in
    let one : touched at (suc n) ≡ 1 = omega arith in
    ap (touched at) whole ∙ one
touched-more at (suc n) (suc rest) some ends =
    let whole : suc n + suc rest ≡ suc (suc n + rest) = omega arith in
    let more : touched at (suc (suc n + rest)) ≡ suc (touched (at + suc n) (suc rest)) = omega arith in
    ap (touched at) whole ∙ more

module _ (s : Sharing) (tenant m at size : ℕ) (some : 0 < size) (in_page : at % 4096 + size ≤ 4096) where
  -- the bytes of one page break that page
  pub sharing-one : (running : Bool) → stored_sharing running s tenant m at size ≡ broken_for_run running s (page_of_byte tenant m at)
  unfolding broken_for_run_from
  sharing-one running = ap (broken_for_run_from running s (page_of_byte tenant m at)) (touched-one at size some in_page)

  pub cost-one : store_frames s tenant m at size ≡ break_cost s (page_of_byte tenant m at)
  unfolding cost_from
  cost-one = ap (cost_from s (page_of_byte tenant m at)) (touched-one at size some in_page) ∙ omega arith

  following : at % 4096 + size ≡ 4096 → page_of_byte tenant m (at + size) ≡ page_of_byte tenant m at + 1
  following ends = omega arith

  -- the first page is broken, and then the others
  pub sharing-more : (running : Bool) (rest : ℕ) → (rest ≡ 0) ⊎ (at % 4096 + size ≡ 4096)
      → stored_sharing running s tenant m at (size + rest) ≡ stored_sharing running (broken_for_run running s (page_of_byte tenant m at)) tenant m (at + size) rest
  unfolding broken_for_run_from touched
  sharing-more running rest whole =
      ⊎_elim
      (λ none.
      let same : size + rest ≡ size = omega arith in
      ap (stored_sharing running s tenant m at) same ∙ sharing-one running
      ∙ sym (ap (stored_sharing running (broken_for_run running s (page_of_byte tenant m at)) tenant m (at + size)) none))
      (λ ends.
      ap (broken_for_run_from running s (page_of_byte tenant m at)) (touched-more at size rest some ends)
      ∙ ap (λ (offset : ℕ). broken_for_run_from running (broken_for_run running s (page_of_byte tenant m at)) offset (touched (at + size) rest)) (sym (following ends)))
      whole

  cost-own : (rest : ℕ) → (rest ≡ 0) ⊎ (at % 4096 + size ≡ 4096)
      → store_frames s tenant m at (size + rest) ≡ break_cost s (page_of_byte tenant m at) + store_frames (broken s (page_of_byte tenant m at)) tenant m (at + size) rest
  unfolding cost_from touched
  cost-own rest whole =
      ⊎_elim
      (λ none.
      let same : size + rest ≡ size = omega arith in
      let nothing : store_frames (broken s (page_of_byte tenant m at)) tenant m (at + size) rest ≡ 0 = ap (store_frames (broken s (page_of_byte tenant m at)) tenant m (at + size)) none in
      let all = ap (store_frames s tenant m at) same ∙ cost-one in
      omega (arith, all, nothing))
      (λ ends.
      ap (cost_from s (page_of_byte tenant m at)) (touched-more at size rest some ends)
      ∙ ap (λ (offset : ℕ). break_cost s (page_of_byte tenant m at) + cost_from (broken s (page_of_byte tenant m at)) offset (touched (at + size) rest)) (sym (following ends)))
      whole

  -- whether or not the first page is pinned
  pub cost-more : (running : Bool) (rest : ℕ) → (rest ≡ 0) ⊎ (at % 4096 + size ≡ 4096)
      → store_frames s tenant m at (size + rest) ≡ break_cost s (page_of_byte tenant m at) + store_frames (broken_for_run running s (page_of_byte tenant m at)) tenant m (at + size) rest
  cost-more running rest whole =
      cost-own rest whole
      ∙ ap (λ (n : ℕ). break_cost s (page_of_byte tenant m at) + n)
      (sym (cost-by running s (page_of_byte tenant m at) (page_of_byte tenant m (at + size)) (touched (at + size) rest)))

-- the bytes of what may be a map
abbrev bytes_in : Option FlatMap → List ℕ
bytes_in flat = unwrap_or (option_map (λ (flat : FlatMap). flat.bytes) flat) []

-- a map that is there has an index
map_inside : (maps : FlatMaps) (m : ℕ) (flat : FlatMap) → map_at maps m ≡ Some flat → m < length maps
map_inside [] m flat e = absurd (cc)
map_inside (x ∷ maps) zero flat e = omega arith
map_inside (x ∷ maps) (suc m) flat e = let rest = map_inside maps m flat e in omega arith

-- bytes written one after another
pub with_part-twice : {X : Type 0} (xs : List X) (at : ℕ) (first later : List X) → at + length first ≤ length xs
    → with_part (with_part xs at first) (at + length first) later ≡ with_part xs at (first ++ later)
unfolding with_part
with_part-twice xs at first later h =
    let front : List _ = take at xs ++ first in
    let rest : List _ = drop (at + length first) xs in
    let long : length front ≡ at + length first = simp (length-append, length-take) (omega arith) in
    let both : at + length first + length later ≡ at + length (first ++ later) = simp length-append (omega arith) in
    ap (λ l. l ++ later ++ drop (at + length first + length later) (front ++ rest)) (take_at front rest (at + length first) long)
    ∙ ap (λ l. front ++ later ++ l) (
    sym (drop-drop (length later) (at + length first) (front ++ rest))
    ∙ ap (drop (length later)) (drop_at front rest (at + length first) long)
    ∙ drop-drop (length later) (at + length first) xs)
    ∙ ap (λ l. l ++ drop (at + length first + length later) xs) (append_assoc (take at xs) first later)
    ∙ ap (λ (n : ℕ). take at xs ++ (first ++ later) ++ drop n xs) both

-- a part into which no bytes are written
pub part_written-none : (owned : TenantPart) (m at : ℕ) → owned ≡ part_written owned m at []
part_written-none owned m at =
    ap (λ (maps : FlatMaps). record owned { maps = maps }) (sym (set-get_or owned.maps m None) ∙ ap (slice_set owned.maps m) (kept (map_at owned.maps m)))
  where
    kept : (flat : Option FlatMap) → flat ≡ option_map (map_written at []) flat
    kept None = refl
    kept (Some flat) = ap (λ (bytes : List ℕ). Some (record flat { bytes = bytes })) (with_part-none flat.bytes at)

-- a part into which bytes are written one after another
pub part_written-twice : (owned : TenantPart) (m at : ℕ) (first later : List ℕ) → 0 < length first → at + length first ≤ length (map_bytes owned m)
    → part_written (part_written owned m at first) m (at + length first) later ≡ part_written owned m at (first ++ later)
part_written-twice owned m at first later some within = by_map (map_at owned.maps m) refl
  where
    by_map : (flat : Option FlatMap) → map_at owned.maps m ≡ flat → part_written (part_written owned m at first) m (at + length first) later ≡ part_written owned m at (first ++ later)
    by_map None e = let none = ap (λ (flat : Option FlatMap). length (bytes_in flat)) e in absurd (omega (arith, none, some, within))
    by_map (Some flat) e =
        let inside = map_inside owned.maps m flat e in
        let long = ap (λ (flat : Option FlatMap). length (bytes_in flat)) e in
        let once : slice_set owned.maps m (option_map (map_written at first) (map_at owned.maps m)) ≡ slice_set owned.maps m (Some (map_written at first flat)) =
        ap (λ (x : Option FlatMap). slice_set owned.maps m (option_map (map_written at first) x)) e in
        let here : map_at (slice_set owned.maps m (Some (map_written at first flat))) m ≡ Some (map_written at first flat) =
        get_or-set_same owned.maps m (Some (map_written at first flat)) None inside in
        let twice = with_part-twice flat.bytes at first later (omega (arith, long, within)) in
        ap (λ (maps : FlatMaps). record owned { maps = slice_set maps m (option_map (map_written (at + length first) later) (map_at maps m)) }) once
        ∙ ap (λ (x : Option FlatMap). record owned { maps = slice_set (slice_set owned.maps m (Some (map_written at first flat))) m (option_map (map_written (at + length first) later) x) }) here
        ∙ ap (λ (maps : FlatMaps). record owned { maps = maps }) (set-set owned.maps m (Some (map_written at first flat)) (Some (map_written (at + length first) later (map_written at first flat))))
        ∙ ap (λ (bytes : List ℕ). record owned { maps = slice_set owned.maps m (Some (record flat { bytes = bytes })) }) twice
        ∙ sym (ap (λ (x : Option FlatMap). record owned { maps = slice_set owned.maps m (option_map (map_written at (first ++ later)) x) }) e)

-- what new frames may be had of hangs on the sharing, the frames and the reserves
pub have-kept : (old new : MemoryState) → new.sharing ≡ old.sharing → KeepsSettings old new → have_of new ≡ have_of old
have-kept old new same kept = rw (same, kept.frames, kept.tenants) refl

-- a page was taken out, and pinned where that was asked
pub record IsTakenOut (is_pinned : Bool) (old new : MemoryState) (tenant i : ℕ) : Type 0 where
  pub owned : part new tenant ≡ with_pins_of new.sharing tenant (part old tenant)
  pub others : OtherTenantsUnchanged tenant old new
  pub sharing : new.sharing ≡ broken_for_run is_pinned old.sharing i
  pub have : have_of new + break_cost old.sharing i ≡ have_of old
  pub settings : KeepsSettings old new

-- bytes were written into a page with a frame of its own
pub record IsPut (old new : MemoryState) (tenant m at : ℕ) (input : List ℕ) : Type 0 where
  pub written : part new tenant ≡ part_written (part old tenant) m at input
  pub bytes : map_bytes (part new tenant) m ≡ with_part (map_bytes (part old tenant) m) at input
  pub sized : length (map_bytes (part new tenant) m) ≡ length (map_bytes (part old tenant) m)
  pub other_maps : AreMapsKeptBut m (part old tenant) (part new tenant)
  pub others : OtherTenantsUnchanged tenant old new
  pub sharing : new.sharing ≡ old.sharing
  pub settings : KeepsSettings old new

-- bytes of one page stored: the page is taken out, and then they are written
pub stored-once : (is_pinned : Bool) (old taken new : MemoryState) (tenant m at : ℕ) (input : List ℕ) → 0 < length input → at % 4096 + length input ≤ 4096
    → IsTakenOut is_pinned old taken tenant (page_of_byte tenant m at) → IsPut taken new tenant m at input → IsStored is_pinned old new tenant m at input
stored-once is_pinned old taken new tenant m at input some in_page out put =
    let owned = out.owned in
    let pins = ap (λ (s : Sharing). part_of s.pins (tenant * 2048) 2048) (sym put.sharing) in
    let sharing = sharing-one old.sharing tenant m at (length input) some in_page is_pinned in
    let cost = cost-one old.sharing tenant m at (length input) some in_page in
    let same = have-kept taken new put.sharing put.settings in
    let before = out.have in
    record {
      written = (rw owned at put.written) ∙ ap (λ (pins : List Bool). with_pins pins (part_written (part old tenant) m at input)) pins;
      bytes = rw owned at put.bytes;
      sized = rw owned at put.sized;
      other_maps = rw owned at put.other_maps;
      others = λ t ne. put.others t ne ∙ out.others t ne;
      sharing = put.sharing ∙ out.sharing ∙ sym sharing;
      have = omega (arith, same, before, cost);
      settings = record { tenants = put.settings.tenants ∙ out.settings.tenants; frames = put.settings.frames ∙ out.settings.frames };
    }

-- no bytes stored
pub stored-none : (is_pinned : Bool) (memory : MemoryState) (tenant m at : ℕ) → IsStored is_pinned memory memory tenant m at []
unfolding broken_for_run_from cost_from touched part
stored-none is_pinned memory tenant m at = record {
  written = part_written-none (part memory tenant) m at;
  bytes = with_part-none (map_bytes (part memory tenant) m) at;
  sized = refl;
  other_maps = λ k ne. refl;
  others = λ t ne. refl;
  sharing = refl;
  have = omega arith;
  settings = record { tenants = refl; frames = refl };
}

-- bytes of one page stored, and then those after them
pub stored-more : (is_pinned : Bool) (old middle new : MemoryState) (tenant m at : ℕ) (first later : List ℕ) → 0 < length first → at % 4096 + length first ≤ 4096 → (length later ≡ 0) ⊎ (at % 4096 + length first ≡ 4096)
    → at + length first ≤ length (map_bytes (part old tenant) m)
    → IsStored is_pinned old middle tenant m at first → IsStored is_pinned middle new tenant m (at + length first) later → IsStored is_pinned old new tenant m at (first ++ later)
stored-more is_pinned old middle new tenant m at first later some in_page whole within one rest =
    let long : length (first ++ later) ≡ length first + length later = length-append first later in
    let broken_one = one.sharing ∙ sharing-one old.sharing tenant m at (length first) some in_page is_pinned in
    let cost_one = cost-one old.sharing tenant m at (length first) some in_page in
    let cost : store_frames old.sharing tenant m at (length first + length later) ≡ break_cost old.sharing (page_of_byte tenant m at) + store_frames middle.sharing tenant m (at + length first) (length later) =
    cost-more old.sharing tenant m at (length first) some in_page is_pinned (length later) whole
    ∙ ap (λ (s : Sharing). break_cost old.sharing (page_of_byte tenant m at) + store_frames s tenant m (at + length first) (length later)) (sym broken_one) in
    record {
      written = rest.written
          ∙ ap (λ (owned : TenantPart). with_pins_of new.sharing tenant (part_written owned m (at + length first) later)) one.written
          ∙ ap (with_pins_of new.sharing tenant) (part_written-twice (part old tenant) m at first later some within);
      bytes = rest.bytes
          ∙ ap (λ (bytes : List ℕ). with_part bytes (at + length first) later) one.bytes
          ∙ with_part-twice (map_bytes (part old tenant) m) at first later within;
      sized = rest.sized ∙ one.sized;
      other_maps = λ k ne. rest.other_maps k ne ∙ one.other_maps k ne;
      others = λ t ne. rest.others t ne ∙ one.others t ne;
      sharing = rest.sharing
          ∙ ap (λ (s : Sharing). stored_sharing is_pinned s tenant m (at + length first) (length later)) broken_one
          ∙ sym (sharing-more old.sharing tenant m at (length first) some in_page is_pinned (length later) whole)
          ∙ sym (ap (stored_sharing is_pinned old.sharing tenant m at) long);
      have = rw long (omega (arith, rest.have, one.have, cost, cost_one));
      settings = record { tenants = rest.settings.tenants ∙ one.settings.tenants; frames = rest.settings.frames ∙ one.settings.frames };
    }

-- ---- a store by no run

-- breaks by no run pin nothing
pub broken-none : (s : Sharing) (i n : ℕ) → broken_for_run_from false s i n ≡ pages_broken s i n
unfolding broken_for_run_from pages_broken broken_for_run
broken-none s i zero = refl
broken-none s i (suc n) = broken-none (broken s i) (i + 1) n

broken-pins : (s : Sharing) (i : ℕ) → (broken s i).pins ≡ s.pins
broken-pins s i = by_test (is_shared_page (state_at s i)) refl
  where
    by_test : (b : Bool) → is_shared_page (state_at s i) ≡ b → (broken s i).pins ≡ s.pins
    by_test true shared = ap (λ (t : Sharing). t.pins) (broken-shared s i shared)
    by_test false own = ap (λ (t : Sharing). t.pins) (broken-own s i own)

pub pins-none : (s : Sharing) (i n : ℕ) → (broken_for_run_from false s i n).pins ≡ s.pins
unfolding broken_for_run_from broken_for_run
pins-none s i zero = refl
pins-none s i (suc n) = pins-none (broken s i) (i + 1) n ∙ broken-pins s i
