-- What a memory says of pages by their indices, of open groups and of waiting pages.
use Rattle.page_table.proofs.Base.{◌≡◌, ◌∙◌, ℕ, suc, ◌+◌, ◌*◌, ◌/◌, ◌%◌, ◌<◌, ◌≤◌, ◌==◌, Bool, true, if◌then◌else◌, List, [], ◌∷◌, map, find, slice_index_or, Option, Some, None, option_map, is_some, refl, ap, arith, list_any, length-take-le, sum_by-cons, bytes_eq-Decides, nat_tests, common_steps, Page, Shape, part_of, map_index_of, page_index_of, page_bytes, joined_by, contents_in, group_bytes, is_open, has_open, join_first, page_at, Entry, Pass, Tenant, MemoryState, part, bytes_of_map, frame_at, IsPageOf, frame_of_group, open_frame, TableState, IsTable, IsPageAt, maps_of, contents_of, entry_at, groups_of, sharing_of, frames_of, times, is_on, indices_on, pages_on, is_open_frame, joined_on, view_of, IsMemory}
use Rattle.page_table.proofs.Maps.{map_at-maps_of, length-concat}
use Rattle.page_table.proofs.Reading.{map_at-part, content_in, content_is}
use Rattle.page_table.proofs.Creating.{length-contents}
use Rattle.page_table.proofs.Entries.{on_one, times-head, times-tail, times-cons, reported_at, group_of, length-page_indices, page_inside, content_at, page_of_entry}
use Rattle.page_table.proofs.Merging.{map_small, number_small}

-- an index's page by its tenant, map and number
abbrev pub named : ℕ → Page
named i = record { tenant = i / 2048; map = i / 256 % 8; number = i % 256 }

module _ (table : TableState) (shapes : List (Option Shape)) (tenants : List Tenant) (pass : Pass) (reserved : ℕ) (is : IsMemory table shapes tenants reserved) where
  abbrev view : MemoryState
  view = view_of table shapes tenants pass

  -- a page by its index
  pub page_there : (page : Page) → page.map < 8 → page.number < 256 → IsPageAt table (page_index_of page) → IsPageOf view page
  unfolding view_of part
  page_there page small few at =
      grind (arith, nat_tests, page_inside table (page_index_of page) at, length-contents table, content_in (contents_of table) (map_index_of page.tenant page.map) page.number few, map_at-part (maps_of shapes (contents_of table)) page.tenant page.map small, map_at-maps_of shapes (contents_of table) (map_index_of page.tenant page.map), length-concat (part_of (contents_of table) (map_index_of page.tenant page.map * 256) 256), length-take-le)

  -- the bytes at a page's index
  pub contents_reported : (page : Page) → page.map < 8 → page.number < 256 → contents_in view.maps (page_index_of page) ≡ page_bytes (bytes_of_map view page) page.number
  unfolding view_of part contents_in
  contents_reported page h1 h2 = grind (arith, nat_tests, map_at-part)

  -- the bytes of a page that is there
  pub bytes_here : (page : Page) → IsPageOf view page → contents_in view.maps (page_index_of page) ≡ page_bytes (bytes_of_map view page) page.number
  bytes_here page there = contents_reported page (map_small table shapes tenants pass reserved is page there) (number_small table shapes tenants pass reserved is page there)

  -- the bytes at each index with an entry are those of its frame
  pub frame_reported : (i : ℕ) (entry : Entry) → IsTable table → entry_at table.entries i ≡ Some entry → contents_in view.maps i ≡ page_at table.arena entry.frame
  frame_reported i entry fits e =
      grind (arith, nat_tests, page_there (named i), page_of_entry table i entry fits e, contents_reported (named i), content_is table shapes tenants pass reserved (named i) is, content_at table i entry e)

-- the first of some indices, under a reading of indices
abbrev first_in : {X : Type 0} → X → (ℕ → X) → List ℕ → X
first_in none read [] = none
first_in none read (i ∷ page_indices) = read i

-- what all pages on a frame read as, the first one does
first-page_indices : {X : Type 0} (none : X) (read : ℕ → X) (answer : X) (g n : ℕ) (xs : List (Option Entry)) → ((k : ℕ) → is_on g (entry_at xs k) ≡ true → read (n + k) ≡ answer) → 1 ≤ pages_on g xs
    → first_in none read (indices_on n g xs) ≡ answer
unfolding indices_on pages_on
first-page_indices none read answer g n [] h some = absurd (omega arith)
first-page_indices {X} none read answer g n (x ∷ xs) h some =
    let start : n ≡ n + 0 = omega arith in
    grind (arith, sum_by-cons (on_one g) x xs, ap read start, h 0, first-page_indices none read answer g (n + 1) xs (λ k on. let next : n + 1 + k ≡ n + suc k = omega arith in ap read next ∙ h (suc k) on))

-- what is found stands in the list, and passes the test
pub find-in : (test : ℕ → Bool) (gs : List ℕ) (f : ℕ) → find test gs ≡ Some f → (1 ≤ times f gs) × (test f ≡ true)
find-in test [] f e = absurd (cc)
find-in test (g ∷ gs) f e = grind (arith, times-head g gs, times-tail f g gs, find-in test gs f)

-- tests of groups and of their frames that agree
module _ (test : List ℕ → Bool) (opens : ℕ → Bool) (page_indices : ℕ → List ℕ) where
  later : (g : ℕ) (gs : List ℕ) → ((f : ℕ) → 1 ≤ times f (g ∷ gs) → test (page_indices f) ≡ opens f) → (f : ℕ) → 1 ≤ times f gs → test (page_indices f) ≡ opens f
  later g gs same f some = same f (let more = times-tail f g gs in omega (arith, more, some))

  pub find-page_indices : (gs : List ℕ) → ((g : ℕ) → 1 ≤ times g gs → test (page_indices g) ≡ opens g) → find test (map page_indices gs) ≡ option_map page_indices (find opens gs)
  find-page_indices [] same = refl
  find-page_indices (g ∷ gs) same = grind (arith, same g (times-head g gs), find-page_indices gs (later g gs same))

  pub any-page_indices : (gs : List ℕ) → ((g : ℕ) → 1 ≤ times g gs → test (page_indices g) ≡ opens g) → list_any test (map page_indices gs) ≡ is_some (find opens gs)
  any-page_indices [] same = refl
  any-page_indices (g ∷ gs) same = grind (arith, same g (times-head g gs), any-page_indices gs (later g gs same))

  -- the groups, where a page joins the group of the frame f
  abbrev pub grown : ℕ → ℕ → ℕ → List ℕ
  grown i f g = if g == f then joined_by i (page_indices g) else page_indices g

  others-stay : (i f : ℕ) (gs : List ℕ) → times f gs ≡ 0 → map (grown i f) gs ≡ map page_indices gs
  others-stay i f [] none = refl
  others-stay i f (g ∷ gs) none = grind (arith, nat_tests, times-cons f g gs, others-stay i f gs)

  pub join-page_indices : (i f : ℕ) (gs : List ℕ) → ((g : ℕ) → 1 ≤ times g gs → test (page_indices g) ≡ opens g) → find opens gs ≡ Some f → times f gs ≤ 1
      → join_first test i (map page_indices gs) ≡ map (grown i f) gs
  unfolding join_first
  join-page_indices i f [] same e once = refl
  join-page_indices i f (g ∷ gs) same e once =
      grind (arith, nat_tests, times-cons f g gs, same g (times-head g gs), others-stay i f gs, find-in opens gs f, join-page_indices i f gs (later g gs same))

module _ (table : TableState) (shapes : List (Option Shape)) (tenants : List Tenant) (pass : Pass) (reserved : ℕ) (is : IsMemory table shapes tenants reserved) (fits : IsTable table) where
  abbrev memory : MemoryState
  memory = view_of table shapes tenants pass

  abbrev contents : ℕ → List ℕ
  contents = contents_in (view_of table shapes tenants pass).maps

  on-frame : (g k : ℕ) (x : Option Entry) → entry_at table.entries k ≡ x → is_on g x ≡ true → contents k ≡ page_at table.arena g
  on-frame g k x h1 h2 = grind (arith, nat_tests, frame_reported)

  pub bytes-of_group : (g : ℕ) → 1 ≤ times g table.groups → group_bytes contents (indices_on 0 g table.entries) ≡ page_at table.arena g
  unfolding group_bytes
  bytes-of_group g some = grind (arith, first-page_indices [] contents (page_at table.arena g) g 0 table.entries (λ k on. let start : 0 + k ≡ k = omega arith in ap contents start ∙ on-frame g k (entry_at table.entries k) refl on), group_of table g fits some)

  -- whether a group is open is reported by its frame
  pub open-group : (bytes : List ℕ) (g : ℕ) → 1 ≤ times g table.groups
      → is_open contents (sharing_of table pass) bytes (indices_on 0 g table.entries) ≡ is_open_frame table bytes pass.options.max_page_sharing g
  open-group bytes g h1 = grind (arith, nat_tests, bytes-of_group g, length-page_indices 0 g)

  frame-on : (g k : ℕ) → is_on g (entry_at table.entries k) ≡ true → slice_index_or (frames_of table.entries) k None ≡ Some g
  frame-on g k on = grind (arith, nat_tests, common_steps, reported_at)

  frame-of_group : (g : ℕ) → 1 ≤ times g table.groups → frame_of_group memory (Some (indices_on 0 g table.entries)) ≡ Some g
  unfolding view_of
  frame-of_group g h1 = grind (arith, nat_tests, first-page_indices None (frame_at memory) (Some g) g 0, frame-on g, memory)

  abbrev opens : List ℕ → ℕ → Bool
  opens bytes = is_open_frame table bytes pass.options.max_page_sharing

  pub open-frame : (i : ℕ) → open_frame memory i ≡ find (opens (contents i)) table.groups
  unfolding view_of groups_of
  open-frame i =
      grind (arith, find-page_indices (is_open contents (sharing_of table pass) (contents i)) (opens (contents i)) (λ g. indices_on 0 g table.entries) table.groups (open-group (contents i)), frame-of_group, find-in (opens (contents i)) table.groups)

  pub has-open : (i : ℕ) → has_open contents memory.sharing i ≡ is_some (find (opens (contents i)) table.groups)
  unfolding view_of groups_of has_open
  has-open i = any-page_indices (is_open contents (sharing_of table pass) (contents i)) (opens (contents i)) (λ g. indices_on 0 g table.entries) table.groups (open-group (contents i))

  pub joins : (i f : ℕ) → find (opens (contents i)) table.groups ≡ Some f
      → join_first (is_open contents (sharing_of table pass) (contents i)) i (groups_of table) ≡ map (joined_on table i f) table.groups
  unfolding groups_of
  joins i f e =
      grind (arith, find-in (opens (contents i)) table.groups f e, group_of table f fits, join-page_indices (is_open contents (sharing_of table pass) (contents i)) (opens (contents i)) (λ g. indices_on 0 g table.entries) i f table.groups (open-group (contents i)) e)

-- an open group has the bytes
pub open-bytes : (table : TableState) (bytes : List ℕ) (limit f : ℕ) → is_open_frame table bytes limit f ≡ true → page_at table.arena f ≡ bytes
open-bytes table bytes limit f h = grind (arith, (bytes_eq-Decides (page_at table.arena f) bytes).0)
