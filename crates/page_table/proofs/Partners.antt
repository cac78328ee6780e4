-- Waiting pages as callers see them.
use Rattle.page_table.proofs.Base.{◌≡◌, ◌∙◌, ℕ, ◌+◌, ◌<◌, Bool, true, false, All, is_some, drop, slice_index_or, List, [], ◌∷◌, length, map, find, Option, Some, None, option_map, refl, sym, arith, All-nil, All-cons, nat_tests, zero, suc, ◌-◌, ◌≤◌, get_or-drop, length-drop, ordered, slice_set, IsSome, IfSome, get_or-set_other, get_or-set_same, set_past, get_or_past, Page, Shape, page_index_of, is_pinned, PageState, state_at, is_shared, contents_in, is_partner, is_mergeable, first_mergeable, look_from, moved_on, one_more, Waiter, is_match, Entry, Pass, Tenant, IsNotWaiting, MayChange, MayMerge, TableState, IsTable, entry_at, waiting_of, states_of, sharing_of, view_of, IsMemory, IsPass, IsWaiter, AreWaiters, is_listed, next-after, next-none, page_at, page_bytes, MemoryState, bytes_of_map, frame_at, IsPageOf, IsOwn, contents_now, IsPageAt, IsOwnAt, contents_of, IsEntry, state_of, Status, Sharing, broken_page, broken, pages_broken, with_page, marked, IsAhead}
use Rattle.page_table.proofs.Scanning.{frame_reported, bytes_here}
use Rattle.page_table.proofs.Entries.{entry_fits, state-at, content_at, reported_at}
use Rattle.page_table.proofs.Waiters.{waiters-kept, ahead-free, listed-answer, not-pinned}
use Rattle.page_table.proofs.Reading.{is_page_at, content_is, state_is, frame_is}
use Rattle.page_table.proofs.Writing.{own_entry}

over : (pages : List (Option PageState)) (n d : ℕ) → ((i : ℕ) → n ≤ i → i < n + d → is_mergeable (slice_index_or pages i None) ≡ false)
    → first_mergeable n (drop n pages) ≡ first_mergeable (n + d) (drop (n + d) pages)
over pages n zero apart = grind arith
over pages n (suc d) apart = grind (arith, nat_tests, ordered n (length pages), next-after pages n, next-none pages, over pages (n + 1) d)

-- pages that may not be merged are passed over
pub next-over : (pages : List (Option PageState)) (n m : ℕ) → n ≤ m → ((i : ℕ) → n ≤ i → i < m → is_mergeable (slice_index_or pages i None) ≡ false)
    → first_mergeable n (drop n pages) ≡ first_mergeable m (drop m pages)
next-over pages n m h1 h2 = grind (arith, nat_tests, over pages n (m - n))

-- a page that was found
pub record IsNext (pages : List (Option PageState)) (from i : ℕ) : Type 0 where
  pub at_or_before : from ≤ i
  pub inside : i < length pages
  pub mergeable : is_mergeable (slice_index_or pages i None) ≡ true

found : (n : ℕ) (ys : List (Option PageState)) (i : ℕ) → first_mergeable n ys ≡ Some i → (n ≤ i) × (i - n < length ys) × (is_mergeable (slice_index_or ys (i - n) None) ≡ true)
unfolding first_mergeable
found n [] i e = absurd (cc)
found n (y ∷ ys) i e = grind (arith, nat_tests, found (n + 1) ys i)

pub next-is : (pages : List (Option PageState)) (from i : ℕ) → first_mergeable from (drop from pages) ≡ Some i → IsNext pages from i
next-is pages from i e = grind (arith, nat_tests, found from (drop from pages) i e, length-drop from pages, get_or-drop from pages)

-- the frames of waiting pages are there
pub waiters-frames : (table : TableState) (c : Option ℕ) (ws : List Waiter) → IsTable table → AreWaiters table.entries c ws → All (λ w. w.frame < length table.arena) ws
waiters-frames table c [] fits are = All-nil (λ (w : Waiter). w.frame < length table.arena)
waiters-frames table c (w ∷ ws) fits are = All-cons (λ (w : Waiter). w.frame < length table.arena) w ws (grind (arith, entry_fits table w.page_index, are.0)) (waiters-frames table c ws fits are.2)

-- a waiting page that was found
pub record IsFound (entries : List (Option Entry)) (c : Option ℕ) (test : Waiter → Bool) (ws : List Waiter) (w : Waiter) : Type 0 where
  pub waiter : IsWaiter entries c w
  pub passes : test w ≡ true
  pub listed : is_listed w.page_index ws ≡ true

pub found-waiter : (entries : List (Option Entry)) (c : Option ℕ) (test : Waiter → Bool) (ws : List Waiter) (w : Waiter) → AreWaiters entries c ws → find test ws ≡ Some w → IsFound entries c test ws w
found-waiter entries c test [] w are e = absurd (cc)
found-waiter entries c test (v ∷ ws) w are e = grind (arith, nat_tests, are, found-waiter entries c test ws w are.2)

module _ (table : TableState) (shapes : List (Option Shape)) (tenants : List Tenant) (pass : Pass) (reserved : ℕ) (is : IsMemory table shapes tenants reserved) (fits : IsTable table) where
  abbrev contents : ℕ → List ℕ
  contents = contents_in (view_of table shapes tenants pass).maps

  -- a waiting page has what it is compared by
  partner-answer : (fingerprint : ℕ) (bytes : List ℕ) (c : Option ℕ) (w : Waiter) → IsWaiter table.entries c w → is_partner contents fingerprint bytes (waiting_of w) ≡ is_match table.arena fingerprint bytes w
  partner-answer fingerprint bytes c w waiter = grind (arith, nat_tests, waiter, frame_reported)

  -- the earliest partner, as callers see it
  pub partners-answer : (fingerprint : ℕ) (bytes : List ℕ) (c : Option ℕ) (ws : List Waiter) → AreWaiters table.entries c ws
      → option_map (λ (entry : ℕ × ℕ). entry.0) (find (is_partner contents fingerprint bytes) (map waiting_of ws)) ≡ option_map (λ (w : Waiter). w.page_index) (find (is_match table.arena fingerprint bytes) ws)
  partners-answer fingerprint bytes c [] are = refl
  partners-answer fingerprint bytes c (w ∷ ws) are = grind (arith, partner-answer fingerprint bytes c w are.0, partners-answer fingerprint bytes c ws are.2)

-- a visit goes past all that wait, and a pass begins without them
pub advanced : (entries : List (Option Entry)) (pages : List (Option PageState)) (c : Option ℕ) (ws : List Waiter) (i : ℕ) → AreWaiters entries c ws
    → first_mergeable (look_from c) (drop (look_from c) pages) ≡ Some i → (c ≡ None → map waiting_of ws ≡ []) → AreWaiters entries (Some i) ws × (is_listed i ws ≡ false)
advanced entries pages None [] i are e start = (tt, refl)
advanced entries pages None (w ∷ ws) i are e start = absurd (let h = start refl in cc)
advanced entries pages (Some c) ws i are e start = grind (arith, next-is pages (c + 1) i e, nat_tests, waiters-kept, ahead-free entries c i ws)

-- the cursor goes on
pub moved-on : (table : TableState) (shapes : List (Option Shape)) (tenants : List Tenant) (pass : Pass) (i : ℕ)
    → is_some (first_mergeable (i + 1) (drop (i + 1) (states_of table.entries))) ≡ true
    → view_of table shapes tenants (record pass { cursor = Some i }) ≡ record (view_of table shapes tenants pass) { sharing = moved_on (sharing_of table pass) i }
unfolding view_of moved_on
moved-on table shapes tenants pass i more = rw more refl

pub moved-ended : (table : TableState) (shapes : List (Option Shape)) (tenants : List Tenant) (pass : Pass) (i : ℕ)
    → is_some (first_mergeable (i + 1) (drop (i + 1) (states_of table.entries))) ≡ false
    → view_of table shapes tenants (record pass { cursor = None; full_scans = one_more pass.full_scans }) ≡ record (view_of table shapes tenants pass) { sharing = moved_on (sharing_of table pass) i }
unfolding view_of moved_on
moved-ended table shapes tenants pass i none = rw none refl

pub pass-on : (table : TableState) (pass : Pass) (i : ℕ) → IsPass table pass → AreWaiters table.entries (Some i) pass.waiting.listed → i < 32768 → IsPass table (record pass { cursor = Some i })
pass-on table pass i is are small = record { waiters = are; room = is.room; cursor = small; pins = is.pins }

pub pass-ended : (table : TableState) (pass : Pass) (n : ℕ) → IsPass table pass → IsPass table (record pass { cursor = None; full_scans = n })
pass-ended table pass n is = record { waiters = grind (arith, nat_tests, waiters-kept table.entries table.entries pass.cursor None pass.waiting.listed); room = is.room; cursor = tt; pins = is.pins }

-- a page that doesn't wait, as callers see it
pub not-waiting : (table : TableState) (shapes : List (Option Shape)) (tenants : List Tenant) (pass : Pass) (page : Page) → IsNotWaiting (view_of table shapes tenants pass) page → is_listed (page_index_of page) pass.waiting.listed ≡ false
unfolding view_of
not-waiting table shapes tenants pass page free = listed-answer (page_index_of page) pass.waiting.listed ∙ free

pub waits-not : (table : TableState) (shapes : List (Option Shape)) (tenants : List Tenant) (pass : Pass) (page : Page) → is_listed (page_index_of page) pass.waiting.listed ≡ false → IsNotWaiting (view_of table shapes tenants pass) page
unfolding view_of
waits-not table shapes tenants pass page free = sym (listed-answer (page_index_of page) pass.waiting.listed) ∙ free

-- a page with an entry that may be merged
pub may-entry : (table : TableState) (shapes : List (Option Shape)) (tenants : List Tenant) (pass : Pass) (page : Page) (entry : Entry) → entry_at table.entries (page_index_of page) ≡ Some entry
    → MayMerge (view_of table shapes tenants pass) page → entry.mergeable ≡ true
unfolding view_of
may-entry table shapes tenants pass page entry e may = grind (arith, nat_tests, state-at table pass (page_index_of page))

-- a page whose entry may be merged
pub may-answer : (table : TableState) (shapes : List (Option Shape)) (tenants : List Tenant) (pass : Pass) (page : Page) (entry : Entry) → entry_at table.entries (page_index_of page) ≡ Some entry
    → entry.mergeable ≡ true → is_shared entry.status ≡ false → is_pinned pass.pins (page_index_of page) ≡ false → MayMerge (view_of table shapes tenants pass) page
unfolding view_of
may-answer table shapes tenants pass page entry h1 h2 h3 h4 = grind (arith, nat_tests, state-at table pass (page_index_of page))

-- a page that may be merged isn't pinned
pub may-free : (table : TableState) (shapes : List (Option Shape)) (tenants : List Tenant) (pass : Pass) (page : Page) → MayMerge (view_of table shapes tenants pass) page → slice_index_or pass.pins (page_index_of page) false ≡ false
unfolding view_of
may-free table shapes tenants pass page may = not-pinned pass.pins (page_index_of page) may.1

-- an entry of a page that may be merged
pub entry-may : (table : TableState) (pass : Pass) (i : ℕ) → is_mergeable (state_at (sharing_of table pass) i) ≡ true → (entry : Entry) × (entry_at table.entries i ≡ Some entry)
entry-may table pass i h1 = grind (arith, nat_tests, state-at table pass i)

-- ---- What callers say of a page, reported of the page's index in the table: the bridge from a memory's view to its parts

-- what is known of the index i of a page, as a function computed it
pub record Sees (table : TableState) (pass : Pass) (now : MemoryState) (page : Page) (i : ℕ) : Type 0 where
  pub there : IsPageOf now page → IsPageAt table i
  pub content : IsPageOf now page → slice_index_or (contents_of table) i [] ≡ page_bytes (bytes_of_map now page) page.number
  pub own : IsOwn now page → IsOwnAt table i
  pub lone : MayChange now page → IsOwnAt table i
  pub unpinned : MayMerge now page → slice_index_or pass.pins i false ≡ false
  pub unlisted : IsNotWaiting now page → is_listed i pass.waiting.listed ≡ false

pub sees : (table : TableState) (shapes : List (Option Shape)) (tenants : List Tenant) (pass : Pass) (reserved : ℕ) → IsMemory table shapes tenants reserved
    → (now : MemoryState) → view_of table shapes tenants pass ≡ now → (page : Page) (i : ℕ) → i ≡ page_index_of page → Sees table pass now page i
sees table shapes tenants pass reserved is now same page i page_index =
    grind (arith, is_page_at table shapes tenants pass reserved page is, content_is table shapes tenants pass reserved page is, own_entry table shapes tenants pass page, may-free table shapes tenants pass page, not-waiting table shapes tenants pass page)

-- what is known of the entry of a page
pub record SeesEntry (now : MemoryState) (page : Page) (entry : Entry) : Type 0 where
  pub state : state_at now.sharing (page_index_of page) ≡ Some (state_of entry)
  pub frame : frame_at now (page_index_of page) ≡ Some entry.frame
  pub inside : entry.frame < length now.arena
  pub content : page_at now.arena entry.frame ≡ page_bytes (bytes_of_map now page) page.number
  pub bytes : page_at now.arena entry.frame ≡ contents_now now (page_index_of page)

pub sees_entry : (table : TableState) (shapes : List (Option Shape)) (tenants : List Tenant) (pass : Pass) (reserved : ℕ) → IsMemory table shapes tenants reserved
    → (now : MemoryState) → view_of table shapes tenants pass ≡ now → (page : Page) (entry : Entry) → IsPageOf now page → entry_at table.entries (page_index_of page) ≡ Some entry → IsEntry table entry
    → SeesEntry now page entry
unfolding view_of
sees_entry table shapes tenants pass reserved is now same page entry there here fits =
    grind (arith, content_at table (page_index_of page) entry here, content_is table shapes tenants pass reserved page is, state_is table shapes tenants pass reserved page is, frame_is table shapes tenants pass reserved page is, bytes_here table shapes tenants pass reserved is page)

-- ---- Unless a pass begins, a page after the cursor may be merged: what keeps that

-- what may be merged stays so
abbrev pub StayMergeable : List (Option PageState) → List (Option PageState) → Type 0
StayMergeable old new = (j : ℕ) → is_mergeable (slice_index_or old j None) ≡ true → is_mergeable (slice_index_or new j None) ≡ true

pub stay-set : (pages : List (Option PageState)) (i : ℕ) (change : PageState → PageState) → ((state : PageState) → (change state).mergeable ≡ state.mergeable)
    → StayMergeable pages (slice_set pages i (option_map change (slice_index_or pages i None)))
stay-set pages i change same j may = grind (arith, same, get_or-set_same pages i, get_or-set_other pages i j, get_or_past pages i None, set_past pages i)

pub stay-broken : (s : Sharing) (i : ℕ) → StayMergeable s.pages (broken s i).pages
unfolding broken
stay-broken s i = grind (arith, nat_tests, stay-set s.pages i broken_page)

pub stay-pages_broken : (s : Sharing) (i n : ℕ) → StayMergeable s.pages (pages_broken s i n).pages
unfolding pages_broken
stay-pages_broken s i zero j may = may
stay-pages_broken s i (suc n) j may = stay-pages_broken (broken s i) (i + 1) n j (stay-broken s i j may)

pub stay-marked : (s : Sharing) (i : ℕ) (status : Status) (last : ℕ) → StayMergeable s.pages (with_page s i (marked status last)).pages
stay-marked s i status last = stay-set s.pages i (marked status last) (λ state. refl)

-- what callers are reported of a change says it
pub ahead-answer : (old new : TableState) (pass : Pass) (s : Sharing) (c : Option ℕ) → sharing_of new pass ≡ s → StayMergeable (states_of old.entries) s.pages → IsAhead (states_of old.entries) c
    → IsAhead (states_of new.entries) c
ahead-answer old new pass s c h1 h2 h3 = grind (arith, nat_tests)

-- every page stays that was there
pub ahead-more : (old new : TableState) (pass : Pass) (c : Option ℕ) → ((i : ℕ) (entry : Entry) → entry_at old.entries i ≡ Some entry → entry_at new.entries i ≡ Some entry) → IsAhead (states_of old.entries) c
    → IsAhead (states_of new.entries) c
ahead-more old new pass c h1 h2 = grind (arith, nat_tests, entry-may old pass, reported_at state_of old.entries, reported_at state_of new.entries)

-- the cursor goes on to a page that may be merged where there is a next one
pub ahead-next : (pages : List (Option PageState)) (i : ℕ) → is_some (first_mergeable (i + 1) (drop (i + 1) pages)) ≡ true → IsAhead pages (Some i)
ahead-next pages i more = by_next (first_mergeable (i + 1) (drop (i + 1) pages)) refl more
  where
    by_next : (x : Option ℕ) → first_mergeable (i + 1) (drop (i + 1) pages) ≡ x → is_some x ≡ true → IsAhead pages (Some i)
    by_next None e h = absurd (cc)
    by_next (Some j) e h = let next = next-is pages (i + 1) j e in (j, omega (arith, next.at_or_before), next.mergeable)

-- where nothing is found, no page may be merged
pub none-mergeable : (n : ℕ) (ys : List (Option PageState)) (k : ℕ) → first_mergeable n ys ≡ None → is_mergeable (slice_index_or ys k None) ≡ false
unfolding first_mergeable
none-mergeable n [] k e = refl
none-mergeable n (y ∷ ys) zero e = grind arith
none-mergeable n (y ∷ ys) (suc k) e = grind (arith, none-mergeable (n + 1) ys k)

-- a page that may be merged is found
pub ahead-found : (pages : List (Option PageState)) (c : Option ℕ) → IsAhead pages c → IfSome c (λ n. IsSome (first_mergeable (n + 1) (drop (n + 1) pages)))
ahead-found pages None is = tt
ahead-found pages (Some n) is = by_next (first_mergeable (n + 1) (drop (n + 1) pages)) refl
  where
    by_next : (x : Option ℕ) → first_mergeable (n + 1) (drop (n + 1) pages) ≡ x → IsSome x
    by_next (Some j) e = refl
    by_next None e = absurd (grind (arith, nat_tests, none-mergeable (n + 1) (drop (n + 1) pages) (is.0 - (n + 1)) e, get_or-drop (n + 1) pages (is.0 - (n + 1)) None, is.1, is.2))
