-- A list that has each frame of count 0 once is as long as there are such frames.
use Rattle.page_table.proofs.Base.{◌≡◌, ◌∙◌, ℕ, zero, suc, ◌+◌, ◌-◌, ◌<◌, ◌≤◌, Bool, not, List, [], ◌∷◌, length, sum_by, filter, slice_index_or, Option, Some, None, refl, sym, arith, list_any, range_with_len, sum_by-cons, nat_tests, get_or_past, ◌==◌, ◌&&◌, nat_lt, ◌++◌, sum_by_push, replicate, map, length-map, Entry, AreCounts, times, one_if_zero, frames_of, pages_on, is_frame, group_contents, unshared_at, volatile_at, PageState, Shape, group_bytes, page_at, Pass, Tenant, contents_now, TableState, IsTable, states_of, groups_of, indices_on, IsTally, shared_at, view_of, IsMemory}
use Rattle.page_table.proofs.Entries.{one_when, times-head, times-tail, one_if_zero-above, times-cons, pages_on-cons, equal}
use Rattle.page_table.proofs.Scanning.{bytes-of_group}

-- a number isn't among those above it
range-below : (f a n : ℕ) → f < a → times f (range_with_len a n) ≡ 0
range-below f a zero h = refl
range-below f a (suc n) h = grind (arith, nat_tests, times-cons f a (range_with_len (a + 1) n), range-below f (a + 1) n)

-- a number of a range is there once
range-once : (f a n : ℕ) → a ≤ f → f < a + n → times f (range_with_len a n) ≡ 1
range-once f a zero low high = absurd (omega arith)
range-once f a (suc n) low high =
    grind (arith, nat_tests, times-cons f a (range_with_len (a + 1) n), range-below f (a + 1) n, range-once f (a + 1) n)

-- how often the numbers of one list occur in another
abbrev occurrences : List ℕ → List ℕ → ℕ
occurrences fs xs = sum_by (λ f. times f xs) fs

occurrences-none : (fs : List ℕ) → occurrences fs [] ≡ 0
occurrences-none [] = refl
occurrences-none (f ∷ fs) = grind (arith, sum_by-cons (λ f. times f []) f fs, occurrences-none fs)

occurrences-cons : (fs : List ℕ) (x : ℕ) (xs : List ℕ) → occurrences fs (x ∷ xs) ≡ times x fs + occurrences fs xs
occurrences-cons [] x xs = refl
occurrences-cons (f ∷ fs) x xs =
    let whole = sum_by-cons (λ f. times f (x ∷ xs)) f fs in
    grind (arith, nat_tests, whole, sum_by-cons (λ f. times f xs) f fs, times-cons f x xs, times-cons x f fs, occurrences-cons fs x xs)

-- where each number of a list is in the range, the list is as long as the range's numbers occur in it
occurrences-all : (a n : ℕ) (xs : List ℕ) → ((x : ℕ) → 1 ≤ times x xs → (a ≤ x) × (x < a + n)) → occurrences (range_with_len a n) xs ≡ length xs
occurrences-all a n [] h = occurrences-none (range_with_len a n)
occurrences-all a n (x ∷ xs) h =
    let split = occurrences-cons (range_with_len a n) x xs in
    let within = h x (times-head x xs) in
    let first = range-once x a n within.0 within.1 in
    omega (arith, split, first, occurrences-all a n xs (λ y some. h y (omega (arith, some, times-tail y x xs))))

-- where each number that passes a test occurs once and no other does, as many occur as pass
occurrences-passed : (p : ℕ → Bool) (a n : ℕ) (xs : List ℕ) → ((f : ℕ) → a ≤ f → f < a + n → times f xs ≡ one_when (p f))
    → occurrences (range_with_len a n) xs ≡ length (filter p (range_with_len a n))
occurrences-passed p a zero xs h = refl
occurrences-passed p a (suc n) xs h =
    grind (arith, nat_tests, sum_by-cons (λ f. times f xs) a (range_with_len (a + 1) n), h a, occurrences-passed p (a + 1) n xs (λ f low high. h f (omega arith) (omega arith)))

-- as many frames are unused as pass a test which just those above the zero frame pass that nobody holds
pub length-unused : (counts unused : List ℕ) (p : ℕ → Bool) → AreCounts (record { counts = counts; unused = unused })
    → one_if_zero (slice_index_or counts 0 1) ≡ 0
    → ((f : ℕ) → 0 < f → f < length counts → one_if_zero (slice_index_or counts f 1) ≡ one_when (p f))
    → length unused ≡ length (filter p (range_with_len 1 (length counts - 1)))
length-unused counts unused p are held says = sym (occurrences-all 1 (length counts - 1) unused (λ f some. grind (arith, nat_tests, are.listed f, get_or_past, held))) ∙ occurrences-passed p 1 (length counts - 1) unused (λ f low high. are.listed f ∙ says f (omega arith) (omega (arith, low, high)))

-- no page lies on a frame exactly if it isn't taken
pub empty-frame : (f : ℕ) (xs : List (Option Entry)) → one_if_zero (pages_on f xs) ≡ one_when (not (list_any (is_frame f) (frames_of xs)))
unfolding pages_on
empty-frame f [] = refl
empty-frame f (None ∷ xs) = grind (arith, pages_on-cons f None xs, empty-frame f xs)
empty-frame f (Some entry ∷ xs) = grind (arith, pages_on-cons f (Some entry) xs, empty-frame f xs, one_if_zero-above (pages_on f (Some entry ∷ xs)))

-- ---- Counts of frames, and the list of the unused ones

-- a number occurs once more after it is pushed
pub times-push : (g f : ℕ) (xs : List ℕ) → times g (xs ++ f ∷ []) ≡ times g xs + one_when (f == g)
times-push g f xs = sum_by_push (λ (x : ℕ). one_when (x == g)) xs f

-- the frame at the end of the unused ones is there, and nobody holds it
pub popped : (counts unused rest : List ℕ) (f : ℕ) → AreCounts (record { counts = counts; unused = unused }) → unused ≡ rest ++ f ∷ []
    → (f < length counts) × (slice_index_or counts f 1 ≡ 0)
popped counts unused rest f h1 h2 = grind (arith, nat_tests, times-push f f rest, equal f, get_or_past)

-- a number of a range that begins with 1
abbrev pub is_between : ℕ → ℕ → Bool
is_between end f = nat_lt 0 f && nat_lt f end

-- ---- What is counted of pages, and the contents of the groups

pub unshared-one : (x : Option PageState) → unshared_at x ≤ 1
unshared-one x = grind arith

pub volatile-one : (x : Option PageState) → volatile_at x ≤ 1
volatile-one x = grind arith

pub shared-one : (x : Option PageState) → shared_at x ≤ 1
shared-one x = grind arith

-- without pages nothing is counted
pub counted-none : (page_indices : ℕ) → IsTally (record { unshared = 0; volatile = 0; shared = 0 }) (states_of (replicate page_indices None))
counted-none page_indices = record { waiting = none unshared_at refl page_indices; changed = none volatile_at refl page_indices; shared = none shared_at refl page_indices }
  where
    none : (f : Option PageState → ℕ) → f None ≡ 0 → (n : ℕ) → 0 ≡ sum_by f (states_of (replicate n None))
    none f e zero = refl
    none f e (suc n) = grind (arith, sum_by-cons f None (states_of (replicate n None)), none f e n)

-- as many groups as frames of groups
pub groups_reported : (table : TableState) → length (groups_of table) ≡ length table.groups
unfolding groups_of
groups_reported table = length-map table.groups (λ f. indices_on 0 f table.entries)

-- the bytes of the groups' pages are those of their frames
pub contents_reported : (table : TableState) (shapes : List (Option Shape)) (tenants : List Tenant) (pass : Pass) (reserved : ℕ) (is : IsMemory table shapes tenants reserved) (fits : IsTable table)
    → group_contents (contents_now (view_of table shapes tenants pass)) (view_of table shapes tenants pass).sharing ≡ map (page_at table.arena) table.groups
unfolding view_of group_contents groups_of
contents_reported table shapes tenants pass reserved is fits = by_groups table.groups (bytes-of_group table shapes tenants pass reserved is fits)
  where
    by_groups : (gs : List ℕ) → ((g : ℕ) → 1 ≤ times g gs → group_bytes (contents_now (view_of table shapes tenants pass)) (indices_on 0 g table.entries) ≡ page_at table.arena g)
        → map (group_bytes (contents_now (view_of table shapes tenants pass))) (map (λ f. indices_on 0 f table.entries) gs) ≡ map (page_at table.arena) gs
    by_groups [] h = refl
    by_groups (g ∷ gs) h = grind (arith, h g (times-head g gs), by_groups gs, times-tail)
