-- What a run's store takes of the free frames, it takes of the capped reserve: each page that it takes out is pinned.
use Rattle.std.proofs.Common.{◌≡◌, ◌≢◌, ◌∙◌, ⊎_elim, ℕ, zero, suc, ◌+◌, ◌*◌, ◌<◌, ◌≤◌, ◌&&◌, min, Bool, true, false, if◌then◌else◌, List, [], ◌∷◌, slice_set, Option, Some, None, refl, sym, ap, subst, arith}
use Rattle.std.proofs.lemmas.List.{get_or-set_other}
use Rattle.std.proofs.lemmas.Bool.Decides.{eqb_tells}
use Rattle.host_types.specs.declared.status.Status.{Status}
use Rattle.host_types.specs.declared.status.Status.TheVariants.{New, Volatile, Waiting, Grouped, Zero}
use Rattle.host_types.specs.Sharing.{Sharing, PageState, state_at, is_shared, is_shared_page, is_in_company, broken, break_cost, cost_of, cost_from}
use Rattle.host_types.specs.Pins.{is_pinned, pinned, broken_for_run, broken_for_run_from, PinsOwn, unpinned_from, unpinned_in, capped}
use Rattle.host_types.proofs.Unmerging.{IsUnshared, broken-own, broken-shared, taken, unshared-here, unshared-kept}

abbrev one_unless : Bool → ℕ
one_unless b = if b then 0 else 1

-- one for a page that isn't pinned
abbrev free_at : List Bool → ℕ → ℕ
free_at pins i = one_unless (is_pinned pins i)

-- no page that was pinned isn't so now
abbrev pub ArePinned : List Bool → List Bool → Type 0
ArePinned old new = (i : ℕ) → free_at new i ≤ free_at old i

pinned-same : (pins : List Bool) (i : ℕ) → free_at (slice_set pins i true) i ≡ 0
pinned-same [] i = refl
pinned-same (b ∷ pins) zero = refl
pinned-same (b ∷ pins) (suc i) = pinned-same pins i

pub pinned-more : (pins : List Bool) (i : ℕ) → ArePinned pins (slice_set pins i true)
pinned-more pins i j =
    ⊎_elim
    (λ same. let none = pinned-same pins i in let here = ap (free_at (slice_set pins i true)) same.1 in omega (arith, none, here))
    (λ other. let kept = ap one_unless (get_or-set_other pins i j true true other.1) in omega (arith, kept))
    (eqb_tells j i)

-- ---- how many pages aren't pinned

pub unpinned-less : (old new : List Bool) (i n : ℕ) → ArePinned old new → unpinned_from new i n ≤ unpinned_from old i n
unfolding unpinned_from
unpinned-less old new i zero all = omega arith
unpinned-less old new i (suc n) all =
    let here = all i in
    let rest = unpinned-less old new (i + 1) n all in
    omega (arith, here, rest)

-- one less where one of them is pinned that wasn't
unpinned-one : (old new : List Bool) (i at n : ℕ) → ArePinned old new → free_at new i + 1 ≤ free_at old i → at ≤ i → i < at + n → 1 + unpinned_from new at n ≤ unpinned_from old at n
unfolding unpinned_from
unpinned-one old new i at zero all one above below = absurd (omega arith)
unpinned-one old new i at (suc n) all one above below =
    ⊎_elim
    (λ same. let rest = unpinned-less old new (at + 1) n all in
    let now = ap (free_at new) same.1 in
    let was = ap (free_at old) same.1 in
    omega (arith, one, rest, now, was))
    (λ other. let ne = other.1 in
    let rest = unpinned-one old new i (at + 1) n all one (omega (arith, above, ne)) (omega (arith, below)) in
    let here = all at in
    omega (arith, here, rest))
    (eqb_tells at i)

-- ---- the break of one page

-- no more than a page that a run takes out is charged to its reserve
module _ (s : Sharing) (i : ℕ) where
  by-shared : is_shared_page (state_at s i) ≡ true → broken_for_run true s i ≡ pinned (broken s i) i
  unfolding broken_for_run
  by-shared shared = ap (λ (b : Bool). if true && b then pinned (broken s i) i else broken s i) shared

  pub by-own : is_shared_page (state_at s i) ≡ false → broken_for_run true s i ≡ s
  unfolding broken_for_run
  by-own own = ap (λ (b : Bool). if true && b then pinned (broken s i) i else broken s i) own ∙ broken-own s i own

  pins-shared : is_shared_page (state_at s i) ≡ true → (broken_for_run true s i).pins ≡ slice_set s.pins i true
  pins-shared shared = ap (λ (t : Sharing). t.pins) (by-shared shared) ∙ ap (λ (t : Sharing). slice_set t.pins i true) (broken-shared s i shared)

  -- a page that shares no frame takes none
  pub break_cost-own : is_shared_page (state_at s i) ≡ false → break_cost s i ≡ 0
  unfolding break_cost
  break_cost-own own = by_page (state_at s i) refl
    where
      by_status : (status : Status) → is_shared status ≡ false → cost_of (is_in_company s i) status ≡ 0
      by_status New e = refl
      by_status Volatile e = refl
      by_status Waiting e = refl
      by_status Grouped e = absurd (cc)
      by_status Zero e = absurd (cc)

      by_page : (page : Option PageState) → state_at s i ≡ page → break_cost s i ≡ 0
      by_page None e = rw e refl
      by_page (Some state) e = rw e (by_status state.status (sym (ap is_shared_page e) ∙ own))

  -- and each page one at most
  pub break_cost-few : break_cost s i ≤ 1
  unfolding break_cost
  break_cost-few = by_page (state_at s i) refl
    where
      by_status : (company : Bool) (status : Status) → cost_of company status ≤ 1
      by_status company New = omega arith
      by_status company Volatile = omega arith
      by_status company Waiting = omega arith
      by_status true Grouped = omega arith
      by_status false Grouped = omega arith
      by_status company Zero = omega arith

      by_page : (page : Option PageState) → state_at s i ≡ page → break_cost s i ≤ 1
      by_page None e = rw e (omega arith)
      by_page (Some state) e = rw e (by_status (is_in_company s i) state.status)

  -- pins that were there stay
  pub by-pinned : ArePinned s.pins (broken_for_run true s i).pins
  by-pinned = by_test (is_shared_page (state_at s i)) refl
    where
      by_test : (b : Bool) → is_shared_page (state_at s i) ≡ b → ArePinned s.pins (broken_for_run true s i).pins
      by_test true shared = rw (pins-shared shared) (pinned-more s.pins i)
      by_test false own = rw (by-own own) (λ j. omega arith)

  -- the frame that the break takes, it takes of the pages that aren't pinned
  by-pays : (at n : ℕ) → PinsOwn s → at ≤ i → i < at + n → break_cost s i + unpinned_from (broken_for_run true s i).pins at n ≤ unpinned_from s.pins at n
  by-pays at n own above below = by_test (is_shared_page (state_at s i)) refl
    where
      by_test : (b : Bool) → is_shared_page (state_at s i) ≡ b → break_cost s i + unpinned_from (broken_for_run true s i).pins at n ≤ unpinned_from s.pins at n
      by_test true shared =
          let free = ap one_unless (own i shared) in
          let none = pinned-same s.pins i in
          let less = unpinned-one s.pins (slice_set s.pins i true) i at n (pinned-more s.pins i) (omega (arith, free, none)) above below in
          let same = ap (λ (pins : List Bool). unpinned_from pins at n) (pins-shared shared) in
          let few = break_cost-few in
          omega (arith, less, same, few)
      by_test false unshared =
          let none = break_cost-own unshared in
          let same = ap (λ (t : Sharing). unpinned_from t.pins at n) (by-own unshared) in
          omega (arith, none, same)

  -- no page that lies on a frame that isn't its own is pinned
  by-keeps : PinsOwn s → PinsOwn (broken_for_run true s i)
  by-keeps own = by_test (is_shared_page (state_at s i)) refl
    where
      still : (j : ℕ) → j ≢ i → is_shared_page (state_at (broken s i) j) ≡ true → is_pinned (slice_set s.pins i true) j ≡ false
      still j ne shared = get_or-set_other s.pins i j true true ne ∙ own j (by_case (is_shared_page (state_at s j)) refl)
        where
          by_case : (b : Bool) → is_shared_page (state_at s j) ≡ b → is_shared_page (state_at s j) ≡ true
          by_case true e = e
          by_case false e = absurd (let kept : is_shared_page (state_at (broken s i) j) ≡ false = unshared-kept s i j e in cc)

      each : (j : ℕ) → is_shared_page (state_at (broken s i) j) ≡ true → is_pinned (slice_set s.pins i true) j ≡ false
      each j shared =
          ⊎_elim
          (λ same. absurd (let here : is_shared_page (state_at (broken s i) j) ≡ false = subst (IsUnshared (broken s i)) (sym same.1) (unshared-here s i) in cc))
          (λ other. still j other.1 shared)
          (eqb_tells j i)

      by_test : (b : Bool) → is_shared_page (state_at s i) ≡ b → PinsOwn (broken_for_run true s i)
      by_test true shared =
          let pins = ap (λ (t : Sharing). slice_set t.pins i true) (broken-shared s i shared) in
          rw (by-shared shared) (λ j k. ap (λ (p : List Bool). is_pinned p j) pins ∙ each j k)
      by_test false unshared = rw (by-own unshared) own

-- ---- the breaks of some pages

-- pins change no cost

broken-with : (s : Sharing) (pins : List Bool) (i : ℕ) → broken (record s { pins = pins }) i ≡ record (broken s i) { pins = pins }
unfolding broken
broken-with s pins i = by_test (is_shared_page (state_at s i))
  where
    by_test : (b : Bool) → (if b then taken (record s { pins = pins }) i else record s { pins = pins }) ≡ record (if b then taken s i else s) { pins = pins }
    by_test true = refl
    by_test false = refl

cost-with : (s : Sharing) (pins : List Bool) (i n : ℕ) → cost_from (record s { pins = pins }) i n ≡ cost_from s i n
unfolding cost_from break_cost
cost-with s pins i zero = refl
cost-with s pins i (suc n) =
    let rest : cost_from (broken (record s { pins = pins }) i) (i + 1) n ≡ cost_from (broken s i) (i + 1) n =
    ap (λ (t : Sharing). cost_from t (i + 1) n) (broken-with s pins i) ∙ cost-with (broken s i) pins (i + 1) n in
    omega (arith, rest)

-- what breaks take is the same whether or not the page before them was pinned
pub cost-by : (running : Bool) (s : Sharing) (i at n : ℕ) → cost_from (broken_for_run running s i) at n ≡ cost_from (broken s i) at n
unfolding broken_for_run
cost-by false s i at n = refl
cost-by true s i at n = by_test (is_shared_page (state_at s i)) refl
  where
    by_test : (b : Bool) → is_shared_page (state_at s i) ≡ b → cost_from (if b then pinned (broken s i) i else broken s i) at n ≡ cost_from (broken s i) at n
    by_test true shared = cost-with (broken s i) (slice_set (broken s i).pins i true) at n
    by_test false own = refl

-- pins that were there stay
pub breaks-pinned : (s : Sharing) (i n : ℕ) → ArePinned s.pins (broken_for_run_from true s i n).pins
unfolding broken_for_run_from
breaks-pinned s i zero = λ j. omega arith
breaks-pinned s i (suc n) = λ j.
    let first = by-pinned s i j in
    let rest = breaks-pinned (broken_for_run true s i) (i + 1) n j in
    omega (arith, first, rest)

-- what the breaks of pages of a map take, they take of its pages that aren't pinned
pays : (s : Sharing) (i k at n : ℕ) → PinsOwn s → at ≤ i → i + k ≤ at + n → cost_from s i k + unpinned_from (broken_for_run_from true s i k).pins at n ≤ unpinned_from s.pins at n
unfolding cost_from broken_for_run_from
pays s i zero at n own above below = omega arith
pays s i (suc k) at n own above below =
    let first = by-pays s i at n own above (omega (arith, below)) in
    let rest = pays (broken_for_run true s i) (i + 1) k at n (by-keeps s i own) (omega (arith, above)) (omega (arith, below)) in
    let same = cost-by true s i (i + 1) k in
    omega (arith, first, rest, same)

-- ---- all maps of a tenant

-- a later slot writes no map that an earlier one doesn't, and pins stay: no more pages may be taken out
pub maps-less : (later writes : ℕ → Bool) (pages : ℕ → ℕ) (old new : List Bool) (page_index n : ℕ) → ((m : ℕ) → later m ≡ true → writes m ≡ true) → ArePinned old new → unpinned_in later pages new page_index n ≤ unpinned_in writes pages old page_index n
unfolding unpinned_in
maps-less later writes pages old new page_index zero fewer all = omega arith
maps-less later writes pages old new page_index (suc m) fewer all =
    let rest = maps-less later writes pages old new page_index m fewer all in
    let here = unpinned-less old new (page_index + m * 256) (pages m) all in
    by_test (later m) refl rest here
  where
    by_test : (b : Bool) → later m ≡ b → unpinned_in later pages new page_index m ≤ unpinned_in writes pages old page_index m
        → unpinned_from new (page_index + m * 256) (pages m) ≤ unpinned_from old (page_index + m * 256) (pages m)
        → unpinned_in later pages new page_index m + (if later m then unpinned_from new (page_index + m * 256) (pages m) else 0)
        ≤ unpinned_in writes pages old page_index m + (if writes m then unpinned_from old (page_index + m * 256) (pages m) else 0)
    by_test true e rest here =
        let now = ap (λ (b : Bool). if b then unpinned_from new (page_index + m * 256) (pages m) else 0) e in
        let was = ap (λ (b : Bool). if b then unpinned_from old (page_index + m * 256) (pages m) else 0) (fewer m e) in
        omega (arith, rest, here, now, was)
    by_test false e rest here =
        let now = ap (λ (b : Bool). if b then unpinned_from new (page_index + m * 256) (pages m) else 0) e in
        omega (arith, rest, now)

-- so many fewer, where so many fewer are of one map that is written
maps-pay : (later writes : ℕ → Bool) (pages : ℕ → ℕ) (old new : List Bool) (page_index n m0 taken : ℕ) → ((m : ℕ) → later m ≡ true → writes m ≡ true) → ArePinned old new
    → m0 < n → writes m0 ≡ true → taken + unpinned_from new (page_index + m0 * 256) (pages m0) ≤ unpinned_from old (page_index + m0 * 256) (pages m0)
    → taken + unpinned_in later pages new page_index n ≤ unpinned_in writes pages old page_index n
unfolding unpinned_in
maps-pay later writes pages old new page_index zero m0 taken fewer all inside written pays = absurd (omega arith)
maps-pay later writes pages old new page_index (suc m) m0 taken fewer all inside written pays =
    ⊎_elim (λ same. here same.1)
    (λ other. below (maps-pay later writes pages old new page_index m m0 taken fewer all (omega (arith, inside, other.1)) written pays))
    (eqb_tells m0 m)
  where
    of_map : List Bool → ℕ
    of_map pins = unpinned_from pins (page_index + m * 256) (pages m)

    here : m0 ≡ m → taken + unpinned_in later pages new page_index (suc m) ≤ unpinned_in writes pages old page_index (suc m)
    here e =
        let rest = maps-less later writes pages old new page_index m fewer all in
        let is : writes m ≡ true = subst (λ (k : ℕ). writes k ≡ true) e written in
        let less : taken + of_map new ≤ of_map old = subst (λ (k : ℕ). taken + unpinned_from new (page_index + k * 256) (pages k) ≤ unpinned_from old (page_index + k * 256) (pages k)) e pays in
        let was = ap (λ (b : Bool). if b then of_map old else 0) is in
        by_test (later m) refl rest less was
      where
        by_test : (b : Bool) → later m ≡ b → unpinned_in later pages new page_index m ≤ unpinned_in writes pages old page_index m → taken + of_map new ≤ of_map old
            → (if writes m then of_map old else 0) ≡ of_map old
            → taken + (unpinned_in later pages new page_index m + (if later m then of_map new else 0)) ≤ unpinned_in writes pages old page_index m + (if writes m then of_map old else 0)
        by_test true e rest less was = let now = ap (λ (b : Bool). if b then of_map new else 0) e in omega (arith, rest, less, was, now)
        by_test false e rest less was = let now = ap (λ (b : Bool). if b then of_map new else 0) e in omega (arith, rest, less, was, now)

    below : taken + unpinned_in later pages new page_index m ≤ unpinned_in writes pages old page_index m → taken + unpinned_in later pages new page_index (suc m) ≤ unpinned_in writes pages old page_index (suc m)
    below rest =
        let less = unpinned-less old new (page_index + m * 256) (pages m) all in
        by_test (later m) refl rest less
      where
        by_test : (b : Bool) → later m ≡ b → taken + unpinned_in later pages new page_index m ≤ unpinned_in writes pages old page_index m → of_map new ≤ of_map old
            → taken + (unpinned_in later pages new page_index m + (if later m then of_map new else 0)) ≤ unpinned_in writes pages old page_index m + (if writes m then of_map old else 0)
        by_test true e rest less =
            let now = ap (λ (b : Bool). if b then of_map new else 0) e in
            let was = ap (λ (b : Bool). if b then of_map old else 0) (fewer m e) in
            omega (arith, rest, less, now, was)
        by_test false e rest less = let now = ap (λ (b : Bool). if b then of_map new else 0) e in omega (arith, rest, now)

-- ---- the reserve

-- the breaks of some pages take one frame each at most
pub cost_from-few : (s : Sharing) (i n : ℕ) → cost_from s i n ≤ n
unfolding cost_from
cost_from-few s i zero = omega arith
cost_from-few s i (suc n) =
    let first = break_cost-few s i in
    let rest = cost_from-few (broken s i) (i + 1) n in
    omega (arith, first, rest)

-- what is taken falls from both, so from the smaller one
capped-falls : (taken total later most rest : ℕ) → taken + later ≤ total → taken + rest ≤ most → taken + min later rest ≤ min total most
capped-falls taken total later most rest first second = omega (arith, first, second)

-- The central law. The store of an open run takes out k pages of a map that it writes from here on: what they take, and
-- the reserve of a later slot, are within the reserve of this one.
pub reserve-pays : (s : Sharing) (i k charge total later_total page_index m0 : ℕ) (writes later : ℕ → Bool) (pages : ℕ → ℕ) → PinsOwn s
    → ((m : ℕ) → later m ≡ true → writes m ≡ true) → m0 < 8 → writes m0 ≡ true
    → page_index + m0 * 256 ≤ i → i + k ≤ page_index + m0 * 256 + pages m0
    → k ≤ charge → charge + later_total ≤ total
    → cost_from s i k + capped later_total (unpinned_in later pages (broken_for_run_from true s i k).pins page_index 8) ≤ capped total (unpinned_in writes pages s.pins page_index 8)
reserve-pays s i k charge total later_total page_index m0 writes later pages own fewer inside written above below charged falls =
    let few = cost_from-few s i k in
    let one = pays s i k (page_index + m0 * 256) (pages m0) own above below in
    let all = maps-pay later writes pages s.pins (broken_for_run_from true s i k).pins page_index 8 m0 (cost_from s i k) fewer (breaks-pinned s i k) inside written one in
    capped-falls (cost_from s i k) total later_total (unpinned_in writes pages s.pins page_index 8) (unpinned_in later pages (broken_for_run_from true s i k).pins page_index 8)
    (omega (arith, few, charged, falls)) all

-- where nothing is written, a later slot needs no more
pub reserve-falls : (total later_total page_index : ℕ) (writes later : ℕ → Bool) (pages : ℕ → ℕ) (pins : List Bool)
    → ((m : ℕ) → later m ≡ true → writes m ≡ true) → later_total ≤ total
    → capped later_total (unpinned_in later pages pins page_index 8) ≤ capped total (unpinned_in writes pages pins page_index 8)
reserve-falls total later_total page_index writes later pages pins fewer falls =
    let all = maps-less later writes pages pins pins page_index 8 fewer (λ i. omega arith) in
    let first : 0 + later_total ≤ total = omega (arith, falls) in
    let second : 0 + unpinned_in later pages pins page_index 8 ≤ unpinned_in writes pages pins page_index 8 = omega (arith, all) in
    let least = capped-falls 0 total later_total (unpinned_in writes pages pins page_index 8) (unpinned_in later pages pins page_index 8) first second in
    omega (arith, least)
