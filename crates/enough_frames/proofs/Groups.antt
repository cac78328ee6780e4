-- The pages that are in groups: each is listed once.
use Rattle.std.proofs.Common.{sum_by, ◌≡◌, ◌∙◌, ⊎_elim, ℕ, suc, ◌+◌, ◌<◌, ◌≤◌, ◌||◌, Bool, true, false, if◌then◌else◌, List, [], ◌∷◌, length, filter, slice_index_or, Option, Some, None, is_some, option_map, IsTrue, refl, sym, ap, arith, All, AllPairs}
use Rattle.std.proofs.lemmas.List.Sums.{sum_by-cons}
use Rattle.std.proofs.lemmas.List.Elements.{All-head, All-tail}
use Rattle.std.proofs.lemmas.Bool.Decides.{nat_tests, eqb_tells}
use Rattle.host_types.specs.declared.status.Status.{Status}
use Rattle.host_types.specs.declared.status.Status.TheVariants.{New, Volatile, Waiting, Grouped, Zero}
use Rattle.host_types.specs.Sharing.{Sharing, PageState, state_at, is_shared, is_among, own_frame}
use Rattle.host_types.specs.Unmerging.{one_if_zeros, zeros_at}
use Rattle.host_types.proofs.Without.{one_when, times}
use Rattle.host_types.proofs.Unmerging.{listed, one_if_grouped, grouped_at, AreSome, AreListed}
use Rattle.enough_frames.proofs.Counting.{times-cons}

-- a number that is less than all of a list isn't listed
times-above : (i : ℕ) (g : List ℕ) → ((k : ℕ) → k < length g → i < slice_index_or g k 0) → times i g ≡ 0
times-above i [] h = refl
times-above i (j ∷ g) h =
    let first : i < j = h 0 (omega arith) in
    let rest = times-above i g (λ k below. h (suc k) (omega (arith, below))) in
    grind (arith, nat_tests, times-cons i j g)

-- a list in order has each of its numbers once
times-ordered : (i : ℕ) (g : List ℕ) → AllPairs (λ a b. a < b) g → times i g ≤ one_when (is_among i g)
times-ordered i [] h = omega arith
times-ordered i (j ∷ g) h =
    let rest = times-ordered i g (λ a b d low high. h (suc a) (suc b) d (omega (arith, low)) (omega (arith, high))) in
    let above = times-above j g (λ k below. h 0 (suc k) 0 (omega arith) (omega (arith, below))) in
    let split = times-cons i j g in
    ⊎_elim
    (λ same.
    let one = ap one_when same.0 in
    let among = ap (λ (b : Bool). one_when (b || is_among i g)) same.0 in
    let none : times i g ≡ 0 = ap (λ (n : ℕ). times n g) (sym same.1) ∙ above in
    omega (arith, split, one, among, none))
    (λ other.
    let one = ap one_when other.0 in
    let among = ap (λ (b : Bool). one_when (b || is_among i g)) other.0 in
    omega (arith, split, one, among, rest))
    (eqb_tells j i)

filter-cons : (i : ℕ) (g : List ℕ) (gs : List (List ℕ)) → length (filter (is_among i) (g ∷ gs)) ≡ one_when (is_among i g) + length (filter (is_among i) gs)
filter-cons i g gs = by_test (is_among i g) refl
  where
    by_test : (b : Bool) → is_among i g ≡ b → length (filter (is_among i) (g ∷ gs)) ≡ one_when (is_among i g) + length (filter (is_among i) gs)
    by_test true e = grind (arith, e)
    by_test false e = grind (arith, e)

-- a number is listed no more often than groups have it
listed-groups : (i : ℕ) (gs : List (List ℕ)) → All (AllPairs (λ a b. a < b)) gs → listed i gs ≤ length (filter (is_among i) gs)
listed-groups i [] h = omega arith
listed-groups i (g ∷ gs) h =
    let first = times-ordered i g (All-head (AllPairs (λ a b. a < b)) g gs h) in
    let rest = listed-groups i gs (All-tail (AllPairs (λ a b. a < b)) g gs h) in
    let split = sum_by-cons (times i) g gs in
    let passed = filter-cons i g gs in
    omega (arith, first, rest, split, passed)

-- the groups that have a number, where none does
abbrev HasNot : ℕ → List ℕ → Type 0
HasNot i g = is_among i g ≡ false

no_groups : (i : ℕ) (gs : List (List ℕ)) → All (HasNot i) gs → length (filter (is_among i) gs) ≡ 0
no_groups i [] h = refl
no_groups i (g ∷ gs) h =
    let passed = filter-cons i g gs in
    let here : is_among i g ≡ false = All-head (HasNot i) g gs h in
    let first : one_when (is_among i g) ≡ 0 = ap one_when here in
    let rest = no_groups i gs (All-tail (HasNot i) g gs h) in
    omega (arith, passed, first, rest)

-- each group that has a number lists it
among-times : (i : ℕ) (g : List ℕ) → one_when (is_among i g) ≤ times i g
among-times i [] = omega arith
among-times i (j ∷ g) =
    let rest = among-times i g in
    let split = times-cons i j g in
    ⊎_elim
    (λ same.
    let one = ap one_when same.0 in
    let among = ap (λ (b : Bool). one_when (b || is_among i g)) same.0 in
    omega (arith, split, one, among))
    (λ other.
    let one = ap one_when other.0 in
    let among = ap (λ (b : Bool). one_when (b || is_among i g)) other.0 in
    omega (arith, split, one, among, rest))
    (eqb_tells j i)

groups-listed : (i : ℕ) (gs : List (List ℕ)) → length (filter (is_among i) gs) ≤ listed i gs
groups-listed i [] = omega arith
groups-listed i (g ∷ gs) =
    let first = among-times i g in
    let rest = groups-listed i gs in
    let split = sum_by-cons (times i) g gs in
    let passed = filter-cons i g gs in
    omega (arith, first, rest, split, passed)

some_groups : (gs : List (List ℕ)) → All (λ group. 0 < length group) gs → AreSome gs
some_groups [] h = tt
some_groups (g ∷ gs) h = (All-head (λ (group : List ℕ). 0 < length group) g gs h, some_groups gs (All-tail (λ (group : List ℕ). 0 < length group) g gs h))

pub few-groups : (gs : List (List ℕ)) → AreSome gs → length gs ≤ sum_by (λ (group : List ℕ). length group) gs
few-groups [] h = omega arith
few-groups (g ∷ gs) h =
    let first : 0 < length g = h.0 in
    let rest = few-groups gs h.1 in
    let split = sum_by-cons (λ (group : List ℕ). length group) g gs in
    omega (arith, first, rest, split)

abbrev status_of : Option PageState → Option Status
status_of page = option_map (λ (state : PageState). state.status) page

-- what is known of groups and of the statuses of their pages
pub record AreInGroups (s : Sharing) : Type 0 where
  pub some : All (λ group. 0 < length group) s.groups
  pub ordered : All (AllPairs (λ a b. a < b)) s.groups
  pub grouped : All (λ group. (i : ℕ) → IsTrue (is_among i group) → status_of (state_at s i) ≡ Some Grouped) s.groups
  pub once : (i : ℕ) → status_of (state_at s i) ≡ Some Grouped → length (filter (is_among i) s.groups) ≡ 1

has_not : (b : Bool) → (IsTrue b → ⊥) → b ≡ false
has_not true h = absurd (h refl)
has_not false h = refl

not_listed : (s : Sharing) (i : ℕ) → AreInGroups s → (status_of (state_at s i) ≡ Some Grouped → ⊥) → listed i s.groups ≡ 0
not_listed s i are no_group =
    let most = listed-groups i s.groups are.ordered in
    let none = no_groups i s.groups (λ k d below. has_not (is_among i (slice_index_or s.groups k d)) (λ there. no_group (are.grouped k d below i there))) in
    omega (arith, most, none)

once_at : (s : Sharing) (i : ℕ) → AreInGroups s → listed i s.groups ≡ grouped_at (state_at s i)
once_at s i are = by_state (state_at s i) refl
  where
    by_state : (page : Option PageState) → state_at s i ≡ page → listed i s.groups ≡ grouped_at (state_at s i)
    by_state None e =
        let none = not_listed s i are (λ f. let g = ap status_of e in cc) in
        let here = ap grouped_at e in
        omega (arith, none, here)
    by_state (Some state) e = by_status state.status refl
      where
        known : (status : Status) → state.status ≡ status → status_of (state_at s i) ≡ Some status
        known status same = ap status_of e ∙ ap Some same

        other : (status : Status) → state.status ≡ status → (status ≡ Grouped → ⊥) → one_if_grouped status ≡ 0 → listed i s.groups ≡ grouped_at (state_at s i)
        other status same differs zero =
            let none = not_listed s i are (λ grouped. let has = known status same in differs (cc)) in
            let here = ap grouped_at e ∙ ap one_if_grouped same ∙ zero in
            omega (arith, none, here)

        by_status : (status : Status) → state.status ≡ status → listed i s.groups ≡ grouped_at (state_at s i)
        by_status Grouped same =
            let most = listed-groups i s.groups are.ordered in
            let least = groups-listed i s.groups in
            let one = are.once i (known Grouped same) in
            let here : grouped_at (state_at s i) ≡ 1 = ap grouped_at e ∙ ap one_if_grouped same in
            omega (arith, most, least, one, here)
        by_status Zero same = other Zero same (λ e. cc) refl
        by_status New same = other New same (λ e. cc) refl
        by_status Volatile same = other Volatile same (λ e. cc) refl
        by_status Waiting same = other Waiting same (λ e. cc) refl

pub are_listed : (s : Sharing) → AreInGroups s → AreListed s
are_listed s are = record { some = some_groups s.groups are.some; once = λ i. once_at s i are }

-- how much a page counts: its entries in groups, its place on the frame of zeros, and its own frame
abbrev pub counted_at : Sharing → ℕ → ℕ
counted_at s i = listed i s.groups + zeros_at (state_at s i) + own_frame (state_at s i)

pub counted_once : (s : Sharing) (i : ℕ) → AreListed s → counted_at s i ≤ one_when (is_some (state_at s i))
counted_once s i are = by_state (state_at s i) refl
  where
    counts : (page : Option PageState) → state_at s i ≡ page → (listed i s.groups ≡ grouped_at page) × ((zeros_at (state_at s i) ≡ zeros_at page) × (own_frame (state_at s i) ≡ own_frame page))
    counts page e = (are.once i ∙ ap grouped_at e, (ap zeros_at e, ap own_frame e))

    by_state : (page : Option PageState) → state_at s i ≡ page → counted_at s i ≤ one_when (is_some (state_at s i))
    by_state None e = let (grouped, (zeros, own)) = counts None e in omega (arith, grouped, zeros, own)
    by_state (Some state) e =
        let (grouped, (zeros, own)) = counts (Some state) e in
        let one : one_when (is_some (state_at s i)) ≡ 1 = ap (λ (page : Option PageState). one_when (is_some page)) e in
        let most = by_status state.status in
        omega (arith, grouped, zeros, own, one, most)
      where
        by_status : (status : Status) → one_if_grouped status + one_if_zeros status + (if is_shared status then 0 else 1) ≤ 1
        by_status Grouped = omega arith
        by_status Zero = omega arith
        by_status New = omega arith
        by_status Volatile = omega arith
        by_status Waiting = omega arith
