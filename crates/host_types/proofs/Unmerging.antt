-- What unmerging takes, and what it leaves.
use Rattle.std.proofs.Common.{◌≡◌, ◌≢◌, ◌∙◌, ⊎_elim, ℕ, zero, suc, ◌+◌, ◌-◌, ◌<◌, ◌≤◌, ◌==◌, ◌&&◌, ◌||◌, nat_lt, not, Bool, true, false, if◌then◌else◌, List, [], ◌∷◌, length, sum_by, slice_index_or, slice_set, Option, Some, None, option_map, unwrap_or, refl, sym, ap, subst, arith}
use Rattle.std.specs.Bool.{⊤}
use Rattle.std.specs.List.{list_any}
use Rattle.std.proofs.lemmas.List.{get_or-set_same, get_or-set_other}
use Rattle.std.proofs.lemmas.List.Sums.{sum_by-set, sum_by-cons}
use Rattle.std.proofs.lemmas.Bool.Decides.{nat_tests, eqb_tells, leb_tells}
use Rattle.std.proofs.Math.Bool.{or-false}
use Rattle.host_types.specs.declared.status.Status.{Status}
use Rattle.host_types.specs.declared.status.Status.TheVariants.{New, Volatile, Waiting, Grouped, Zero}
use Rattle.host_types.specs.Sharing.{Sharing, PageState, state_at, is_shared, is_shared_page, is_among, without, left_by, is_in_company, broken, broken_page, break_cost, pages_broken, cost_from, cost_of}
use Rattle.host_types.proofs.Without.{one_when, times, without-length, times-gone, times-kept, kept_group, some_kept}
use Rattle.host_types.specs.Unmerging.{unmerged, members, counted_by, zeros_at, zero_pages, unmerge_need, SharesNothing}

-- how often it stands in all groups
abbrev pub listed : ℕ → List (List ℕ) → ℕ
listed i groups = sum_by (times i) groups

-- no group is empty
abbrev pub AreSome : List (List ℕ) → Type 0
AreSome [] = ⊤
AreSome (group ∷ groups) = (0 < length group) × AreSome groups

abbrev pub one_if_grouped : Status → ℕ
one_if_grouped Grouped = 1
one_if_grouped other = 0

abbrev pub grouped_at : Option PageState → ℕ
grouped_at page = counted_by one_if_grouped page

-- no group is empty, and each grouped page, and no other, stands once in one group
pub record AreListed (s : Sharing) : Type 0 where
  pub some : AreSome s.groups
  pub once : (i : ℕ) → listed i s.groups ≡ grouped_at (state_at s i)

-- where it doesn't stand in a group, it isn't the first one there, and doesn't stand after that
none-here : (i j : ℕ) (g : List ℕ) → times i (j ∷ g) ≡ 0 → ((j == i) ≡ false) × (times i g ≡ 0)
none-here i j g h = by_test (j == i) refl
  where
    by_test : (b : Bool) → (j == i) ≡ b → ((j == i) ≡ false) × (times i g ≡ 0)
    by_test true e = absurd (let split = sum_by-cons (λ (x : ℕ). one_when (x == i)) j g in let one = ap one_when e in omega (arith, h, split, one))
    by_test false e = (e, let split = sum_by-cons (λ (x : ℕ). one_when (x == i)) j g in let one = ap one_when e in omega (arith, h, split, one))

without-none : (i : ℕ) (g : List ℕ) → times i g ≡ 0 → without i g ≡ g
without-none i [] h = refl
without-none i (j ∷ g) h =
    let (other, none) = none-here i j g h in
    ap (λ (b : Bool). if not b then j ∷ without i g else without i g) other ∙ ap (λ (l : List ℕ). j ∷ l) (without-none i g none)

among-none : (i : ℕ) (g : List ℕ) → times i g ≡ 0 → is_among i g ≡ false
among-none i [] h = refl
among-none i (j ∷ g) h = let (other, none) = none-here i j g h in ap (λ (b : Bool). b || is_among i g) other ∙ among-none i g none

among-some : (i : ℕ) (g : List ℕ) → 1 ≤ times i g → is_among i g ≡ true
among-some i [] h = absurd (omega arith)
among-some i (j ∷ g) h =
    let split = sum_by-cons (λ (x : ℕ). one_when (x == i)) j g in
    by_test (j == i) refl split (among-some i g)
  where
    by_test : (b : Bool) → (j == i) ≡ b → times i (j ∷ g) ≡ one_when (j == i) + times i g → (1 ≤ times i g → is_among i g ≡ true) → (b || is_among i g) ≡ true
    by_test true e split rest = refl
    by_test false e split rest = rest (let one = ap one_when e in omega (arith, h, split, one))

sum-kept : (f : List ℕ → ℕ) (group : List ℕ) (rest : List (List ℕ)) → f [] ≡ 0 → sum_by f (kept_group group rest) ≡ f group + sum_by f rest
sum-kept f [] rest none = omega (arith, none)
sum-kept f (j ∷ group) rest none = ap (sum_by f) (some_kept (j ∷ group) rest (omega arith)) ∙ sum_by-cons f (j ∷ group) rest

length-kept : (group : List ℕ) (rest : List (List ℕ)) → length (kept_group group rest) ≡ one_when (nat_lt 0 (length group)) + length rest
length-kept group rest = by_test (nat_lt 0 (length group))
  where
    by_test : (b : Bool) → length (if b then group ∷ rest else rest) ≡ one_when b + length rest
    by_test true = omega arith
    by_test false = omega arith

are_some-kept : (group : List ℕ) (rest : List (List ℕ)) → AreSome rest → AreSome (kept_group group rest)
are_some-kept [] rest are = are
are_some-kept (j ∷ group) rest are = subst AreSome (sym (some_kept (j ∷ group) rest (omega arith))) (omega arith, are)

-- the groups after a page left its own
are_some-left : (i : ℕ) (gs : List (List ℕ)) → AreSome (left_by i gs)
are_some-left i [] = tt
are_some-left i (g ∷ gs) = are_some-kept (without i g) (left_by i gs) (are_some-left i gs)

listed-gone : (i : ℕ) (gs : List (List ℕ)) → listed i (left_by i gs) ≡ 0
listed-gone i [] = refl
listed-gone i (g ∷ gs) =
    let rest = listed-gone i gs in
    let split = sum-kept (times i) (without i g) (left_by i gs) refl in
    let none = times-gone i g in
    omega (arith, rest, split, none)

listed-kept : (i k : ℕ) (gs : List (List ℕ)) → k ≢ i → listed k (left_by i gs) ≡ listed k gs
listed-kept i k [] ne = refl
listed-kept i k (g ∷ gs) ne =
    let rest = listed-kept i k gs ne in
    let split = sum-kept (times k) (without i g) (left_by i gs) refl in
    let whole = sum_by-cons (times k) g gs in
    let same = times-kept i k g ne in
    omega (arith, rest, split, whole, same)

members-left : (i : ℕ) (gs : List (List ℕ)) → sum_by (λ (group : List ℕ). length group) (left_by i gs) + listed i gs ≡ sum_by (λ (group : List ℕ). length group) gs
members-left i [] = refl
members-left i (g ∷ gs) =
    let rest = members-left i gs in
    let split = sum-kept (λ (group : List ℕ). length group) (without i g) (left_by i gs) refl in
    let whole = sum_by-cons (λ (group : List ℕ). length group) g gs in
    let here = sum_by-cons (times i) g gs in
    let one = without-length i g in
    omega (arith, rest, split, whole, here, one)

few-groups : (gs : List (List ℕ)) → AreSome gs → length gs ≤ sum_by (λ (group : List ℕ). length group) gs
few-groups [] are = omega arith
few-groups (g ∷ gs) are =
    let rest = few-groups gs are.1 in
    let whole = sum_by-cons (λ (group : List ℕ). length group) g gs in
    omega (arith, rest, whole, are.0)

left-none : (i : ℕ) (gs : List (List ℕ)) → AreSome gs → listed i gs ≡ 0 → left_by i gs ≡ gs
left-none i [] are none = refl
left-none i (g ∷ gs) are none =
    let split = sum_by-cons (times i) g gs in
    ap (λ (h : List ℕ). kept_group h (left_by i gs)) (without-none i g (omega (arith, none, split)))
    ∙ some_kept g (left_by i gs) are.0
    ∙ ap (λ (l : List (List ℕ)). g ∷ l) (left-none i gs are.1 (omega (arith, none, split)))

-- a group has the page, and another one
abbrev has_company : ℕ → List ℕ → Bool
has_company i group = is_among i group && nat_lt 1 (length group)

company-none : (i : ℕ) (gs : List (List ℕ)) → listed i gs ≡ 0 → list_any (has_company i) gs ≡ false
company-none i [] none = refl
company-none i (g ∷ gs) none =
    let split = sum_by-cons (times i) g gs in
    ap (λ (b : Bool). b && nat_lt 1 (length g) || list_any (has_company i) gs) (among-none i g (omega (arith, none, split)))
    ∙ company-none i gs (omega (arith, none, split))

above : (k n : ℕ) → k < n → nat_lt k n ≡ true
above k n h = grind (arith, nat_tests)

one_less : (n m : ℕ) → n + 1 ≡ m → nat_lt 0 n ≡ nat_lt 1 m
one_less zero m e = ap (nat_lt 1) e
one_less (suc n) m e = above 0 (suc n) (omega arith) ∙ sym (above 1 m (omega (arith, e)))

-- one group less where it was the last page of its own
left-one : (i : ℕ) (gs : List (List ℕ)) → AreSome gs → listed i gs ≡ 1 → length (left_by i gs) + 1 ≡ length gs + one_when (list_any (has_company i) gs)
left-one i [] are one = absurd (omega arith)
left-one i (g ∷ gs) are one = by_times (times i g) refl (left-one i gs are.1)
  where
    split : listed i (g ∷ gs) ≡ times i g + listed i gs
    split = sum_by-cons (times i) g gs

    its_own : 1 ≤ times i g → length (left_by i (g ∷ gs)) + 1 ≡ suc (length gs) + one_when (list_any (has_company i) (g ∷ gs))
    its_own some =
        let none : listed i gs ≡ 0 = omega (arith, one, split, some) in
        let long = without-length i g in
        let first = ap one_when (one_less (length (without i g)) (length g) (omega (arith, long, one, split, some))) in
        let count = length-kept (without i g) (left_by i gs) in
        let rest = ap length (left-none i gs are.1 none) in
        let company : list_any (has_company i) (g ∷ gs) ≡ nat_lt 1 (length g) =
        ap (λ (b : Bool). b && nat_lt 1 (length g) || list_any (has_company i) gs) (among-some i g some)
        ∙ ap (λ (b : Bool). nat_lt 1 (length g) || b) (company-none i gs none)
        ∙ or-false (nat_lt 1 (length g)) in
        let answered = ap one_when company in
        omega (arith, count, first, rest, answered)

    another : times i g ≡ 0 → (listed i gs ≡ 1 → length (left_by i gs) + 1 ≡ length gs + one_when (list_any (has_company i) gs))
        → length (left_by i (g ∷ gs)) + 1 ≡ suc (length gs) + one_when (list_any (has_company i) (g ∷ gs))
    another none later =
        let rest = later (omega (arith, one, split, none)) in
        let kept = ap length (ap (λ (h : List ℕ). kept_group h (left_by i gs)) (without-none i g none) ∙ some_kept g (left_by i gs) are.0) in
        let company : list_any (has_company i) (g ∷ gs) ≡ list_any (has_company i) gs =
        ap (λ (b : Bool). b && nat_lt 1 (length g) || list_any (has_company i) gs) (among-none i g none) in
        let answered = ap one_when company in
        omega (arith, rest, kept, answered)

    by_times : (n : ℕ) → times i g ≡ n → (listed i gs ≡ 1 → length (left_by i gs) + 1 ≡ length gs + one_when (list_any (has_company i) gs))
        → length (left_by i (g ∷ gs)) + 1 ≡ suc (length gs) + one_when (list_any (has_company i) (g ∷ gs))
    by_times zero e later = another e later
    by_times (suc n) e later = its_own (omega (arith, e))

-- a state with a page taken out
abbrev pub taken : Sharing → ℕ → Sharing
taken s i = record s { pages = slice_set s.pages i (option_map broken_page (state_at s i)); groups = left_by i s.groups }

pub broken-shared : (s : Sharing) (i : ℕ) → is_shared_page (state_at s i) ≡ true → broken s i ≡ taken s i
unfolding broken
broken-shared s i h = ap (λ (b : Bool). if b then taken s i else s) h

pub broken-own : (s : Sharing) (i : ℕ) → is_shared_page (state_at s i) ≡ false → broken s i ≡ s
unfolding broken
broken-own s i h = ap (λ (b : Bool). if b then taken s i else s) h

cost-there : (s : Sharing) (i : ℕ) (state : PageState) → state_at s i ≡ Some state → break_cost s i ≡ cost_of (is_in_company s i) state.status
unfolding break_cost
cost-there s i state here =
    ap (λ (x : Option PageState). unwrap_or (option_map (λ (state : PageState). cost_of (is_in_company s i) state.status) x) 0) here

pub cost-none : (s : Sharing) (i : ℕ) → state_at s i ≡ None → break_cost s i ≡ 0
unfolding break_cost
cost-none s i here =
    ap (λ (x : Option PageState). unwrap_or (option_map (λ (state : PageState). cost_of (is_in_company s i) state.status) x) 0) here

-- a page that is there has an index
pub state_inside : (xs : List (Option PageState)) (i : ℕ) (state : PageState) → slice_index_or xs i None ≡ Some state → i < length xs
state_inside [] i state e = absurd (cc)
state_inside (x ∷ xs) zero state e = omega arith
state_inside (x ∷ xs) (suc i) state e = let rest = state_inside xs i state e in omega arith

-- what the break of a page keeps, and what it takes of the need
pub record Breaks (s : Sharing) (i : ℕ) : Type 0 where
  pub listed : AreListed (broken s i)
  pub need : unmerge_need (broken s i) + break_cost s i ≡ unmerge_need s

breaks-own : (s : Sharing) (i : ℕ) → AreListed s → is_shared_page (state_at s i) ≡ false → break_cost s i ≡ 0 → Breaks s i
breaks-own s i are own none =
    record { listed = subst AreListed (sym (broken-own s i own)) are; need = let same = ap unmerge_need (broken-own s i own) in omega (arith, same, none) }

module _ (s : Sharing) (i : ℕ) (state : PageState) (are : AreListed s) (here : state_at s i ≡ Some state) where
  at_here : slice_index_or (slice_set s.pages i (option_map broken_page (state_at s i))) i None ≡ Some (broken_page state)
  at_here = get_or-set_same s.pages i (option_map broken_page (state_at s i)) None (state_inside s.pages i state here) ∙ ap (option_map broken_page) here

  at_other : (j : ℕ) → j ≢ i → slice_index_or (slice_set s.pages i (option_map broken_page (state_at s i))) j None ≡ state_at s j
  at_other j ne = get_or-set_other s.pages i j (option_map broken_page (state_at s i)) None ne

  listed-taken : AreListed (taken s i)
  listed-taken = record { some = are_some-left i s.groups; once = λ j. ⊎_elim (λ same. subst (λ (k : ℕ). listed k (left_by i s.groups) ≡ grouped_at (state_at (taken s i) k)) (sym same.1) gone) (λ other. kept j other.1) (eqb_tells j i) }
    where
      gone : listed i (left_by i s.groups) ≡ grouped_at (state_at (taken s i) i)
      gone = listed-gone i s.groups ∙ sym (ap grouped_at at_here)

      kept : (j : ℕ) → j ≢ i → listed j (left_by i s.groups) ≡ grouped_at (state_at (taken s i) j)
      kept j ne = listed-kept i j s.groups ne ∙ are.once j ∙ sym (ap grouped_at (at_other j ne))

  zeros-taken : zero_pages (taken s i) + zeros_at (Some state) ≡ zero_pages s
  unfolding zero_pages
  zeros-taken =
      let set = sum_by-set zeros_at s.pages i (option_map broken_page (state_at s i)) None (state_inside s.pages i state here) in
      let old = ap zeros_at here in
      let new : zeros_at (option_map broken_page (state_at s i)) ≡ 0 = ap (λ (x : Option PageState). zeros_at (option_map broken_page x)) here in
      omega (arith, set, old, new)

  breaks-shared : is_shared state.status ≡ true → unmerge_need (taken s i) + cost_of (is_in_company s i) state.status ≡ unmerge_need s → Breaks s i
  breaks-shared shared need =
      let same = broken-shared s i (ap is_shared_page here ∙ shared) in
      record {
        listed = subst AreListed (sym same) listed-taken;
        need = let less = ap unmerge_need same in let cost = cost-there s i state here in omega (arith, less, cost, need);
      }

  need-grouped : state.status ≡ Grouped → unmerge_need (taken s i) + cost_of (is_in_company s i) Grouped ≡ unmerge_need s
  unfolding unmerge_need members
  need-grouped e =
      let one : listed i s.groups ≡ 1 = are.once i ∙ ap grouped_at here ∙ ap one_if_grouped e in
      let fewer = members-left i s.groups in
      let groups = left-one i s.groups are.some one in
      let enough = few-groups (left_by i s.groups) (are_some-left i s.groups) in
      let zeros = zeros-taken in
      let none = ap (λ (x : Status). zeros_at (Some (record state { status = x }))) e in
      by_company (is_in_company s i) groups fewer enough zeros none one
    where
      by_company : (c : Bool) → length (left_by i s.groups) + 1 ≡ length s.groups + one_when c
          → sum_by (λ (group : List ℕ). length group) (left_by i s.groups) + listed i s.groups ≡ sum_by (λ (group : List ℕ). length group) s.groups
          → length (left_by i s.groups) ≤ sum_by (λ (group : List ℕ). length group) (left_by i s.groups)
          → zero_pages (taken s i) + zeros_at (Some state) ≡ zero_pages s → zeros_at (Some state) ≡ 0 → listed i s.groups ≡ 1
          → unmerge_need (taken s i) + cost_of c Grouped ≡ unmerge_need s
      by_company true groups fewer enough zeros none one = omega (arith, groups, fewer, enough, zeros, none, one)
      by_company false groups fewer enough zeros none one = omega (arith, groups, fewer, enough, zeros, none, one)

  need-zero : state.status ≡ Zero → unmerge_need (taken s i) + cost_of (is_in_company s i) Zero ≡ unmerge_need s
  unfolding unmerge_need members
  need-zero e =
      let none : listed i s.groups ≡ 0 = are.once i ∙ ap grouped_at here ∙ ap one_if_grouped e in
      let fewer = members-left i s.groups in
      let groups = ap length (left-none i s.groups are.some none) in
      let zeros = zeros-taken in
      let one : zeros_at (Some state) ≡ 1 = ap (λ (x : Status). zeros_at (Some (record state { status = x }))) e in
      omega (arith, none, fewer, groups, zeros, one)

  pub breaks-there : Breaks s i
  breaks-there = by_status state.status refl
    where
      own : is_shared state.status ≡ false → cost_of (is_in_company s i) state.status ≡ 0 → Breaks s i
      own e none = breaks-own s i are (ap is_shared_page here ∙ e) (cost-there s i state here ∙ none)

      costs : (x : Status) → state.status ≡ x → unmerge_need (taken s i) + cost_of (is_in_company s i) x ≡ unmerge_need s → unmerge_need (taken s i) + cost_of (is_in_company s i) state.status ≡ unmerge_need s
      costs x e need = let same = ap (cost_of (is_in_company s i)) e in omega (arith, same, need)

      by_status : (x : Status) → state.status ≡ x → Breaks s i
      by_status New e = own (ap is_shared e) (ap (cost_of (is_in_company s i)) e)
      by_status Volatile e = own (ap is_shared e) (ap (cost_of (is_in_company s i)) e)
      by_status Waiting e = own (ap is_shared e) (ap (cost_of (is_in_company s i)) e)
      by_status Grouped e = breaks-shared (ap is_shared e) (costs Grouped e (need-grouped e))
      by_status Zero e = breaks-shared (ap is_shared e) (costs Zero e (need-zero e))

pub breaks : (s : Sharing) (i : ℕ) → AreListed s → Breaks s i
breaks s i are = by_state (state_at s i) refl
  where
    by_state : (x : Option PageState) → state_at s i ≡ x → Breaks s i
    by_state None e = breaks-own s i are (ap is_shared_page e) (cost-none s i e)
    by_state (Some state) e = breaks-there s i state are e

-- what is left of the need after some breaks
pub need-from : (s : Sharing) (i n : ℕ) → AreListed s → AreListed (pages_broken s i n) × (unmerge_need (pages_broken s i n) + cost_from s i n ≡ unmerge_need s)
unfolding pages_broken cost_from
need-from s i zero are = (are, omega arith)
need-from s i (suc n) are =
    let one = breaks s i are in
    let rest = need-from (broken s i) (i + 1) n one.listed in
    (rest.0, omega (arith, one.need, rest.1))

-- a page that shares no frame
abbrev pub IsUnshared : Sharing → ℕ → Type 0
IsUnshared s j = is_shared_page (state_at s j) ≡ false

pub unshared-here : (s : Sharing) (i : ℕ) → IsUnshared (broken s i) i
unshared-here s i = by_state (state_at s i) refl
  where
    by_status : (state : PageState) → state_at s i ≡ Some state → (b : Bool) → is_shared state.status ≡ b → IsUnshared (broken s i) i
    by_status state e true shared =
        subst (λ (t : Sharing). IsUnshared t i) (sym (broken-shared s i (ap is_shared_page e ∙ shared)))
        (ap is_shared_page (get_or-set_same s.pages i (option_map broken_page (state_at s i)) None (state_inside s.pages i state e) ∙ ap (option_map broken_page) e))
    by_status state e false own =
        let unshared = ap is_shared_page e ∙ own in subst (λ (t : Sharing). IsUnshared t i) (sym (broken-own s i unshared)) unshared

    by_state : (x : Option PageState) → state_at s i ≡ x → IsUnshared (broken s i) i
    by_state None e = let unshared = ap is_shared_page e in subst (λ (t : Sharing). IsUnshared t i) (sym (broken-own s i unshared)) unshared
    by_state (Some state) e = by_status state e (is_shared state.status) refl

pub unshared-kept : (s : Sharing) (i j : ℕ) → IsUnshared s j → IsUnshared (broken s i) j
unshared-kept s i j own = ⊎_elim (λ same. subst (IsUnshared (broken s i)) (sym same.1) (unshared-here s i)) (λ other. apart other.1 (is_shared_page (state_at s i)) refl) (eqb_tells j i)
  where
    apart : j ≢ i → (b : Bool) → is_shared_page (state_at s i) ≡ b → IsUnshared (broken s i) j
    apart ne true shared =
        subst (λ (t : Sharing). IsUnshared t j) (sym (broken-shared s i shared)) (ap is_shared_page (get_or-set_other s.pages i j (option_map broken_page (state_at s i)) None ne) ∙ own)
    apart ne false unshared = subst (λ (t : Sharing). IsUnshared t j) (sym (broken-own s i unshared)) own

unshared-from : (s : Sharing) (i n j : ℕ) → IsUnshared s j → IsUnshared (pages_broken s i n) j
unfolding pages_broken
unshared-from s i zero j own = own
unshared-from s i (suc n) j own = unshared-from (broken s i) (i + 1) n j (unshared-kept s i j own)

unshared-among : (s : Sharing) (i n j : ℕ) → i ≤ j → j < i + n → IsUnshared (pages_broken s i n) j
unfolding pages_broken
unshared-among s i zero j above below = absurd (omega arith)
unshared-among s i (suc n) j above below =
    ⊎_elim (λ same. unshared-from (broken s i) (i + 1) n j (subst (IsUnshared (broken s i)) (sym same.1) (unshared-here s i)))
    (λ other. let ne = other.1 in unshared-among (broken s i) (i + 1) n j (omega (arith, above, ne)) (omega (arith, below)))
    (eqb_tells j i)

beyond : (xs : List (Option PageState)) (j : ℕ) → length xs ≤ j → slice_index_or xs j None ≡ None
beyond [] j h = refl
beyond (x ∷ xs) zero h = absurd (omega arith)
beyond (x ∷ xs) (suc j) h = beyond xs j (omega arith)

-- after the breaks of all pages no page shares a frame
all_unshared : (s : Sharing) (j : ℕ) → IsUnshared (pages_broken s 0 (length s.pages)) j
all_unshared s j =
    ⊎_elim (λ below. unshared-among s 0 (length s.pages) j (omega arith) (omega (arith, below.1)))
    (λ above. unshared-from s 0 (length s.pages) j (ap is_shared_page (beyond s.pages j (omega (arith, above.1)))))
    (leb_tells (suc j) (length s.pages))

not_grouped : (x : Option PageState) → is_shared_page x ≡ false → grouped_at x ≡ 0
not_grouped None h = refl
not_grouped (Some state) h = by_status state.status h
  where
    by_status : (x : Status) → is_shared x ≡ false → one_if_grouped x ≡ 0
    by_status New e = refl
    by_status Volatile e = refl
    by_status Waiting e = refl
    by_status Grouped e = absurd (cc)
    by_status Zero e = refl

not_zeros : (x : Option PageState) → is_shared_page x ≡ false → zeros_at x ≡ 0
not_zeros None h = refl
not_zeros (Some state) h = by_status state.status h
  where
    by_status : (x : Status) → is_shared x ≡ false → zeros_at (Some (record state { status = x })) ≡ 0
    by_status New e = refl
    by_status Volatile e = refl
    by_status Waiting e = refl
    by_status Grouped e = refl
    by_status Zero e = absurd (cc)

no_groups : (gs : List (List ℕ)) → AreSome gs → ((i : ℕ) → listed i gs ≡ 0) → gs ≡ []
no_groups [] are none = refl
no_groups ([] ∷ gs) are none = absurd (let some = are.0 in omega (arith, some))
no_groups ((j ∷ g) ∷ gs) are none =
    let split = sum_by-cons (times j) (j ∷ g) gs in
    let first = sum_by-cons (λ (x : ℕ). one_when (x == j)) j g in
    let same : (j == j) ≡ true = grind (arith, nat_tests) in
    let one = ap one_when same in
    let zero = none j in
    absurd (omega (arith, split, first, one, zero))

no_zeros : (xs : List (Option PageState)) → ((j : ℕ) → is_shared_page (slice_index_or xs j None) ≡ false) → sum_by zeros_at xs ≡ 0
no_zeros [] h = refl
no_zeros (x ∷ xs) h =
    let split = sum_by-cons zeros_at x xs in
    let first = not_zeros x (h 0) in
    let rest = no_zeros xs (λ j. h (suc j)) in
    omega (arith, split, first, rest)

module _ (s : Sharing) (are : AreListed s) where
  abbrev last : Sharing
  last = pages_broken s 0 (length s.pages)

  groups_gone : last.groups ≡ []
  groups_gone =
      let left = (need-from s 0 (length s.pages) are).0 in
      no_groups last.groups left.some (λ i. left.once i ∙ not_grouped (state_at last i) (all_unshared s i))

  -- what the breaks of all pages take, each after the breaks before it, is the need
  pub unmerging_costs : cost_from s 0 (length s.pages) ≡ unmerge_need s
  unfolding unmerge_need members zero_pages
  unmerging_costs =
      let none = ap (λ (gs : List (List ℕ)). sum_by (λ (group : List ℕ). length group) gs - length gs) groups_gone in
      let zeros = no_zeros last.pages (all_unshared s) in
      let whole = (need-from s 0 (length s.pages) are).1 in
      omega (arith, none, zeros, whole)

  pub broken_share_nothing : SharesNothing (pages_broken s 0 (length s.pages))
  broken_share_nothing = record { groups = groups_gone; pages = all_unshared s }

  pub unmerged_shares_nothing : SharesNothing (unmerged s)
  unfolding unmerged
  unmerged_shares_nothing = record { groups = groups_gone; pages = all_unshared s }
