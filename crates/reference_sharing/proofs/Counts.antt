-- What is counted of groups, one after another.
use Rattle.std.proofs.Common.{◌≡◌, ◌∙◌, ℕ, zero, suc, ◌+◌, ◌<◌, ◌≤◌, ◌==◌, Bool, true, false, if◌then◌else◌, List, [], ◌∷◌, length, take, drop, sum_by, slice_index_or, Vec, refl, sym, ap, arith}
use mir.Val.{bool_byte}
use Rattle.std.specs.declared.alloc.Global.{Global}
use Rattle.std.proofs.lemmas.List.{length-map, take_all, take_more, get_or_default}
use Rattle.std.proofs.lemmas.List.Sums.{sum_by_more}
use Rattle.std.proofs.Math.ListN.{get_or-map}
use Rattle.host_types.specs.Counters.{times_among, seconds_following}
use Rattle.host_types.specs.Visits.{Contents, group_bytes}
use Rattle.reference_sharing.specs.View.{indices_in, bytes_of_each}

-- a number that is one where a test holds
pub one_of : (b : Bool) (n : ℕ) → n ≡ bool_byte b → n ≡ (if b then 1 else 0)
one_of true n e = e
one_of false n e = e

-- a number that is one at most
pub small_of : (b : Bool) (n : ℕ) → n ≡ bool_byte b → n ≤ 1
small_of true n e = omega (arith, e)
small_of false n e = omega (arith, e)

pub length-each : (contents : Contents) (groups : List (Vec ℕ Global)) → length (bytes_of_each contents groups) ≡ length groups
length-each contents groups = length-map (indices_in groups) (group_bytes contents) ∙ length-map groups (λ (group : Vec ℕ Global). group.items)

-- the bytes of the group at an index
pub bytes-at : (contents : Contents) (groups : List (Vec ℕ Global)) (i : ℕ) (group : Vec ℕ Global) → slice_index_or groups i group ≡ group
    → slice_index_or (bytes_of_each contents groups) i (group_bytes contents group.items) ≡ group_bytes contents group.items
bytes-at contents groups i group item =
    get_or-map (group_bytes contents) (indices_in groups) i group.items
    ∙ ap (group_bytes contents) (get_or-map (λ (other : Vec ℕ Global). other.items) groups i group ∙ ap (λ (other : Vec ℕ Global). other.items) item)

-- how many of the groups have bytes that meet a test, one group after another
pub record AreCounted (test : List ℕ → Bool) (contents : Contents) (groups : List (Vec ℕ Global)) (i count : ℕ) : Type 0 where
  pub counted : count ≡ sum_by (λ bytes. if test bytes then 1 else 0) (take i (bytes_of_each contents groups))
  pub few : count ≤ i

pub counted_group : (test : List ℕ → Bool) (contents : Contents) (groups : List (Vec ℕ Global)) (i count n : ℕ) (group : Vec ℕ Global) (paired_or_waiting : Bool) → i < length groups → slice_index_or groups i group ≡ group
    → AreCounted test contents groups i count → paired_or_waiting ≡ test (group_bytes contents group.items) → n ≡ bool_byte paired_or_waiting → AreCounted test contents groups (i + 1) (count + n)
counted_group test contents groups i count n group paired_or_waiting inside item e answered one =
    let f : List ℕ → ℕ = λ bytes. if test bytes then 1 else 0 in
    let long = length-each contents groups in
    let more = sum_by_more f (bytes_of_each contents groups) i (group_bytes contents group.items) (omega (arith, inside, long)) in
    let here = ap f (bytes-at contents groups i group item) in
    let this : n ≡ f (group_bytes contents group.items) = one_of paired_or_waiting n one ∙ ap (λ (b : Bool). if b then 1 else 0) answered in
    let small = small_of paired_or_waiting n one in
    record { counted = let e_counted = e.counted in omega (arith, e_counted, this, more, here); few = let e_few = e.few in omega (arith, e_few, small) }

-- after the last one all are counted
pub counted_each : (test : List ℕ → Bool) (contents : Contents) (groups : List (Vec ℕ Global)) (i count : ℕ) → length groups ≤ i → AreCounted test contents groups i count
    → count ≡ sum_by (λ bytes. if test bytes then 1 else 0) (bytes_of_each contents groups)
counted_each test contents groups i count past e =
    let long = length-each contents groups in
    e.counted ∙ ap (sum_by (λ bytes. if test bytes then 1 else 0)) (take_all i (bytes_of_each contents groups) (omega (arith, long, past)))

split-drop : (xs : List (List ℕ)) (i : ℕ) → i < length xs → drop i xs ≡ slice_index_or xs i [] ∷ drop (i + 1) xs
split-drop [] i h = absurd (omega arith)
split-drop (x ∷ xs) zero h = refl
split-drop (x ∷ xs) (suc i) h = let next : suc i + 1 ≡ suc (i + 1) = omega arith in rw next (split-drop xs i (omega arith))

-- one more content may be the second one
pub counted_second : (xs : List (List ℕ)) (i count n total : ℕ) → i < length xs
    → count + seconds_following (take i xs) (drop i xs) ≡ total
    → n ≡ (if times_among (slice_index_or xs i []) (take i xs) == 1 then 1 else 0)
    → count + n + seconds_following (take (i + 1) xs) (drop (i + 1) xs) ≡ total
unfolding seconds_following
counted_second xs i count n total inside e g =
    let split : seconds_following (take i xs) (drop i xs) ≡ seconds_following (take i xs) (slice_index_or xs i [] ∷ drop (i + 1) xs) = ap (seconds_following (take i xs)) (split-drop xs i inside) in
    let next = ap (λ l. seconds_following l (drop (i + 1) xs)) (take_more xs i [] inside) in
    omega (arith, split, next, e, g)

pub counted_all : (xs : List (List ℕ)) (i count total : ℕ) → length xs ≤ i → count + seconds_following (take i xs) (drop i xs) ≡ total → count ≡ total
unfolding seconds_following
counted_all xs i count total past e =
    let none = ap (seconds_following (take i xs)) (drop_past i xs past) in
    omega (arith, e, none)
  where
    drop_past : (i : ℕ) (xs : List (List ℕ)) → length xs ≤ i → drop i xs ≡ []
    drop_past zero [] h = refl
    drop_past zero (x ∷ xs) h = absurd (omega arith)
    drop_past (suc i) [] h = refl
    drop_past (suc i) (x ∷ xs) h = drop_past i xs (omega arith)

each-take : (contents : Contents) (i : ℕ) (groups : List (Vec ℕ Global)) → bytes_of_each contents (take i groups) ≡ take i (bytes_of_each contents groups)
each-take contents zero groups = refl
each-take contents (suc i) [] = refl
each-take contents (suc i) (group ∷ groups) = ap (λ l. group_bytes contents group.items ∷ l) (each-take contents i groups)

-- how often the bytes of a group occur before it
pub counted_before : (contents : Contents) (groups before : List (Vec ℕ Global)) (i n : ℕ) (group : Vec ℕ Global) (bytes : List ℕ) → i < length groups → slice_index_or groups i group ≡ group
    → bytes ≡ group_bytes contents group.items → before ≡ take i groups → n ≡ times_among bytes (bytes_of_each contents before)
    → n ≡ times_among (slice_index_or (bytes_of_each contents groups) i []) (take i (bytes_of_each contents groups))
counted_before contents groups before i n group bytes inside item e front answered =
    let long = length-each contents groups in
    let here : bytes ≡ slice_index_or (bytes_of_each contents groups) i [] =
    e ∙ sym (bytes-at contents groups i group item) ∙ sym (get_or_default (bytes_of_each contents groups) i [] (group_bytes contents group.items) (omega (arith, inside, long))) in
    let all : bytes_of_each contents before ≡ take i (bytes_of_each contents groups) = ap (bytes_of_each contents) front ∙ each-take contents i groups in
    answered ∙ ap (λ (x : List ℕ). times_among x (bytes_of_each contents before)) here ∙ ap (times_among (slice_index_or (bytes_of_each contents groups) i [])) all
