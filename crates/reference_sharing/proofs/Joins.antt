-- The first group that passes a test, and an index in its order.
use Rattle.std.proofs.Common.{◌≡◌, ◌∙◌, ℕ, zero, suc, ◌+◌, ◌<◌, ◌≤◌, nat_lt, Bool, true, false, ◌||◌, if◌then◌else◌, List, [], ◌∷◌, ◌++◌, take, drop, length, insert, slice_index_or, slice_set, refl, ap, arith}
use Rattle.std.specs.List.{list_any}
use Rattle.std.proofs.lemmas.Bool.Decides.{nat_tests}
use Rattle.host_types.specs.Sharing.{joined_by}
use Rattle.host_types.specs.Visits.{join_first}

or_left : (a b : Bool) → (a || b) ≡ false → a ≡ false
or_left true b e = e
or_left false b e = refl

or_right : (a b : Bool) → (a || b) ≡ false → b ≡ false
or_right true b e = absurd (cc)
or_right false b e = e

-- the group at an index is the first one that passes a test: it is joined
pub first_joined : (test : List ℕ → Bool) (i : ℕ) (groups : List (List ℕ)) (k : ℕ) (d : List ℕ) → k < length groups → test (slice_index_or groups k d) ≡ true → list_any test (take k groups) ≡ false
    → join_first test i groups ≡ slice_set groups k (joined_by i (slice_index_or groups k d))
unfolding join_first
first_joined test i [] k d h passes before = absurd (omega (arith, h))
first_joined test i (group ∷ groups) zero d h passes before = ap (λ (b : Bool). if b then joined_by i group ∷ groups else group ∷ join_first test i groups) passes
first_joined test i (group ∷ groups) (suc k) d h passes before =
    ap (λ (b : Bool). if b then joined_by i group ∷ groups else group ∷ join_first test i groups) (or_left (test group) (list_any test (take k groups)) before)
    ∙ ap (λ l. group ∷ l) (first_joined test i groups k d (omega (arith, h)) passes (or_right (test group) (list_any test (take k groups)) before))

pub is-less : (n m : ℕ) → n < m → nat_lt n m ≡ true
is-less n m h = grind (arith, nat_tests)

pub is-not-less : (n m : ℕ) → m ≤ n → nat_lt n m ≡ false
is-not-less n m h = grind (arith, nat_tests)

-- an index that comes before the one at an index is put there
pub joined_here : (i : ℕ) (xs : List ℕ) (k : ℕ) → k < length xs → nat_lt i (slice_index_or xs k 0) ≡ true → take k xs ++ joined_by i (drop k xs) ≡ insert xs k i
unfolding joined_by
joined_here i [] k h e = absurd (omega (arith, h))
joined_here i (x ∷ xs) zero h e = ap (λ (b : Bool). if b then i ∷ x ∷ xs else x ∷ joined_by i xs) e
joined_here i (x ∷ xs) (suc k) h e = ap (λ l. x ∷ l) (joined_here i xs k (omega (arith, h)) e)

pub joined_later : (i : ℕ) (xs : List ℕ) (k : ℕ) → k < length xs → nat_lt i (slice_index_or xs k 0) ≡ false
    → take k xs ++ joined_by i (drop k xs) ≡ take (k + 1) xs ++ joined_by i (drop (k + 1) xs)
unfolding joined_by
joined_later i [] k h e = absurd (omega (arith, h))
joined_later i (x ∷ xs) zero h e = ap (λ (b : Bool). if b then i ∷ x ∷ xs else x ∷ joined_by i xs) e
joined_later i (x ∷ xs) (suc k) h e =
    let next : suc k + 1 ≡ suc (k + 1) = omega arith in
    rw next (ap (λ l. x ∷ l) (joined_later i xs k (omega (arith, h)) e))

pub joined_last : (i : ℕ) (xs : List ℕ) (k : ℕ) → length xs ≤ k → take k xs ++ joined_by i (drop k xs) ≡ insert xs (length xs) i
unfolding joined_by
joined_last i [] zero h = refl
joined_last i [] (suc k) h = refl
joined_last i (x ∷ xs) zero h = absurd (omega (arith, h))
joined_last i (x ∷ xs) (suc k) h = ap (λ l. x ∷ l) (joined_last i xs k (omega (arith, h)))

-- where no group passes, none is joined
pub none_joined : (test : List ℕ → Bool) (i : ℕ) (groups : List (List ℕ)) → list_any test groups ≡ false → join_first test i groups ≡ groups
unfolding join_first
none_joined test i [] e = refl
none_joined test i (group ∷ groups) e =
    ap (λ (b : Bool). if b then joined_by i group ∷ groups else group ∷ join_first test i groups) (or_left (test group) (list_any test groups) e)
    ∙ ap (λ l. group ∷ l) (none_joined test i groups (or_right (test group) (list_any test groups) e))

-- an element that is put where it stands
pub set_again : {X : Type 0} (xs : List X) (i : ℕ) (d : X) → slice_set xs i (slice_index_or xs i d) ≡ xs
set_again [] zero d = refl
set_again [] (suc i) d = refl
set_again (x ∷ xs) zero d = refl
set_again (x ∷ xs) (suc i) d = ap (λ l. x ∷ l) (set_again xs i d)
