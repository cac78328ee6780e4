-- Sums over the numbers below a limit, and lists of such numbers.
use Rattle.std.proofs.Common.{◌≡◌, ℕ, zero, suc, ◌+◌, ◌<◌, ◌≤◌, ◌==◌, List, [], ◌∷◌, length, sum_by, slice_index_or, refl, sym, ap, arith, zero-add, suc-add}
use Rattle.std.proofs.lemmas.List.Sums.{sum_by-cons}
use Rattle.std.proofs.lemmas.Bool.Decides.{nat_tests}
use Rattle.host_types.proofs.Without.{one_when, times}
use Rattle.host_types.proofs.Unmerging.{listed}

-- what the numbers below a limit count together
abbrev pub sum_below : (ℕ → ℕ) → ℕ → ℕ
sum_below f zero = 0
sum_below f (suc n) = f 0 + sum_below (λ i. f (suc i)) n

pub sum_below-le : (f g : ℕ → ℕ) (n : ℕ) → ((i : ℕ) → i < n → f i ≤ g i) → sum_below f n ≤ sum_below g n
sum_below-le f g zero h = omega arith
sum_below-le f g (suc n) h =
    let first = h 0 (omega arith) in
    let rest = sum_below-le (λ i. f (suc i)) (λ i. g (suc i)) n (λ i below. h (suc i) (omega (arith, below))) in
    omega (arith, first, rest)

pub sum_below-same : (f g : ℕ → ℕ) (n : ℕ) → ((i : ℕ) → i < n → f i ≡ g i) → sum_below f n ≡ sum_below g n
sum_below-same f g zero h = refl
sum_below-same f g (suc n) h =
    let first = h 0 (omega arith) in
    let rest = sum_below-same (λ i. f (suc i)) (λ i. g (suc i)) n (λ i below. h (suc i) (omega (arith, below))) in
    omega (arith, first, rest)

pub sum_below-plus : (f g : ℕ → ℕ) (n : ℕ) → sum_below (λ i. f i + g i) n ≡ sum_below f n + sum_below g n
sum_below-plus f g zero = omega arith
sum_below-plus f g (suc n) = let rest = sum_below-plus (λ i. f (suc i)) (λ i. g (suc i)) n in omega (arith, rest)

pub sum_below-append : (f : ℕ → ℕ) (m n : ℕ) → sum_below f (m + n) ≡ sum_below f m + sum_below (λ i. f (m + i)) n
sum_below-append f zero n =
    let same = sum_below-same (λ i. f (0 + i)) f n (λ i below. ap f (zero-add i)) in
    let all = ap (sum_below f) (zero-add n) in
    omega (arith, same, all)
sum_below-append f (suc m) n =
    let rest = sum_below-append (λ i. f (suc i)) m n in
    let same = sum_below-same (λ i. f (suc m + i)) (λ i. f (suc (m + i))) n (λ i below. ap f (suc-add m i)) in
    let all = ap (sum_below f) (suc-add m n) in
    omega (arith, rest, same, all)

pub sum_below-none : (n : ℕ) → sum_below (λ i. 0) n ≡ 0
sum_below-none zero = refl
sum_below-none (suc n) = let rest = sum_below-none n in omega (arith, rest)

pub sum_below-list : {X : Type 0} (f : X → ℕ) (xs : List X) (d : X) → sum_by f xs ≡ sum_below (λ i. f (slice_index_or xs i d)) (length xs)
sum_below-list f [] d = refl
sum_below-list f (x ∷ xs) d = let split = sum_by-cons f x xs in let rest = sum_below-list f xs d in omega (arith, split, rest)

-- one number below the limit is counted once
pub sum_below-one : (j n : ℕ) → j < n → sum_below (λ i. one_when (j == i)) n ≡ 1
sum_below-one j zero h = absurd (omega arith)
sum_below-one zero (suc n) h =
    let none = sum_below-none n in
    let rest = sum_below-same (λ i. one_when (0 == suc i)) (λ i. 0) n (λ i below. grind (arith, nat_tests)) in
    let first : one_when (0 == 0) ≡ 1 = grind (arith, nat_tests) in
    omega (arith, rest, none, first)
sum_below-one (suc j) (suc n) h =
    let one = sum_below-one j n (omega arith) in
    let rest = sum_below-same (λ i. one_when (suc j == suc i)) (λ i. one_when (j == i)) n (λ i below. grind (arith, nat_tests)) in
    let first : one_when (suc j == 0) ≡ 0 = grind (arith, nat_tests) in
    omega (arith, rest, one, first)

pub times-cons : (i j : ℕ) (g : List ℕ) → times i (j ∷ g) ≡ one_when (j == i) + times i g
times-cons i j g = sum_by-cons (λ (x : ℕ). one_when (x == i)) j g

times-head : (j : ℕ) (g : List ℕ) → 1 ≤ times j (j ∷ g)
times-head j g = grind (arith, nat_tests, times-cons j j g)

-- how long a list of numbers below the limit is
pub length-times : (n : ℕ) (g : List ℕ) → ((i : ℕ) → 1 ≤ times i g → i < n) → length g ≡ sum_below (λ i. times i g) n
length-times n [] h = sym (sum_below-none n)
length-times n (j ∷ g) h =
    let one = sum_below-one j n (h j (times-head j g)) in
    let rest = length-times n g (λ i some. h i (let split = times-cons i j g in omega (arith, some, split))) in
    let both = sum_below-plus (λ i. one_when (j == i)) (λ i. times i g) n in
    let whole = sum_below-same (λ i. times i (j ∷ g)) (λ i. one_when (j == i) + times i g) n (λ i below. times-cons i j g) in
    omega (arith, one, rest, both, whole)

-- how long lists of numbers below the limit are together
pub lengths-listed : (n : ℕ) (gs : List (List ℕ)) → ((i : ℕ) → 1 ≤ listed i gs → i < n)
    → sum_by (λ (g : List ℕ). length g) gs ≡ sum_below (λ i. listed i gs) n
lengths-listed n [] h = sym (sum_below-none n)
lengths-listed n (g ∷ gs) h =
    let first = length-times n g (λ i some. h i (let split = sum_by-cons (times i) g gs in omega (arith, some, split))) in
    let rest = lengths-listed n gs (λ i some. h i (let split = sum_by-cons (times i) g gs in omega (arith, some, split))) in
    let both = sum_below-plus (λ i. times i g) (λ i. listed i gs) n in
    let whole = sum_below-same (λ i. listed i (g ∷ gs)) (λ i. times i g + listed i gs) n (λ i below. sum_by-cons (times i) g gs) in
    let split = sum_by-cons (λ (l : List ℕ). length l) g gs in
    omega (arith, first, rest, both, whole, split)
