-- The pages that are there are those of the maps.
use Rattle.std.proofs.Common.{◌≡◌, ℕ, zero, suc, ◌+◌, ◌*◌, ◌/◌, ◌≤◌, nat_lt, [], ◌∷◌, sum_by, Option, None, ap, arith}
use Rattle.std.proofs.lemmas.List.Sums.{sum_by-cons}
use Rattle.std.proofs.lemmas.Bool.Decides.{nat_tests}
use Rattle.host_types.specs.Memory.{FlatMap, FlatMaps, map_at}
use Rattle.host_types.proofs.Without.{one_when}
use Rattle.enough_frames.proofs.Counting.{sum_below, sum_below-le, sum_below-same, sum_below-append, sum_below-none}

-- how many of the first pages of a map have bytes of it
below-limit : (limit n : ℕ) → sum_below (λ j. one_when (nat_lt j limit)) n ≤ limit
below-limit limit zero = omega arith
below-limit zero (suc n) =
    let rest = below-limit zero n in
    let same = sum_below-same (λ j. one_when (nat_lt (suc j) 0)) (λ j. one_when (nat_lt j 0)) n (λ j below. grind (arith, nat_tests)) in
    let first : one_when (nat_lt 0 0) ≡ 0 = grind (arith, nat_tests) in
    omega (arith, rest, same, first)
below-limit (suc limit) (suc n) =
    let rest = below-limit limit n in
    let same = sum_below-same (λ j. one_when (nat_lt (suc j) (suc limit))) (λ j. one_when (nat_lt j limit)) n (λ j below. grind (arith, nat_tests)) in
    let first : one_when (nat_lt 0 (suc limit)) ≡ 1 = grind (arith, nat_tests) in
    omega (arith, rest, same, first)

-- pages of 4096 bytes, of which the last one may be partly used
pub pages-of_bytes : (bytes n : ℕ) → sum_below (λ j. one_when (nat_lt (j * 4096) bytes)) n ≤ (bytes + 4095) / 4096
pages-of_bytes bytes n =
    let most = below-limit ((bytes + 4095) / 4096) n in
    let each = sum_below-le (λ j. one_when (nat_lt (j * 4096) bytes)) (λ j. one_when (nat_lt j ((bytes + 4095) / 4096))) n (λ j below. grind (arith, nat_tests)) in
    omega (arith, most, each)

-- numbers in parts of one width, one part after the other
pub parts : (width : ℕ) (f g : ℕ → ℕ) (n : ℕ) → ((k : ℕ) → sum_below (λ j. f (k * width + j)) width ≤ g k) → sum_below f (n * width) ≤ sum_below g n
parts width f g zero h = let zero : 0 * width ≡ 0 = omega arith in let none = ap (sum_below f) zero in omega (arith, none)
parts width f g (suc n) h =
    let first = h 0 in
    let same = sum_below-same (λ j. f (0 * width + j)) f width (λ j below. let same : 0 * width + j ≡ j = omega arith in ap f same) in
    let split = sum_below-append f width (n * width) in
    let more : suc n * width ≡ width + n * width = grind arith in
    let whole = ap (sum_below f) more in
    let rest = parts width (λ i. f (width + i)) (λ k. g (suc k)) n (λ k.
    let more = h (suc k) in
    let shifted = sum_below-same (λ j. f (suc k * width + j)) (λ j. f (width + (k * width + j))) width (λ j below. let same : suc k * width + j ≡ width + (k * width + j) = grind arith in ap f same) in
    omega (arith, more, shifted)) in
    omega (arith, first, same, split, whole, rest)

-- what a map counts by its number
pub counts-maps : (f : Option FlatMap → ℕ) (maps : FlatMaps) (n : ℕ) → f None ≡ 0 → sum_below (λ k. f (map_at maps k)) n ≤ sum_by f maps
counts-maps f [] n none =
    let same = sum_below-same (λ k. f (map_at [] k)) (λ k. 0) n (λ k below. none) in
    let zeros = sum_below-none n in
    omega (arith, same, zeros)
counts-maps f (x ∷ maps) zero none = omega arith
counts-maps f (x ∷ maps) (suc n) none = let rest = counts-maps f maps n none in let split = sum_by-cons f x maps in omega (arith, rest, split)
