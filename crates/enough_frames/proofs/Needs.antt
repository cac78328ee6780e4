-- What a run may need is no more than the pages of its tenant's maps.
use Rattle.std.proofs.Common.{◌≡◌, ℕ, zero, suc, ◌+◌, ◌*◌, ◌≤◌, Bool, true, false, if◌then◌else◌, List, refl, ap, arith}
use Rattle.host_types.specs.Memory.{map_at}
use Rattle.host_types.specs.Pins.{is_pinned, unpinned_from, unpinned_in}
use Rattle.host_types.specs.Tenant.{TenantPart}
use Rattle.page_table.specs.Changes.{pages_of_map}
use Rattle.enough_frames.specs.Frames.{map_pages, pages_in}
use Rattle.enough_frames.proofs.Counting.{sum_below}
use Rattle.enough_frames.proofs.Pages.{counts-maps}

unpinned-most : (pins : List Bool) (i n : ℕ) → unpinned_from pins i n ≤ n
unfolding unpinned_from
unpinned-most pins i zero = omega arith
unpinned-most pins i (suc n) = let rest = unpinned-most pins (i + 1) n in by_test (is_pinned pins i) refl rest
  where
    by_test : (b : Bool) → is_pinned pins i ≡ b → unpinned_from pins (i + 1) n ≤ n → (if is_pinned pins i then 0 else 1) + unpinned_from pins (i + 1) n ≤ suc n
    by_test true e rest = let one = ap {B = ℕ} (λ (c : Bool). if c then 0 else 1) e in omega (arith, one, rest)
    by_test false e rest = let one = ap {B = ℕ} (λ (c : Bool). if c then 0 else 1) e in omega (arith, one, rest)

sum_below-last : (f : ℕ → ℕ) (n : ℕ) → sum_below f (suc n) ≡ sum_below f n + f n
sum_below-last f zero = omega arith
sum_below-last f (suc n) = let rest = sum_below-last (λ i. f (suc i)) n in omega (arith, rest)

unpinned-pages : (writes : ℕ → Bool) (pages : ℕ → ℕ) (pins : List Bool) (i n : ℕ) → unpinned_in writes pages pins i n ≤ sum_below pages n
unfolding unpinned_in
unpinned-pages writes pages pins i zero = omega arith
unpinned-pages writes pages pins i (suc n) =
    let rest = unpinned-pages writes pages pins i n in
    let last = sum_below-last pages n in
    let here = unpinned-most pins (i + n * 256) (pages n) in
    by_test (writes n) refl rest last here
  where
    by_test : (b : Bool) → writes n ≡ b → unpinned_in writes pages pins i n ≤ sum_below pages n → sum_below pages (suc n) ≡ sum_below pages n + pages n
        → unpinned_from pins (i + n * 256) (pages n) ≤ pages n
        → unpinned_in writes pages pins i n + (if writes n then unpinned_from pins (i + n * 256) (pages n) else 0) ≤ sum_below pages (suc n)
    by_test true e rest last here = let one = ap (λ (c : Bool). if c then unpinned_from pins (i + n * 256) (pages n) else 0) e in omega (arith, one, rest, last, here)
    by_test false e rest last here = let one = ap (λ (c : Bool). if c then unpinned_from pins (i + n * 256) (pages n) else 0) e in omega (arith, one, rest, last, here)

-- what stores may take out of a tenant's maps
pub unpinned-in_maps : (writes : ℕ → Bool) (owned : TenantPart) → unpinned_in writes (pages_of_map owned) owned.pins 0 8 ≤ pages_in owned.maps
unpinned-in_maps writes owned =
    let most = unpinned-pages writes (pages_of_map owned) owned.pins 0 8 in
    let count = counts-maps map_pages owned.maps 8 refl in
    let same : sum_below (pages_of_map owned) 8 ≡ sum_below (λ k. map_pages (map_at owned.maps k)) 8 = refl in
    omega (arith, most, count, same)
