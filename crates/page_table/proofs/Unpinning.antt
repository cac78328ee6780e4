-- What a memory says where the pins of one tenant changed.
use Rattle.page_table.proofs.Base.{drop-drop, sum_by-append, sum_by-take-drop, ◌≡◌, ◌≢◌, ◌∙◌, ◌⊎◌, ℕ, ◌+◌, ◌*◌, ◌<◌, ◌≤◌, Bool, true, false, List, length, replicate, slice_index_or, Option, refl, sym, ap, arith, length-replicate, length-map, nat_tests, ext_get_or, ordered, ◌-◌, ◌/◌, ◌%◌, if◌then◌else◌, [], ◌∷◌, ◌++◌, take, drop, slice_set, get_or-set_same, get_or-set_other, length-set, take-replicate, drop-replicate, get_or-replicate, take-append_seam, sum_by-cons, sum_by-set, sum_by-replicate, Shape, part_of, with_part, map_index_of, PinsFit, PageState, length-part_of, length-with_part, with_part-whole, Pass, Tenant, OtherTenantsUnchanged, with_pins, part, TableState, states_of, view_of, IsMemory, part-with_part_same, with_part-same, pinned_among, ArePinsOf}
use Rattle.page_table.proofs.Creating.{length-contents, filled_at, others-filled}
use Rattle.page_table.proofs.Waiters.{pinned_if}
use Rattle.page_table.proofs.Maps.{part_of-set_other, part-at, length-part, part_of-set_same}

-- a page that is pinned is one of its tenant
pub pinned-others : (pins : List Bool) (is_pinned : Bool) (t m n u : ℕ) → m < 8 → n < 256 → u ≢ t
    → part_of (pinned_if is_pinned (map_index_of t m * 256 + n) pins) (u * 2048) 2048 ≡ part_of pins (u * 2048) 2048
pinned-others pins is_pinned t m n u h1 h2 h3 = grind (arith, nat_tests, part_of-set_other pins t (m * 256 + n) u 2048 true)

-- what is no longer pinned of a tenant is so of no other one
pub others-unpinned : (pins : List Bool) (t m n u : ℕ) → m + n ≤ 2048 → t * 2048 + 2048 ≤ length pins → u ≢ t
    → part_of (with_part pins (t * 2048 + m) (replicate n false)) (u * 2048) 2048 ≡ part_of pins (u * 2048) 2048
others-unpinned pins t m n u few all ne = others-filled pins (t * 2048 + m) t m n u 2048 false refl few (omega (arith, few, all)) ne

-- a page that is pinned still stands outside, and was pinned
pub outside-pinned : (pins : List Bool) (at n i : ℕ) → at + n ≤ length pins → slice_index_or (with_part pins at (replicate n false)) i false ≡ true → ((i < at) ⊎ (at + n ≤ i)) × (slice_index_or pins i false ≡ true)
outside-pinned pins at n i inside pinned = grind (arith, nat_tests, at, filled_at, ordered)

-- and so of the tenant itself
pub tenant-unpinned : (pins : List Bool) (t m n : ℕ) → m + n ≤ 2048 → t * 2048 + 2048 ≤ length pins
    → part_of (with_part pins (t * 2048 + m) (replicate n false)) (t * 2048) 2048 ≡ with_part (part_of pins (t * 2048) 2048) m (replicate n false)
tenant-unpinned pins t m n few all = grind (arith, nat_tests, ext_get_or false, length-part, length-with_part, length-replicate, part-at, filled_at)

-- the memory after a tenant's pins were taken away
module _ (table : TableState) (shapes : List (Option Shape)) (tenants : List Tenant) (pass : Pass) (reserved : ℕ) (is : IsMemory table shapes tenants reserved) (fit : PinsFit (states_of table.entries) pass.pins)
    (t : ℕ) (inside : t < length tenants) where
  pub pins-inside : t * 2048 + 2048 ≤ length pass.pins
  pins-inside = grind (arith, nat_tests, length-map, length-contents)

  abbrev unpinned : List Bool
  unpinned = with_part pass.pins (t * 2048) (replicate 2048 false)

  abbrev left : Pass
  left = record pass { pins = unpinned }

  at : t * 2048 + 0 ≡ t * 2048
  at = omega arith

  pub part-unpinned : part (view_of table shapes tenants left) t ≡ with_pins (replicate 2048 false) (part (view_of table shapes tenants pass) t)
  unfolding view_of part
  part-unpinned = grind (arith, nat_tests, at, tenant-unpinned pass.pins t 0 2048, pins-inside, with_part-whole, length-replicate 2048 false, length-part_of pass.pins)

  pub others-kept : OtherTenantsUnchanged t (view_of table shapes tenants pass) (view_of table shapes tenants left)
  unfolding view_of part
  others-kept u ne =
      ap (λ (pins : List Bool). with_pins pins (part (view_of table shapes tenants pass) u))
      (ap (λ (i : ℕ). part_of (with_part pass.pins i (replicate 2048 false)) (u * 2048) 2048) (sym at)
      ∙ others-unpinned pass.pins t 0 2048 u (omega arith) pins-inside ne)

-- fewer pins fit, too
pub fit-fewer : (pages : List (Option PageState)) (pins : List Bool) (at n : ℕ) → at + n ≤ length pins → PinsFit pages pins → PinsFit pages (with_part pins at (replicate n false))
fit-fewer pages pins at n inside fit = grind (arith, nat_tests, at, length-with_part, length-replicate, outside-pinned)

-- ---- How many pages are pinned, where one is pinned more, and where those of a map aren't any more

abbrev one_if : Bool → ℕ
one_if b = if b then 1 else 0

-- no more pages are pinned than there are
pub few-pinned : (pins : List Bool) → pinned_among pins ≤ length pins
few-pinned [] = omega arith
few-pinned (b ∷ pins) = grind (arith, few-pinned pins, sum_by-cons one_if b pins)

pub none-pinned : (n : ℕ) → pinned_among (replicate n false) ≡ 0
none-pinned n = sum_by-replicate one_if n false ∙ omega arith

-- where none is pinned, the list says so of each index
pub all-false : (pins : List Bool) → pinned_among pins ≡ 0 → pins ≡ replicate (length pins) false
all-false [] none = refl
all-false (true ∷ pins) none = absurd (let split = sum_by-cons one_if true pins in omega (arith, none, split))
all-false (false ∷ pins) none = let split = sum_by-cons one_if false pins in ap (λ (l : List Bool). false ∷ l) (all-false pins (omega (arith, none, split)))

-- what is filled after a filled part is a longer part
filled-at_or_before : (pins : List Bool) (at n m : ℕ) → at + n + m ≤ length pins → with_part (with_part pins at (replicate n false)) (at + n) (replicate m false) ≡ with_part pins at (replicate (n + m) false)
filled-at_or_before pins at n m h1 =
    grind (arith, nat_tests, length-replicate n false, length-replicate m false, length-replicate (n + m) false, length-with_part pins at (replicate n false), length-with_part (with_part pins at (replicate n false)) (at + n) (replicate m false), length-with_part pins at (replicate (n + m) false), ext_get_or false, filled_at (with_part pins at (replicate n false)) (at + n) m, filled_at pins at n, filled_at pins at (n + m))

new-part : (maps k : ℕ) → k < maps → pinned_among (part_of (replicate (maps * 256) false) (k * 256) 256) ≡ 0
unfolding part_of
new-part maps k less = rw (drop-replicate (k * 256) (maps * 256) false, take-replicate 256 (maps * 256 - k * 256) false (omega (arith, less))) (none-pinned 256)

-- the memory without a map
pub pins_new : (maps : ℕ) → maps ≤ 128 → ArePinsOf (replicate (maps * 256) false) (replicate maps 0) 0
pins_new maps few =
    let long = length-replicate (maps * 256) false in
    record {
      maps = grind (arith, length-replicate);
      each = grind (arith, nat_tests, length-replicate, get_or-replicate, new-part maps);
      all = sym (none-pinned (maps * 256));
      few = omega (arith, long, few);
    }

-- the pins of one map changed, and its number and the total with them
pins-changed : (pins now : List Bool) (numbers : List ℕ) (total more k n : ℕ) → ArePinsOf pins numbers total → k < length numbers → length now ≡ length pins
    → ((j : ℕ) → j ≢ k → part_of now (j * 256) 256 ≡ part_of pins (j * 256) 256) → n ≡ pinned_among (part_of now (k * 256) 256) → more ≡ pinned_among now → ArePinsOf now (slice_set numbers k n) more
pins-changed pins now numbers total more k n are inside long others here all =
    record {
      maps = grind (arith, length-set, are.maps);
      each = grind (arith, nat_tests, length-set, get_or-set_same, get_or-set_other);
      all = all;
      few = omega (arith, long, are.few);
    }

-- what is pinned before a part, in it, and after it
pinned-split : (pins : List Bool) (at n : ℕ) → at + n ≤ length pins → pinned_among pins ≡ pinned_among (take at pins) + (pinned_among (part_of pins at n) + pinned_among (drop (at + n) pins))
unfolding part_of
pinned-split pins at n inside =
    let outer = sum_by-take-drop one_if pins at in
    let inner = sum_by-take-drop one_if (drop at pins) n in
    let later = ap pinned_among (drop-drop n at pins) in
    omega (arith, outer, inner, later)

-- what is left of them without a part
pinned-without : (pins : List Bool) (at n : ℕ) → at + n ≤ length pins → pinned_among (with_part pins at (replicate n false)) + pinned_among (part_of pins at n) ≡ pinned_among pins
unfolding with_part
pinned-without pins at n inside =
    let split = pinned-split pins at n inside in
    let later = drop (at + length (replicate n false)) pins in
    let first : pinned_among (with_part pins at (replicate n false)) ≡ pinned_among (take at pins ++ replicate n false) + pinned_among later = sum_by-append one_if (take at pins ++ replicate n false) later in
    let second = sum_by-append one_if (take at pins) (replicate n false) in
    let none = none-pinned n in
    let long = ap (λ (k : ℕ). pinned_among (drop (at + k) pins)) (length-replicate n false) in
    omega (arith, split, first, second, none, long)

-- where none is pinned, none has to be released
pub none-released : (pins : List Bool) (at n : ℕ) → pinned_among pins ≡ 0 → at + n ≤ length pins → with_part pins at (replicate n false) ≡ pins
none-released pins at n none inside =
    let long = length-part_of pins at n inside in
    let split = pinned-split pins at n inside in
    let own = all-false (part_of pins at n) (omega (arith, split, none)) in
    let free : part_of pins at n ≡ replicate n false = own ∙ ap (λ (k : ℕ). replicate k false) long in
    ap (with_part pins at) (sym free) ∙ with_part-same pins at n inside

module _ (pins : List Bool) (numbers : List ℕ) (total : ℕ) (are : ArePinsOf pins numbers total) where
  -- one page more is pinned
  module _ (k n : ℕ) (small : n < 256) (inside : k * 256 + n < length pins) (free : slice_index_or pins (k * 256 + n) false ≡ false) where
    here : k < length numbers
    here = omega (arith, are.maps, inside, small)

    abbrev owned : List Bool
    owned = part_of pins (k * 256) 256

    long : length owned ≡ 256
    long = let h = here in length-part_of pins (k * 256) 256 (omega (arith, are.maps, h))

    was : slice_index_or owned n false ≡ false
    was = grind (arith, nat_tests, part-at pins (k * 256) 256 n false)

    all-more : total + 1 ≡ pinned_among (slice_set pins (k * 256 + n) true)
    all-more = grind (arith, are.all, sum_by-set, free, inside)

    pub pins-more : ArePinsOf (slice_set pins (k * 256 + n) true) (slice_set numbers k (slice_index_or numbers k 0 + 1)) (total + 1)
    pins-more = grind (arith, nat_tests, pins-changed, here, length-set, part_of-set_other, long, sum_by-set, was, part_of-set_same, all-more)

  -- the same by the page's index
  pub pins-more-at : (page_index now : ℕ) → page_index < length pins → slice_index_or pins page_index false ≡ false → now ≡ slice_index_or numbers (page_index / 256) 0 → ArePinsOf (slice_set pins page_index true) (slice_set numbers (page_index / 256) (now + 1)) (total + 1)
  pins-more-at page_index now inside free answer =
      let at : page_index ≡ page_index / 256 * 256 + page_index % 256 = omega arith in
      grind (arith, pins-more (page_index / 256) (page_index % 256), ap (λ (i : ℕ). slice_index_or pins i false) at, ap (λ (i : ℕ). slice_set pins i true) at)

  -- no page of a map is pinned any more
  module _ (k : ℕ) (inside : k < length numbers) where
    whole : k * 256 + 256 ≤ length pins
    whole = omega (arith, are.maps, inside)

    -- where none was, nothing changes
    pub pins-none : slice_index_or numbers k 0 ≡ 0 → with_part pins (k * 256) (replicate 256 false) ≡ pins
    pins-none none = grind (arith, whole, length-part_of pins (k * 256) 256, all-false (part_of pins (k * 256) 256), are.each k inside, with_part-same pins (k * 256) 256)

    others : pinned_among (with_part pins (k * 256) (replicate 256 false)) + slice_index_or numbers k 0 ≡ total
    others =
        let without = pinned-without pins (k * 256) 256 whole in
        omega (arith, without, are.each k inside, are.all)

    -- the total has them
    pub pins-some : slice_index_or numbers k 0 ≤ total
    pins-some = let l = others in omega (arith, l)

    pub pins-cleared : ArePinsOf (with_part pins (k * 256) (replicate 256 false)) (slice_set numbers k 0) (total - slice_index_or numbers k 0)
    pins-cleared =
        pins-changed pins (with_part pins (k * 256) (replicate 256 false)) numbers total (total - slice_index_or numbers k 0) k 0 are inside (length-with_part pins (k * 256) (replicate 256 false) whole)
        (λ j ne. others-filled pins (k * 256) k 0 256 j 256 false (omega arith) (omega arith) whole ne)
        (sym (none-pinned 256) ∙ sym (ap pinned_among (part-with_part_same pins (k * 256) (replicate 256 false) 256 refl whole)))
        (let l = others in omega (arith, l))

-- another map more has no pinned pages
pub filled-more : (pins : List Bool) (first n : ℕ) → first * 256 + n * 256 + 256 ≤ length pins
    → with_part (with_part pins (first * 256) (replicate (n * 256) false)) ((first + n) * 256) (replicate 256 false) ≡ with_part pins (first * 256) (replicate ((n + 1) * 256) false)
filled-more pins first n h1 = grind (arith, nat_tests, filled-at_or_before pins (first * 256) (n * 256) 256)

-- a list that was written back whole
pub written-back : (new old : List Bool) (n : ℕ) → length new ≡ length old → n ≡ length old → take n (new ++ drop (length new) old) ≡ new
written-back new old n long e = grind (arith, nat_tests, take-append_seam)
