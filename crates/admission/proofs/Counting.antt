-- How many pages aren't pinned, counted.
use Rattle.std.proofs.Common.{◌≡◌, ◌∙◌, ℕ, zero, suc, ◌+◌, ◌-◌, ◌*◌, ◌≤◌, Bool, true, false, if◌then◌else◌, inl, inr, List, length, replicate, drop, refl, ap, arith}
use Rattle.std.proofs.lemmas.Bool.{cases_lt}
use Rattle.std.proofs.lemmas.List.{get_or_past, get_or-replicate, length-take}
use Rattle.host_types.specs.Bytes.{part_of}
use Rattle.host_types.specs.Pins.{is_pinned, unpinned_from, unpinned_in}
use Rattle.page_table.specs.State.{MemoryState, part}

abbrev pub one_unless : Bool → ℕ
one_unless b = if b then 0 else 1

-- no more than there are indices
unpinned_few : (pins : List Bool) (i n : ℕ) → unpinned_from pins i n ≤ length pins - i
unfolding unpinned_from
unpinned_few pins i zero = omega arith
unpinned_few pins i (suc n) = elim (cases_lt i (length pins)) [
  | inl there ↦
      let rest = unpinned_few pins (i + 1) n in
      let one = at_most_one (is_pinned pins i) in
      omega (arith, rest, one, there)
  | inr past ↦
      let rest = unpinned_few pins (i + 1) n in
      let none : one_unless (is_pinned pins i) ≡ 0 = ap one_unless (get_or_past pins i true past) in
      omega (arith, rest, none, past)
]
  where
    at_most_one : (b : Bool) → one_unless b ≤ 1
    at_most_one true = omega arith
    at_most_one false = omega arith

few_pins : (memory : MemoryState) (t : ℕ) → length (part memory t).pins ≤ 2048
unfolding part part_of
few_pins memory t = let h = length-take 2048 (drop (t * 2048) memory.sharing.pins) in omega (arith, h)

-- of a tenant's map no more than the tenant has indices
pub unpinned_small : (memory : MemoryState) (t i n : ℕ) → unpinned_from (part memory t).pins i n ≤ 2048
unpinned_small memory t i n =
    let few = unpinned_few (part memory t).pins i n in
    let all = few_pins memory t in
    omega (arith, few, all)

-- where no page is pinned
pub none_pinned : (i n : ℕ) → i + n ≤ 2048 → unpinned_from (replicate 2048 false) i n ≡ n
unfolding unpinned_from
none_pinned i zero few = refl
none_pinned i (suc n) few =
    let rest = none_pinned (i + 1) n (omega (arith, few)) in
    let free : one_unless (is_pinned (replicate 2048 false) i) ≡ 1 = ap one_unless (get_or-replicate 2048 i false true (omega (arith, few))) in
    omega (arith, rest, free)

pub unpinned_none : (writes : ℕ → Bool) (pages : ℕ → ℕ) (pins : List Bool) → 0 ≡ unpinned_in writes pages pins 0 0
unfolding unpinned_in
unpinned_none writes pages pins = refl

-- one map more
pub unpinned_next : (writes : ℕ → Bool) (pages : ℕ → ℕ) (pins : List Bool) (m sum here : ℕ) → sum ≡ unpinned_in writes pages pins 0 m → here ≡ (if writes m then unpinned_from pins (m * 256) (pages m) else 0)
    → sum + here ≡ unpinned_in writes pages pins 0 (m + 1)
unfolding unpinned_in
unpinned_next writes pages pins m sum here before is =
    let next : m + 1 ≡ suc m = omega arith in
    let page_index : m * 256 ≡ 0 + m * 256 = omega arith in
    let there = is ∙ ap (λ (k : ℕ). if writes m then unpinned_from pins k (pages m) else 0) page_index in
    rw next (omega (arith, before, there))

-- fewer maps have no more of them
pub unpinned_grows : (writes : ℕ → Bool) (pages : ℕ → ℕ) (pins : List Bool) (m n : ℕ) → m ≤ n → unpinned_in writes pages pins 0 m ≤ unpinned_in writes pages pins 0 n
unfolding unpinned_in
unpinned_grows writes pages pins m zero few = rw (the_zero few) (omega arith)
  where
    the_zero : m ≤ 0 → m ≡ 0
    the_zero few = omega (arith, few)
unpinned_grows writes pages pins m (suc n) few = elim (cases_lt m (suc n)) [
  | inl less ↦
      let rest = unpinned_grows writes pages pins m n (omega (arith, less)) in
      omega (arith, rest)
  | inr all ↦
      let same : m ≡ suc n = omega (arith, all, few) in
      rw same (omega arith)
]
