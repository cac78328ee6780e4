-- Slots that give the next, where some are written.
use Rattle.std.proofs.Common.{◌≡◌, ◌≢◌, ℕ, zero, suc, ◌+◌, ◌-◌, ◌<◌, ◌≤◌, ◌==◌, Bool, true, false, if◌then◌else◌, List, [], ◌∷◌, ◌++◌, length, slice_index_or, slice_set, nat_lt, find, None, Some, All, refl, sym, ap, subst, ◌∙◌, arith}
use Rattle.std.specs.List.{remove}
use borrow.Author.Tests.{lt-ltb}
use Rattle.std.proofs.lemmas.List.{get_or-set_same, get_or-set_other}
use Rattle.std.proofs.lemmas.List.Sums.{sum_by-append, sum_by-cons}
use Rattle.std.proofs.lemmas.List.Elements.{All-head, All-tail}
use Rattle.tree_shape.proofs.Times.{here, here-same}
use Rattle.stable_tree.specs.Slots.{walk, end, frames_at, occurrences_of}

pub here-few : (i at : ℕ) → here i at ≤ 1
here-few i at = by_test (i == at)
  where
    by_test : (b : Bool) → (if b then 1 else 0) ≤ 1
    by_test true = omega arith
    by_test false = omega arith

pub occurrences_of-cons : (i x : ℕ) (xs : List ℕ) → occurrences_of i (x ∷ xs) ≡ here i x + occurrences_of i xs
occurrences_of-cons i x xs = sum_by-cons (here i) x xs

pub occurrences_of-append : (i : ℕ) (xs ys : List ℕ) → occurrences_of i (xs ++ ys) ≡ occurrences_of i xs + occurrences_of i ys
occurrences_of-append i xs ys = sum_by-append (here i) xs ys

-- a slot that stands nowhere in a list is none of it
pub occurrences_of-apart : (p i : ℕ) (xs : List ℕ) → occurrences_of p xs ≡ 0 → 1 ≤ occurrences_of i xs → i ≢ p
occurrences_of-apart p i xs none some same = let e : occurrences_of p xs ≡ occurrences_of i xs = ap (λ (n : ℕ). occurrences_of n xs) (sym same) in omega (arith, none, some, e)

-- the same is reported of each slot of a list
abbrev pub Agree : List ℕ → List ℕ → List ℕ → Type 0
Agree slots old new = (i : ℕ) → 1 ≤ occurrences_of i slots → slice_index_or new i 0 ≡ slice_index_or old i 0

pub agree-head : (x : ℕ) (xs old new : List ℕ) → Agree (x ∷ xs) old new → slice_index_or new x 0 ≡ slice_index_or old x 0
agree-head x xs old new agree = agree x (let all = occurrences_of-cons x x xs in let same = here-same x in omega (arith, all, same))

pub agree-tail : (x : ℕ) (xs old new : List ℕ) → Agree (x ∷ xs) old new → Agree xs old new
agree-tail x xs old new agree = λ i some. agree i (let all = occurrences_of-cons i x xs in omega (arith, all, some))

-- where none of the slots is written
pub agree-set : (slots old : List ℕ) (p v : ℕ) → occurrences_of p slots ≡ 0 → Agree slots old (slice_set old p v)
agree-set slots old p v none = λ i some. get_or-set_other old p i v 0 (occurrences_of-apart p i slots none some)

pub walk-agree : (n : ℕ) (old new : List ℕ) (at : ℕ) → Agree (walk n old at) old new → walk n new at ≡ walk n old at
unfolding walk
walk-agree zero old new at agree = refl
walk-agree (suc n) old new at agree =
    let e = agree-head at (walk n old (slice_index_or old at 0)) old new agree in
    rw e (ap (λ xs. at ∷ xs) (walk-agree n old new (slice_index_or old at 0) (agree-tail at (walk n old (slice_index_or old at 0)) old new agree)))

pub frames-agree : (slots old new : List ℕ) → Agree slots old new → frames_at new slots ≡ frames_at old slots
frames-agree [] old new agree = refl
frames-agree (x ∷ xs) old new agree =
    let e = agree-head x xs old new agree in
    rw e (ap (λ l. slice_index_or old x 0 ∷ l) (frames-agree xs old new (agree-tail x xs old new agree)))

pub walk-more : (n : ℕ) (nexts : List ℕ) (at : ℕ) → walk (suc n) nexts at ≡ at ∷ walk n nexts (slice_index_or nexts at 0)
unfolding walk
walk-more n nexts at = refl

pub occurrences_of-walk : (n i : ℕ) (nexts : List ℕ) (at : ℕ) → occurrences_of i (walk (suc n) nexts at) ≡ here i at + occurrences_of i (walk n nexts (slice_index_or nexts at 0))
unfolding walk
occurrences_of-walk n i nexts at = occurrences_of-cons i at (walk n nexts (slice_index_or nexts at 0))

-- a walk begins where it begins
pub occurrences_of-first : (n : ℕ) (nexts : List ℕ) (at : ℕ) → 1 ≤ n → 1 ≤ occurrences_of at (walk n nexts at)
occurrences_of-first zero nexts at some = absurd (omega (arith, some))
occurrences_of-first (suc n) nexts at some = let all = occurrences_of-walk n at nexts at in let same = here-same at in omega (arith, all, same)

pub length-walk : (n : ℕ) (nexts : List ℕ) (at : ℕ) → length (walk n nexts at) ≡ n
unfolding walk
length-walk zero nexts at = refl
length-walk (suc n) nexts at = ap suc (length-walk n nexts (slice_index_or nexts at 0))

pub end-none : (nexts : List ℕ) (at : ℕ) → end 0 nexts at ≡ at
unfolding end
end-none nexts at = refl

pub end-more : (n : ℕ) (nexts : List ℕ) (at : ℕ) → end (suc n) nexts at ≡ end n nexts (slice_index_or nexts at 0)
unfolding end
end-more n nexts at = refl

pub end-there : (n : ℕ) (nexts : List ℕ) (at : ℕ) → 1 ≤ occurrences_of (end n nexts at) (walk (suc n) nexts at)
unfolding end
end-there zero nexts at = let all = occurrences_of-walk 0 at nexts at in let same = here-same at in omega (arith, all, same)
end-there (suc n) nexts at =
    let rest = end-there n nexts (slice_index_or nexts at 0) in
    let all = occurrences_of-walk (suc n) (end n nexts (slice_index_or nexts at 0)) nexts at in
    omega (arith, rest, all)

abbrev pub Once : List ℕ → Type 0
Once slots = (i : ℕ) → occurrences_of i slots ≤ 1

once-next : (n : ℕ) (nexts : List ℕ) (at : ℕ) → Once (walk (suc n) nexts at) → Once (walk n nexts (slice_index_or nexts at 0))
once-next n nexts at once i = let all = occurrences_of-walk n i nexts at in let most = once i in omega (arith, all, most)

-- what stands further on isn't the first slot
once-later : (n : ℕ) (nexts : List ℕ) (at p : ℕ) → Once (walk (suc n) nexts at) → 1 ≤ occurrences_of p (walk n nexts (slice_index_or nexts at 0)) → at ≢ p
once-later n nexts at p once some same =
    let all = occurrences_of-walk n at nexts at in
    let most = once at in
    let one = here-same at in
    let e : occurrences_of at (walk n nexts (slice_index_or nexts at 0)) ≡ occurrences_of p (walk n nexts (slice_index_or nexts at 0)) = ap (λ (i : ℕ). occurrences_of i (walk n nexts (slice_index_or nexts at 0))) same in
    omega (arith, all, most, one, e, some)

once-none : (n : ℕ) (nexts : List ℕ) (at : ℕ) → Once (walk (suc n) nexts at) → occurrences_of at (walk n nexts (slice_index_or nexts at 0)) ≡ 0
once-none n nexts at once = let all = occurrences_of-walk n at nexts at in let most = once at in let one = here-same at in omega (arith, all, most, one)

-- one slot more after the last
pub walk-lengthened : (n : ℕ) (nexts : List ℕ) (at new : ℕ) → Once (walk (suc n) nexts at) → end n nexts at < length nexts
    → walk (suc (suc n)) (slice_set nexts (end n nexts at) new) at ≡ walk (suc n) nexts at ++ new ∷ []
unfolding walk end
walk-lengthened zero nexts at new once inside = ap (λ (p : ℕ). at ∷ p ∷ []) (get_or-set_same nexts at new 0 inside)
walk-lengthened (suc n) nexts at new once inside =
    let next = slice_index_or nexts at 0 in
    let apart : at ≢ end n nexts next = once-later (suc n) nexts at (end n nexts next) once (end-there n nexts next) in
    let e = get_or-set_other nexts (end n nexts next) at new 0 apart in
    rw e (ap (λ xs. at ∷ xs) (walk-lengthened n nexts next new (once-next (suc n) nexts at once) inside))

-- which slot is the j-th
pub walk-there : (n j : ℕ) (nexts : List ℕ) (at : ℕ) → j < n → 1 ≤ occurrences_of (slice_index_or (walk n nexts at) j 0) (walk n nexts at)
unfolding walk
walk-there zero j nexts at less = absurd (omega (arith, less))
walk-there (suc n) zero nexts at less = occurrences_of-first (suc n) nexts at (omega arith)
walk-there (suc n) (suc j) nexts at less =
    let rest = walk-there n j nexts (slice_index_or nexts at 0) (omega (arith, less)) in
    let all = occurrences_of-walk n (slice_index_or (walk n nexts (slice_index_or nexts at 0)) j 0) nexts at in
    omega (arith, rest, all)

-- the next slot of one that isn't the last stands after it
pub walk-next : (n j : ℕ) (nexts : List ℕ) (at : ℕ) → suc j < n → slice_index_or (walk n nexts at) (suc j) 0 ≡ slice_index_or nexts (slice_index_or (walk n nexts at) j 0) 0
unfolding walk
walk-next zero j nexts at less = absurd (omega (arith, less))
walk-next (suc zero) j nexts at less = absurd (omega (arith, less))
walk-next (suc (suc n)) zero nexts at less = refl
walk-next (suc (suc n)) (suc j) nexts at less = walk-next (suc n) j nexts (slice_index_or nexts at 0) (omega (arith, less))

-- the j-th slot takes over what stands at the next one, which goes
pub record IsShorter (n j : ℕ) (nexts frames : List ℕ) (at : ℕ) (newer : List ℕ) (given : List ℕ) (gone : ℕ) : Type 0 where
  pub chain : frames_at given (walk n newer at) ≡ remove (frames_at frames (walk (suc n) nexts at)) j
  pub slots : (i : ℕ) → occurrences_of i (walk n newer at) + here i gone ≡ occurrences_of i (walk (suc n) nexts at)

pub walk-shortened : (n j : ℕ) (nexts frames : List ℕ) (at p : ℕ) → j ≤ n → p ≡ slice_index_or (walk (suc (suc n)) nexts at) j 0 → Once (walk (suc (suc n)) nexts at)
    → p < length nexts → p < length frames
    → IsShorter (suc n) j nexts frames at (slice_set nexts p (slice_index_or nexts (slice_index_or nexts p 0) 0)) (slice_set frames p (slice_index_or frames (slice_index_or nexts p 0) 0)) (slice_index_or nexts p 0)
unfolding walk
walk-shortened n zero nexts frames at p le e once inside framed =
    subst (λ (p : ℕ). IsShorter (suc n) 0 nexts frames at (slice_set nexts p (slice_index_or nexts (slice_index_or nexts p 0) 0)) (slice_set frames p (slice_index_or frames (slice_index_or nexts p 0) 0)) (slice_index_or nexts p 0)) (sym e)
    (record {
      chain = rw (first, rest) (rw front (ap (λ l. slice_index_or frames next 0 ∷ l) (frames-agree tail frames given (agree-set tail frames at (slice_index_or frames next 0) none))));
      slots = λ i. rw (first, rest)
          (let a = occurrences_of-cons i at tail in let b = occurrences_of-cons i at (next ∷ tail) in let c = occurrences_of-cons i next tail in omega (arith, a, b, c));
    })
  where
    next : ℕ
    next = slice_index_or nexts at 0

    newer : List ℕ
    newer = slice_set nexts at (slice_index_or nexts next 0)

    given : List ℕ
    given = slice_set frames at (slice_index_or frames next 0)

    tail : List ℕ
    tail = walk n nexts (slice_index_or nexts next 0)

    none : occurrences_of at tail ≡ 0
    none = let no = once-none (suc n) nexts at once in let all = occurrences_of-walk n at nexts next in omega (arith, no, all)

    first : slice_index_or newer at 0 ≡ slice_index_or nexts next 0
    first = get_or-set_same nexts at (slice_index_or nexts next 0) 0 (rw e at inside)

    front : slice_index_or given at 0 ≡ slice_index_or frames next 0
    front = get_or-set_same frames at (slice_index_or frames next 0) 0 (rw e at framed)

    rest : walk n newer (slice_index_or nexts next 0) ≡ tail
    rest = walk-agree n nexts newer (slice_index_or nexts next 0) (agree-set tail nexts at (slice_index_or nexts next 0) none)
walk-shortened zero (suc j) nexts frames at p le e once inside framed = absurd (omega (arith, le))
walk-shortened (suc n) (suc j) nexts frames at p le e once inside framed =
    let next : ℕ = slice_index_or nexts at 0 in
    let later : 1 ≤ occurrences_of p (walk (suc (suc n)) nexts next) = rw e (walk-there (suc (suc n)) j nexts next (omega (arith, le))) in
    let apart : at ≢ p = once-later (suc (suc n)) nexts at p once later in
    let following = walk-shortened n j nexts frames next p (omega (arith, le)) e (once-next (suc (suc n)) nexts at once) inside framed in
    let first = get_or-set_other nexts p at (slice_index_or nexts (slice_index_or nexts p 0) 0) 0 apart in
    let front = get_or-set_other frames p at (slice_index_or frames (slice_index_or nexts p 0) 0) 0 apart in
    record {
      chain = rw (first, front) (ap (λ l. slice_index_or frames at 0 ∷ l) following.chain);
      slots = λ i. rw first
          (let a = occurrences_of-cons i at (walk (suc n) (slice_set nexts p (slice_index_or nexts (slice_index_or nexts p 0) 0)) next) in let b = occurrences_of-cons i at (walk (suc (suc n)) nexts next) in let c = following.slots i in omega (arith, a, b, c));
    }

-- the last slot goes
pub walk-cut : (n : ℕ) (nexts frames : List ℕ) (at : ℕ) → IsShorter n n nexts frames at nexts frames (slice_index_or (walk (suc n) nexts at) n 0)
unfolding walk
walk-cut zero nexts frames at = record { chain = refl; slots = λ i. let a = occurrences_of-cons i at [] in omega (arith, a) }
walk-cut (suc n) nexts frames at =
    let next = slice_index_or nexts at 0 in
    let following = walk-cut n nexts frames next in
    record {
      chain = ap (λ l. slice_index_or frames at 0 ∷ l) following.chain;
      slots = λ i. let a = occurrences_of-cons i at (walk n nexts next) in let b = occurrences_of-cons i at (walk (suc n) nexts next) in let c = following.slots i in omega (arith, a, b, c);
    }

-- one slot further on
pub end-step : (g k : ℕ) (nexts : List ℕ) (at : ℕ) → k < g → end (g - k) nexts at ≡ end (g - (k + 1)) nexts (slice_index_or nexts at 0)
end-step g k nexts at less = let e : g - k ≡ suc (g - (k + 1)) = omega arith in rw e (end-more (g - (k + 1)) nexts at)

pub within-first : (n bound : ℕ) (nexts : List ℕ) (at : ℕ) → All (λ slot. slot < bound) (walk (n + 1) nexts at) → at < bound
unfolding walk
within-first n bound nexts at all =
    let e : n + 1 ≡ suc n = omega arith in
    All-head (λ (slot : ℕ). slot < bound) at (walk n nexts (slice_index_or nexts at 0)) (subst (λ (m : ℕ). All (λ slot. slot < bound) (walk m nexts at)) e all)

pub within-step : (g k bound : ℕ) (nexts : List ℕ) (at : ℕ) → k < g → All (λ slot. slot < bound) (walk (g - k + 1) nexts at) → All (λ slot. slot < bound) (walk (g - (k + 1) + 1) nexts (slice_index_or nexts at 0))
unfolding walk
within-step g k bound nexts at less all =
    let e : g - k + 1 ≡ suc (g - (k + 1) + 1) = omega arith in
    All-tail (λ (slot : ℕ). slot < bound) at (walk (g - (k + 1) + 1) nexts (slice_index_or nexts at 0)) (subst (λ (m : ℕ). All (λ slot. slot < bound) (walk m nexts at)) e all)

-- an element of a list stands in it
pub stands : (xs : List ℕ) (i d : ℕ) → i < length xs → 1 ≤ occurrences_of (slice_index_or xs i d) xs
stands [] i d less = absurd (omega (arith, less))
stands (x ∷ xs) zero d less = let all = occurrences_of-cons x x xs in let one = here-same x in omega (arith, all, one)
stands (x ∷ xs) (suc i) d less =
    let rest = stands xs i d (omega (arith, less)) in
    let all = occurrences_of-cons (slice_index_or xs i d) x xs in
    omega (arith, rest, all)

-- one of the slots of a list is written
pub apart-set : (slots old : List ℕ) (p v : ℕ) → 1 ≤ occurrences_of p slots → (i : ℕ) → occurrences_of i slots ≡ 0 → slice_index_or (slice_set old p v) i 0 ≡ slice_index_or old i 0
apart-set slots old p v some i none = get_or-set_other old p i v 0 (λ same. occurrences_of-apart i p slots none some (sym same))

-- one more of some groups
pub walk-grown : (g : ℕ) (nexts : List ℕ) (at new : ℕ) → 1 ≤ g → Once (walk g nexts at) → end (g - 1) nexts at < length nexts
    → walk (g + 1) (slice_set nexts (end (g - 1) nexts at) new) at ≡ walk g nexts at ++ new ∷ []
walk-grown zero nexts at new some once inside = absurd (omega (arith, some))
walk-grown (suc m) nexts at new some once inside =
    let e : suc m - 1 ≡ m = omega arith in
    let f : suc m + 1 ≡ suc (suc m) = omega arith in
    rw (e, f) (walk-lengthened m nexts at new once (rw e at inside))

-- the last of some groups is one of them
pub end-stands : (g : ℕ) (nexts : List ℕ) (at : ℕ) → 1 ≤ g → 1 ≤ occurrences_of (end (g - 1) nexts at) (walk g nexts at)
end-stands zero nexts at some = absurd (omega (arith, some))
end-stands (suc m) nexts at some = let e : suc m - 1 ≡ m = omega arith in rw e (end-there m nexts at)

-- a walk that goes on, so many slots before its end
pub walk-on : (g k : ℕ) (nexts : List ℕ) (at : ℕ) → k < g → walk (g - k) nexts at ≡ at ∷ walk (g - (k + 1)) nexts (slice_index_or nexts at 0)
walk-on g k nexts at less = let e : g - k ≡ suc (g - (k + 1)) = omega arith in rw e (walk-more (g - (k + 1)) nexts at)

pub on-inside : (g k bound : ℕ) (nexts : List ℕ) (at : ℕ) → k < g → All (λ slot. slot < bound) (walk (g - k) nexts at) → at < bound
on-inside g k bound nexts at less all =
    All-head (λ (slot : ℕ). slot < bound) at (walk (g - (k + 1)) nexts (slice_index_or nexts at 0)) (subst (λ (xs : List ℕ). All (λ slot. slot < bound) xs) (walk-on g k nexts at less) all)

pub on-within : (g k bound : ℕ) (nexts : List ℕ) (at : ℕ) → k < g → All (λ slot. slot < bound) (walk (g - k) nexts at) → All (λ slot. slot < bound) (walk (g - (k + 1)) nexts (slice_index_or nexts at 0))
on-within g k bound nexts at less all =
    All-tail (λ (slot : ℕ). slot < bound) at (walk (g - (k + 1)) nexts (slice_index_or nexts at 0)) (subst (λ (xs : List ℕ). All (λ slot. slot < bound) xs) (walk-on g k nexts at less) all)

-- what was passed and what is ahead
pub ahead-first : (g k : ℕ) (nexts : List ℕ) (at now : ℕ) → k < g → ((j : ℕ) → slice_index_or (walk g nexts at) (k + j) 0 ≡ slice_index_or (walk (g - k) nexts now) j 0) → slice_index_or (walk g nexts at) k 0 ≡ now
ahead-first g k nexts at now less ahead =
    let e : k + 0 ≡ k = omega arith in
    ap (λ (n : ℕ). slice_index_or (walk g nexts at) n 0) (sym e) ∙ ahead 0 ∙ ap (λ (xs : List ℕ). slice_index_or xs 0 0) (walk-on g k nexts now less)

pub ahead-next : (g k : ℕ) (nexts : List ℕ) (at now : ℕ) → k < g → ((j : ℕ) → slice_index_or (walk g nexts at) (k + j) 0 ≡ slice_index_or (walk (g - k) nexts now) j 0)
    → (j : ℕ) → slice_index_or (walk g nexts at) (k + 1 + j) 0 ≡ slice_index_or (walk (g - (k + 1)) nexts (slice_index_or nexts now 0)) j 0
ahead-next g k nexts at now less ahead j =
    let e : k + 1 + j ≡ k + suc j = omega arith in
    ap (λ (n : ℕ). slice_index_or (walk g nexts at) n 0) e ∙ ahead (suc j) ∙ ap (λ (xs : List ℕ). slice_index_or xs (suc j) 0) (walk-on g k nexts now less)

-- whether fewer than a limit hold a frame
abbrev pub is_open : List ℕ → ℕ → ℕ → Bool
is_open counts limit frame = nat_lt (slice_index_or counts frame 0) limit

pub open-here : (g k : ℕ) (nexts frames counts : List ℕ) (at limit : ℕ) → k < g → slice_index_or counts (slice_index_or frames at 0) 0 < limit
    → find (is_open counts limit) (frames_at frames (walk (g - k) nexts at)) ≡ Some (slice_index_or frames at 0)
open-here g k nexts frames counts at limit less low =
    let test : nat_lt (slice_index_or counts (slice_index_or frames at 0) 0) limit ≡ true = lt-ltb (slice_index_or counts (slice_index_or frames at 0) 0) limit low in
    rw (walk-on g k nexts at less) (rw test refl)

pub open-later : (g k : ℕ) (nexts frames counts : List ℕ) (at limit : ℕ) → k < g → limit ≤ slice_index_or counts (slice_index_or frames at 0) 0
    → find (is_open counts limit) (frames_at frames (walk (g - k) nexts at)) ≡ find (is_open counts limit) (frames_at frames (walk (g - (k + 1)) nexts (slice_index_or nexts at 0)))
open-later g k nexts frames counts at limit less high =
    let test : nat_lt (slice_index_or counts (slice_index_or frames at 0) 0) limit ≡ false = grind arith in
    rw (walk-on g k nexts at less) (rw test refl)

pub counted-first : (g k bound : ℕ) (nexts frames : List ℕ) (at : ℕ) → k < g → All (λ frame. frame < bound) (frames_at frames (walk (g - k) nexts at)) → slice_index_or frames at 0 < bound
counted-first g k bound nexts frames at less all =
    All-head (λ (frame : ℕ). frame < bound) (slice_index_or frames at 0) (frames_at frames (walk (g - (k + 1)) nexts (slice_index_or nexts at 0)))
    (subst (λ (xs : List ℕ). All (λ frame. frame < bound) (frames_at frames xs)) (walk-on g k nexts at less) all)

pub counted-later : (g k bound : ℕ) (nexts frames : List ℕ) (at : ℕ) → k < g → All (λ frame. frame < bound) (frames_at frames (walk (g - k) nexts at))
    → All (λ frame. frame < bound) (frames_at frames (walk (g - (k + 1)) nexts (slice_index_or nexts at 0)))
counted-later g k bound nexts frames at less all =
    All-tail (λ (frame : ℕ). frame < bound) (slice_index_or frames at 0) (frames_at frames (walk (g - (k + 1)) nexts (slice_index_or nexts at 0)))
    (subst (λ (xs : List ℕ). All (λ frame. frame < bound) (frames_at frames xs)) (walk-on g k nexts at less) all)

pub open-none : (g k : ℕ) (nexts frames counts : List ℕ) (at limit : ℕ) → g ≤ k → find (is_open counts limit) (frames_at frames (walk (g - k) nexts at)) ≡ None
unfolding walk
open-none g k nexts frames counts at limit far = let e : g - k ≡ 0 = omega arith in rw e refl
