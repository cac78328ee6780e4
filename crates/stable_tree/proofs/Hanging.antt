-- Groups that hang at slots, where what hangs at one of them changes.
use Rattle.std.proofs.Common.{◌≡◌, ℕ, zero, suc, ◌+◌, ◌≤◌, List, [], ◌∷◌, ◌++◌, length, map, slice_index_or, All, refl, sym, ap, ◌∙◌, arith, length-append}
use Rattle.std.specs.List.{concat}
use Rattle.std.proofs.lemmas.List.{map-append, length-map}
use Rattle.std.proofs.lemmas.List.Concat.{flat_map-cons}
use Rattle.std.proofs.lemmas.Grind.{flat_map-append}
use Rattle.std.proofs.lemmas.List.Elements.{All-head, All-tail, All-cons, All-nil}
use Rattle.tree_shape.proofs.Times.{here}
use Rattle.stable_tree.specs.Slots.{walk, hanging, chain_at, used, occurrences_of, AreShared}
use Rattle.stable_tree.proofs.Walks.{occurrences_of-cons, occurrences_of-append, occurrences_of-first, occurrences_of-walk, length-walk, Agree, Once, walk-agree, frames-agree}

abbrev Filled : List ℕ → List ℕ → Type 0
Filled sizes heads = All (λ at. 1 ≤ slice_index_or sizes at 0) heads

pub occurrences_of-used : (i : ℕ) (nexts sizes : List ℕ) (at : ℕ) (heads : List ℕ) → occurrences_of i (used nexts sizes (at ∷ heads)) ≡ occurrences_of i (hanging nexts sizes at) + occurrences_of i (used nexts sizes heads)
occurrences_of-used i nexts sizes at heads =
    let e = ap (occurrences_of i) (flat_map-cons (hanging nexts sizes) at heads) in
    let f = occurrences_of-append i (hanging nexts sizes at) (used nexts sizes heads) in
    e ∙ f

pub occurrences_of-cut : (i : ℕ) (nexts sizes earlier : List ℕ) (at : ℕ) (later : List ℕ)
    → occurrences_of i (used nexts sizes (earlier ++ at ∷ later)) ≡ occurrences_of i (used nexts sizes earlier) + occurrences_of i (hanging nexts sizes at) + occurrences_of i (used nexts sizes later)
occurrences_of-cut i nexts sizes earlier at later =
    let e = ap (occurrences_of i) (flat_map-append (hanging nexts sizes) earlier (at ∷ later)) in
    let f = occurrences_of-append i (used nexts sizes earlier) (used nexts sizes (at ∷ later)) in
    let g = occurrences_of-used i nexts sizes at later in
    omega (arith, e, f, g)

pub occurrences_of-both : (i : ℕ) (nexts sizes earlier later : List ℕ) → occurrences_of i (used nexts sizes (earlier ++ later)) ≡ occurrences_of i (used nexts sizes earlier) + occurrences_of i (used nexts sizes later)
occurrences_of-both i nexts sizes earlier later =
    ap (occurrences_of i) (flat_map-append (hanging nexts sizes) earlier later) ∙ occurrences_of-append i (used nexts sizes earlier) (used nexts sizes later)

pub length-used : (nexts sizes : List ℕ) (at : ℕ) (heads : List ℕ) → length (used nexts sizes (at ∷ heads)) ≡ slice_index_or sizes at 0 + length (used nexts sizes heads)
length-used nexts sizes at heads =
    let e = ap length (flat_map-cons (hanging nexts sizes) at heads) in
    let f = length-append (hanging nexts sizes at) (used nexts sizes heads) in
    let g = length-walk (slice_index_or sizes at 0) nexts at in
    omega (arith, e, f, g)

pub length-cut : (nexts sizes earlier : List ℕ) (at : ℕ) (later : List ℕ)
    → length (used nexts sizes (earlier ++ at ∷ later)) ≡ length (used nexts sizes earlier) + slice_index_or sizes at 0 + length (used nexts sizes later)
length-cut nexts sizes earlier at later =
    let e = ap length (flat_map-append (hanging nexts sizes) earlier (at ∷ later)) in
    let f = length-append (used nexts sizes earlier) (used nexts sizes (at ∷ later)) in
    let g = length-used nexts sizes at later in
    omega (arith, e, f, g)

pub length-both : (nexts sizes earlier later : List ℕ) → length (used nexts sizes (earlier ++ later)) ≡ length (used nexts sizes earlier) + length (used nexts sizes later)
length-both nexts sizes earlier later =
    ap length (flat_map-append (hanging nexts sizes) earlier later) ∙ length-append (used nexts sizes earlier) (used nexts sizes later)

-- all groups of the chains
pub length-chains : (frames nexts sizes heads : List ℕ) → length (concat (map (chain_at frames nexts sizes) heads)) ≡ length (used nexts sizes heads)
length-chains frames nexts sizes [] = refl
length-chains frames nexts sizes (at ∷ heads) =
    let rest = length-chains frames nexts sizes heads in
    let long = length-append (chain_at frames nexts sizes at) (concat (map (chain_at frames nexts sizes) heads)) in
    let one = length-map (hanging nexts sizes at) (λ (slot : ℕ). slice_index_or frames slot 0) in
    let size = length-walk (slice_index_or sizes at 0) nexts at in
    let all = length-used nexts sizes at heads in
    omega (arith, rest, long, one, size, all)

hangs-first : (n i : ℕ) (nexts : List ℕ) (at : ℕ) → 1 ≤ n → here i at ≤ occurrences_of i (walk n nexts at)
hangs-first zero i nexts at more = absurd (omega (arith, more))
hangs-first (suc n) i nexts at more = let e = occurrences_of-walk n i nexts at in omega (arith, e)

-- a slot at which groups hang is used
pub heads-used : (i : ℕ) (nexts sizes heads : List ℕ) → Filled sizes heads → occurrences_of i heads ≤ occurrences_of i (used nexts sizes heads)
heads-used i nexts sizes [] filled = omega arith
heads-used i nexts sizes (at ∷ heads) filled =
    let rest = heads-used i nexts sizes heads (All-tail (λ (at : ℕ). 1 ≤ slice_index_or sizes at 0) at heads filled) in
    let all = occurrences_of-used i nexts sizes at heads in
    let one = occurrences_of-cons i at heads in
    let first = hangs-first (slice_index_or sizes at 0) i nexts at (All-head (λ (at : ℕ). 1 ≤ slice_index_or sizes at 0) at heads filled) in
    omega (arith, rest, all, one, first)

pub heads-few : (nexts sizes heads : List ℕ) → Filled sizes heads → length heads ≤ length (used nexts sizes heads)
heads-few nexts sizes [] filled = omega arith
heads-few nexts sizes (at ∷ heads) filled =
    let rest = heads-few nexts sizes heads (All-tail (λ (at : ℕ). 1 ≤ slice_index_or sizes at 0) at heads filled) in
    let all = length-used nexts sizes at heads in
    let one = All-head (λ (at : ℕ). 1 ≤ slice_index_or sizes at 0) at heads filled in
    omega (arith, rest, all, one)

-- what hangs where nothing is written
pub hanging-agree : (nexts sizes newer sized : List ℕ) (at : ℕ) → 1 ≤ slice_index_or sizes at 0 → Agree (hanging nexts sizes at) nexts newer → Agree (hanging nexts sizes at) sizes sized
    → hanging newer sized at ≡ hanging nexts sizes at
hanging-agree nexts sizes newer sized at some linked answered =
    let e = answered at (occurrences_of-first (slice_index_or sizes at 0) nexts at some) in
    rw e (walk-agree (slice_index_or sizes at 0) nexts newer at linked)

-- nothing is written at the slots of some heads
pub record AreSame (frames nexts sizes given newer sized heads : List ℕ) : Type 0 where
  pub used : used newer sized heads ≡ used nexts sizes heads
  pub chains : map (chain_at given newer sized) heads ≡ map (chain_at frames nexts sizes) heads
  pub filled : All (λ at. 1 ≤ slice_index_or sized at 0) heads

pub chains-agree : (frames nexts sizes given newer sized heads : List ℕ) → Filled sizes heads → Agree (used nexts sizes heads) frames given → Agree (used nexts sizes heads) nexts newer → Agree (used nexts sizes heads) sizes sized
    → AreSame frames nexts sizes given newer sized heads
chains-agree frames nexts sizes given newer sized [] filled f n s = record { used = refl; chains = refl; filled = All-nil (λ at. 1 ≤ slice_index_or sized at 0) }
chains-agree frames nexts sizes given newer sized (at ∷ heads) filled f n s =
    let some = All-head (λ (at : ℕ). 1 ≤ slice_index_or sizes at 0) at heads filled in
    let rest = chains-agree frames nexts sizes given newer sized heads (All-tail (λ (at : ℕ). 1 ≤ slice_index_or sizes at 0) at heads filled) (following frames given f) (following nexts newer n) (following sizes sized s) in
    let hangs = hanging-agree nexts sizes newer sized at some (front nexts newer n) (front sizes sized s) in
    record {
      used = flat_map-cons (hanging newer sized) at heads ∙ (rw (hangs, rest.used) (sym (flat_map-cons (hanging nexts sizes) at heads)));
      chains = rw (hangs, frames-agree (hanging nexts sizes at) frames given (front frames given f)) (ap (λ l. chain_at frames nexts sizes at ∷ l) rest.chains);
      filled = All-cons (λ at. 1 ≤ slice_index_or sized at 0) at heads (let e = s at (let all = occurrences_of-used at nexts sizes at heads in let one = occurrences_of-first (slice_index_or sizes at 0) nexts at some in omega (arith, all, one)) in omega (arith, e, some)) rest.filled;
    }
  where
    front : (old new : List ℕ) → Agree (used nexts sizes (at ∷ heads)) old new → Agree (hanging nexts sizes at) old new
    front old new agree = λ i some. agree i (let all = occurrences_of-used i nexts sizes at heads in omega (arith, all, some))

    following : (old new : List ℕ) → Agree (used nexts sizes (at ∷ heads)) old new → Agree (used nexts sizes heads) old new
    following old new agree = λ i some. agree i (let all = occurrences_of-used i nexts sizes at heads in omega (arith, all, some))

-- only what hangs at one head is written
abbrev pub Apart : List ℕ → List ℕ → List ℕ → Type 0
Apart slots old new = (i : ℕ) → occurrences_of i slots ≡ 0 → slice_index_or new i 0 ≡ slice_index_or old i 0

pub record IsChanged (frames nexts sizes given newer sized earlier : List ℕ) (at : ℕ) (later : List ℕ) : Type 0 where
  pub before : AreSame frames nexts sizes given newer sized earlier
  pub following : AreSame frames nexts sizes given newer sized later
  pub chains : map (chain_at given newer sized) (earlier ++ at ∷ later) ≡ map (chain_at frames nexts sizes) earlier ++ chain_at given newer sized at ∷ map (chain_at frames nexts sizes) later

pub one-changed : (frames nexts sizes given newer sized earlier : List ℕ) (at : ℕ) (later : List ℕ) → Filled sizes (earlier ++ at ∷ later) → Once (used nexts sizes (earlier ++ at ∷ later))
    → Apart (hanging nexts sizes at) frames given → Apart (hanging nexts sizes at) nexts newer → Apart (hanging nexts sizes at) sizes sized
    → IsChanged frames nexts sizes given newer sized earlier at later
one-changed frames nexts sizes given newer sized earlier at later filled once f n s =
    let before = chains-agree frames nexts sizes given newer sized earlier (fronts earlier filled) (early frames given f) (early nexts newer n) (early sizes sized s) in
    let following = chains-agree frames nexts sizes given newer sized later (backs earlier filled) (late frames given f) (late nexts newer n) (late sizes sized s) in
    record {
      before = before;
      following = following;
      chains = map-append (chain_at given newer sized) earlier (at ∷ later) ∙ rw (before.chains, following.chains) refl;
    }
  where
    early : (old new : List ℕ) → Apart (hanging nexts sizes at) old new → Agree (used nexts sizes earlier) old new
    early old new apart = λ i some. apart i (let all = occurrences_of-cut i nexts sizes earlier at later in let most = once i in omega (arith, all, most, some))

    late : (old new : List ℕ) → Apart (hanging nexts sizes at) old new → Agree (used nexts sizes later) old new
    late old new apart = λ i some. apart i (let all = occurrences_of-cut i nexts sizes earlier at later in let most = once i in omega (arith, all, most, some))

    fronts : (earlier : List ℕ) → Filled sizes (earlier ++ at ∷ later) → Filled sizes earlier
    fronts [] all = All-nil (λ at. 1 ≤ slice_index_or sizes at 0)
    fronts (x ∷ xs) all = All-cons (λ at. 1 ≤ slice_index_or sizes at 0) x xs (All-head (λ (at : ℕ). 1 ≤ slice_index_or sizes at 0) x (xs ++ at ∷ later) all) (fronts xs (All-tail (λ (at : ℕ). 1 ≤ slice_index_or sizes at 0) x (xs ++ at ∷ later) all))

    backs : (earlier : List ℕ) → Filled sizes (earlier ++ at ∷ later) → Filled sizes later
    backs [] all = All-tail (λ (at : ℕ). 1 ≤ slice_index_or sizes at 0) at later all
    backs (x ∷ xs) all = backs xs (All-tail (λ (at : ℕ). 1 ≤ slice_index_or sizes at 0) x (xs ++ at ∷ later) all)

-- slots are shared as before, where each stands as often
pub shared-again : (held free other spare : List ℕ) (bound : ℕ) → AreShared held free bound → ((i : ℕ) → occurrences_of i other + occurrences_of i spare ≡ occurrences_of i held + occurrences_of i free) → length other + length spare ≡ length held + length free → AreShared other spare bound
shared-again held free other spare bound shared same long = record {
  once = λ i. let e = same i in let most = shared.once i in omega (arith, e, most);
  inside = λ i far. let e = same i in let none = shared.inside i far in omega (arith, e, none);
  all = let all = shared.all in omega (arith, all, long);
}
