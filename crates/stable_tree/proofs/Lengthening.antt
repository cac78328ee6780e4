-- One group more after those that hang at a slot.
use Rattle.std.proofs.Common.{◌≡◌, ℕ, ◌+◌, ◌-◌, ◌<◌, ◌≤◌, List, [], ◌∷◌, ◌++◌, length, map, slice_index_or, slice_set, All, refl, sym, ap, subst, ◌∙◌, arith, length-append}
use Rattle.std.proofs.lemmas.List.{map-append, length-map, get_or-set_same, length-set}
use Rattle.std.proofs.lemmas.List.Elements.{All-cons, All-append}
use Rattle.std.proofs.Math.Seq.{set-append_seam, get_or-append_seam}
use Rattle.stable_tree.specs.Slots.{end, hanging, frames_at, chain_at, used, occurrences_of, AreShared, AreHung}
use Rattle.stable_tree.proofs.Walks.{occurrences_of-cons, occurrences_of-append, occurrences_of-first, end-stands, walk-grown, apart-set, stands, Once}
use Rattle.stable_tree.proofs.Hanging.{IsChanged, one-changed, shared-again, occurrences_of-cut, length-cut}
use Rattle.stable_tree.proofs.Numbering.{slot-inside}

-- what is known of groups that hang at a head
module _ (frames nexts sizes heads free earlier : List ℕ) (at : ℕ) (later : List ℕ) (bound : ℕ) (hung : AreHung frames nexts sizes heads free bound) (is : heads ≡ earlier ++ at ∷ later) where
  abbrev groups : ℕ
  groups = slice_index_or sizes at 0

  pub cut-filled : All (λ at. 1 ≤ slice_index_or sizes at 0) (earlier ++ at ∷ later)
  cut-filled = subst (λ (heads : List ℕ). All (λ at. 1 ≤ slice_index_or sizes at 0) heads) is hung.filled

  pub cut-shared : AreShared (used nexts sizes (earlier ++ at ∷ later)) free bound
  cut-shared = subst (λ (heads : List ℕ). AreShared (used nexts sizes heads) free bound) is hung.shared

  pub head-some : 1 ≤ slice_index_or sizes at 0
  head-some = let long = length-append earlier (at ∷ later) in subst (λ (n : ℕ). 1 ≤ slice_index_or sizes n 0) (get_or-append_seam earlier at later 0) (cut-filled (length earlier) 0 (omega (arith, long)))

  pub hanging-once : Once (hanging nexts sizes at)
  hanging-once i = let most = cut-shared.once i in let all = occurrences_of-cut i nexts sizes earlier at later in omega (arith, most, all)

  pub hanging-inside : (i : ℕ) → 1 ≤ occurrences_of i (hanging nexts sizes at) → i < bound
  hanging-inside i some = slot-inside (used nexts sizes (earlier ++ at ∷ later)) free bound i cut-shared (let all = occurrences_of-cut i nexts sizes earlier at later in omega (arith, some, all))

  pub head-inside : at < bound
  head-inside = hanging-inside at (occurrences_of-first (slice_index_or sizes at 0) nexts at head-some)

  pub groups-few : slice_index_or sizes at 0 ≤ bound
  groups-few = let all = length-cut nexts sizes earlier at later in let long = cut-shared.all in omega (arith, all, long)

  pub hanging-within : All (λ slot. slot < bound) (hanging nexts sizes at)
  hanging-within i d less = hanging-inside (slice_index_or (hanging nexts sizes at) i d) (stands (hanging nexts sizes at) i d less)

-- a list made of another, at an element
module _ (g : ℕ → List ℕ) (earlier : List ℕ) (at : ℕ) (later : List ℕ) where
  pub seam-get : slice_index_or (map g (earlier ++ at ∷ later)) (length earlier) [] ≡ g at
  seam-get =
      ap (λ l. slice_index_or l (length earlier) []) (map-append g earlier (at ∷ later))
      ∙ ap (λ (n : ℕ). slice_index_or (map g earlier ++ g at ∷ map g later) n []) (sym (length-map earlier g))
      ∙ get_or-append_seam (map g earlier) (g at) (map g later) []

  pub seam-set : (v : List ℕ) → slice_set (map g (earlier ++ at ∷ later)) (length earlier) v ≡ map g earlier ++ v ∷ map g later
  seam-set v =
      ap (λ l. slice_set l (length earlier) v) (map-append g earlier (at ∷ later))
      ∙ ap (λ (n : ℕ). slice_set (map g earlier ++ g at ∷ map g later) n v) (sym (length-map earlier g))
      ∙ set-append_seam (map g earlier) (g at) (map g later) v

-- where what hangs at one head changes
module _ (frames nexts sizes given newer sized earlier : List ℕ) (at : ℕ) (later : List ℕ) (is : IsChanged frames nexts sizes given newer sized earlier at later) where
  pub changed-occurrences_of : (i : ℕ) → occurrences_of i (used newer sized (earlier ++ at ∷ later)) ≡ occurrences_of i (used nexts sizes earlier) + occurrences_of i (hanging newer sized at) + occurrences_of i (used nexts sizes later)
  changed-occurrences_of i =
      let all = occurrences_of-cut i newer sized earlier at later in
      let one = ap (occurrences_of i) is.before.used in
      let two = ap (occurrences_of i) is.following.used in
      omega (arith, all, one, two)

  pub changed-length : length (used newer sized (earlier ++ at ∷ later)) ≡ length (used nexts sizes earlier) + slice_index_or sized at 0 + length (used nexts sizes later)
  changed-length =
      let all = length-cut newer sized earlier at later in
      let one = ap length is.before.used in
      let two = ap length is.following.used in
      omega (arith, all, one, two)

  pub changed-filled : 1 ≤ slice_index_or sized at 0 → All (λ at. 1 ≤ slice_index_or sized at 0) (earlier ++ at ∷ later)
  changed-filled some =
      All-append (λ at. 1 ≤ slice_index_or sized at 0) earlier (at ∷ later) is.before.filled
      (All-cons (λ at. 1 ≤ slice_index_or sized at 0) at later some is.following.filled)

  pub changed-chains : map (chain_at given newer sized) (earlier ++ at ∷ later) ≡ slice_set (map (chain_at frames nexts sizes) (earlier ++ at ∷ later)) (length earlier) (chain_at given newer sized at)
  changed-chains = is.chains ∙ sym (seam-set (chain_at frames nexts sizes) earlier at later (chain_at given newer sized at))

-- a slot after the last group
module _ (frames nexts sizes heads free earlier : List ℕ) (at : ℕ) (later : List ℕ) (bound slot : ℕ) (hung : AreHung frames nexts sizes heads (slot ∷ free) bound) (is : heads ≡ earlier ++ at ∷ later) where
  abbrev last : ℕ
  last = end (slice_index_or sizes at 0 - 1) nexts at

  abbrev newer : List ℕ
  newer = slice_set nexts last slot

  abbrev sized : List ℕ
  sized = slice_set sizes at (slice_index_or sizes at 0 + 1)

  some : 1 ≤ slice_index_or sizes at 0
  some = head-some frames nexts sizes heads (slot ∷ free) earlier at later bound hung is

  last-stands : 1 ≤ occurrences_of last (hanging nexts sizes at)
  last-stands = end-stands (slice_index_or sizes at 0) nexts at some

  size : slice_index_or sized at 0 ≡ slice_index_or sizes at 0 + 1
  size = let inside = head-inside frames nexts sizes heads (slot ∷ free) earlier at later bound hung is in let long = hung.sized in get_or-set_same sizes at (slice_index_or sizes at 0 + 1) 0 (omega (arith, inside, long))

  pub longer : hanging newer sized at ≡ hanging nexts sizes at ++ slot ∷ []
  longer =
      rw size (walk-grown (slice_index_or sizes at 0) nexts at slot some (hanging-once frames nexts sizes heads (slot ∷ free) earlier at later bound hung is)
      (let inside = hanging-inside frames nexts sizes heads (slot ∷ free) earlier at later bound hung is last last-stands in let long = hung.linked in omega (arith, inside, long)))

  changed : IsChanged frames nexts sizes frames newer sized earlier at later
  changed = one-changed frames nexts sizes frames newer sized earlier at later
      (cut-filled frames nexts sizes heads (slot ∷ free) earlier at later bound hung is)
      (λ i. let most = (cut-shared frames nexts sizes heads (slot ∷ free) earlier at later bound hung is).once i in omega (arith, most))
      (λ i none. refl)
      (apart-set (hanging nexts sizes at) nexts last slot last-stands)
      (apart-set (hanging nexts sizes at) sizes at (slice_index_or sizes at 0 + 1) (occurrences_of-first (slice_index_or sizes at 0) nexts at some))

  pub grown-chains : map (chain_at frames newer sized) (earlier ++ at ∷ later)
      ≡ slice_set (map (chain_at frames nexts sizes) (earlier ++ at ∷ later)) (length earlier) (chain_at frames nexts sizes at ++ slice_index_or frames slot 0 ∷ [])
  grown-chains =
      changed-chains frames nexts sizes frames newer sized earlier at later changed
      ∙ ap (λ chain. slice_set (map (chain_at frames nexts sizes) (earlier ++ at ∷ later)) (length earlier) chain)
      (ap (frames_at frames) longer ∙ map-append (λ slot. slice_index_or frames slot 0) (hanging nexts sizes at) (slot ∷ []))

  pub grown-hung : AreHung frames newer sized heads free bound
  grown-hung = rw is (record {
    filled = changed-filled frames nexts sizes frames newer sized earlier at later changed (omega (arith, size));
    shared = shared-again (used nexts sizes (earlier ++ at ∷ later)) (slot ∷ free) (used newer sized (earlier ++ at ∷ later)) free bound
        (cut-shared frames nexts sizes heads (slot ∷ free) earlier at later bound hung is)
        (λ i. let a = changed-occurrences_of frames nexts sizes frames newer sized earlier at later changed i in let b = occurrences_of-cut i nexts sizes earlier at later in
        let c = ap (occurrences_of i) longer in let d = occurrences_of-append i (hanging nexts sizes at) (slot ∷ []) in let e = occurrences_of-cons i slot [] in let f = occurrences_of-cons i slot free in omega (arith, a, b, c, d, e, f))
        (let a = changed-length frames nexts sizes frames newer sized earlier at later changed in let b = length-cut nexts sizes earlier at later in omega (arith, a, b, size));
    framed = hung.framed;
    linked = let e = length-set nexts last slot in let long = hung.linked in omega (arith, e, long);
    sized = let e = length-set sizes at (slice_index_or sizes at 0 + 1) in let long = hung.sized in omega (arith, e, long);
  })
