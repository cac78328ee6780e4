-- The definition of a visit, case by case.
use Rattle.std.proofs.Common.{◌≡◌, ◌≢◌, ◌∙◌, ℕ, ◌+◌, ◌==◌, ◌&&◌, ◌||◌, bytes_eq, Bool, true, false, if◌then◌else◌, List, Option, Some, None, option_map, is_some, slice_index_or, refl, ap, arith}
use Rattle.std.proofs.lemmas.Bool.Decides.{nat_tests}
use Rattle.host_types.specs.declared.visited.Visited.TheVariants as visited
use Rattle.host_types.specs.Pages.{zero_page, fingerprint_of}
use Rattle.host_types.specs.Pins.{is_pinned}
use Rattle.host_types.specs.Sharing.{Sharing, PageState, state_at, is_shared, paired, zeroed}
use Rattle.host_types.specs.Visits.{Contents, visit, visit_of, begun, moved_on, page_to_visit, next_from, decided, looked_at, has_open, joined, changed, had, paired_or_waiting, find_partner, waits}

-- the scanner is stopped
pub visit-stopped : (contents : Contents) (s : Sharing) → (s.options.run == 1) ≡ false → visit contents s ≡ (visited.Idle, s)
unfolding visit
visit-stopped contents s h = ap (λ (b : Bool). if b then visit_of contents s (page_to_visit s) else (visited.Idle, s)) h

-- no page may be merged
pub visit-none : (contents : Contents) (s : Sharing) → (s.options.run == 1) ≡ true → page_to_visit s ≡ None → visit contents s ≡ (visited.Idle, s)
unfolding visit visit_of
visit-none contents s h none =
    ap (λ (b : Bool). if b then visit_of contents s (page_to_visit s) else (visited.Idle, s)) h ∙ ap (visit_of contents s) none

pub visit-page : (contents : Contents) (s : Sharing) (i : ℕ) → (s.options.run == 1) ≡ true → page_to_visit s ≡ Some i → visit contents s ≡ decided contents (begun s i) i (state_at s i)
unfolding visit visit_of
visit-page contents s i h next =
    ap (λ (b : Bool). if b then visit_of contents s (page_to_visit s) else (visited.Idle, s)) h ∙ ap (visit_of contents s) next

-- the pages stay where the cursor moves on
pages-either : (s x y : Sharing) (b : Bool) (j : ℕ) → x.pages ≡ s.pages → y.pages ≡ s.pages → state_at (if b then x else y) j ≡ state_at s j
pages-either s x y true j e k = ap (λ (l : List (Option PageState)). slice_index_or l j None) e
pages-either s x y false j e k = ap (λ (l : List (Option PageState)). slice_index_or l j None) k

pub begun-pages : (s : Sharing) (i j : ℕ) → state_at (begun s i) j ≡ state_at s j
unfolding begun moved_on
begun-pages s i j = pages-either s _ _ (is_some (next_from s (i + 1))) j refl refl

pub is-other : (n m : ℕ) → n ≢ m → (n == m) ≡ false
is-other n m h = grind (arith, nat_tests)

pub is-same : (n m : ℕ) → n ≡ m → (n == m) ≡ true
is-same n m h = grind (arith, nat_tests)

pub decided-already : (contents : Contents) (s : Sharing) (i : ℕ) (state : PageState) → (is_shared state.status || is_pinned s.pins i) ≡ true → decided contents s i (Some state) ≡ (visited.Already, s)
unfolding decided
decided-already contents s i state h = ap (λ (b : Bool). if b then (visited.Already, s) else looked_at contents s i state.last) h

pub decided-own : (contents : Contents) (s : Sharing) (i : ℕ) (state : PageState) → (is_shared state.status || is_pinned s.pins i) ≡ false → decided contents s i (Some state) ≡ looked_at contents s i state.last
unfolding decided
decided-own contents s i state h = ap (λ (b : Bool). if b then (visited.Already, s) else looked_at contents s i state.last) h

module _ (contents : Contents) (s : Sharing) (i : ℕ) (last : Option ℕ) where
  pub looked-joined : has_open contents s i ≡ true → looked_at contents s i last ≡ (visited.Joined, joined contents s i)
  unfolding looked_at
  looked-joined h = rw h refl

  pub looked-changed : has_open contents s i ≡ false → had last (fingerprint_of (contents i)) ≡ false → looked_at contents s i last ≡ (visited.Changed, changed s i (fingerprint_of (contents i)))
  unfolding looked_at
  looked-changed h k = rw (h, k) refl

  pub looked-zeroed : has_open contents s i ≡ false → had last (fingerprint_of (contents i)) ≡ true → (s.options.use_zero_pages == 1 && bytes_eq (contents i) zero_page) ≡ true
      → looked_at contents s i last ≡ (visited.Zeroed, zeroed s i)
  unfolding looked_at
  looked-zeroed h k z = rw (h, k, z) refl

  pub looked-paired_or_waiting : has_open contents s i ≡ false → had last (fingerprint_of (contents i)) ≡ true → (s.options.use_zero_pages == 1 && bytes_eq (contents i) zero_page) ≡ false
      → looked_at contents s i last ≡ paired_or_waiting s i (fingerprint_of (contents i)) (find_partner contents s i (fingerprint_of (contents i)))
  unfolding looked_at
  looked-paired_or_waiting h k z = rw (h, k, z) refl

-- the page and its partner
pub paired_or_waiting-partner : (s : Sharing) (i j fingerprint : ℕ) (found : Option (ℕ × ℕ)) → Some j ≡ option_map (λ (entry : ℕ × ℕ). entry.0) found → paired_or_waiting s i fingerprint found ≡ (visited.Paired, paired s j i)
unfolding paired_or_waiting
paired_or_waiting-partner s i j fingerprint None e = absurd (cc)
paired_or_waiting-partner s i j fingerprint (Some entry) e = let same : j ≡ entry.0 = cc in rw same refl

pub paired_or_waiting-none : (s : Sharing) (i fingerprint : ℕ) (found : Option (ℕ × ℕ)) → None ≡ option_map (λ (entry : ℕ × ℕ). entry.0) found → paired_or_waiting s i fingerprint found ≡ (visited.Waiting, waits s i fingerprint)
unfolding paired_or_waiting
paired_or_waiting-none s i fingerprint None e = refl
paired_or_waiting-none s i fingerprint (Some entry) e = absurd (cc)
