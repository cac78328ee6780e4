-- What a visit does to a page that is there, case by case.
use Rattle.std.proofs.Common.{◌≡◌, ◌∙◌, ℕ, ◌+◌, ◌≤◌, ◌==◌, ◌&&◌, ◌||◌, bytes_eq, Bool, true, false, if◌then◌else◌, List, Option, Some, None, IfSome, is_some, refl, sym, subst, arith}
use Rattle.host_types.specs.declared.visited.Visited.TheVariants as visited
use Rattle.host_types.specs.Pages.{zero_page, fingerprint_of}
use Rattle.host_types.specs.Pins.{is_pinned}
use Rattle.host_types.specs.Sharing.{Sharing, PageState, is_shared, zeroed}
use Rattle.host_types.specs.Visits.{Contents, begun, moved_on, next_from, decided, looked_at, has_open, joined, changed, had, paired_or_waiting, find_partner}
use Rattle.host_types.proofs.Visits as law

-- the visited page doesn't stand after the cursor
cursor-either : (x y : Sharing) (b : Bool) (i : ℕ) → x.cursor ≡ Some i → y.cursor ≡ None → IfSome (if b then x else y).cursor (λ c. i ≤ c)
cursor-either x y true i e k = subst (λ (o : Option ℕ). IfSome o (λ c. i ≤ c)) (sym e) (omega arith)
cursor-either x y false i e k = subst (λ (o : Option ℕ). IfSome o (λ c. i ≤ c)) (sym k) tt

pub moved-at_or_before : (s : Sharing) (i : ℕ) → IfSome (moved_on s i).cursor (λ c. i ≤ c)
unfolding moved_on
moved-at_or_before s i = cursor-either _ _ (is_some (next_from s (i + 1))) i refl refl

-- the begin of a visit pins nothing, and ends no pin
pins-either : (s : Sharing) (waiting : List (ℕ × ℕ)) (full_scans : ℕ) (cursor : Option ℕ) (b : Bool)
    → (if b then record s { waiting = waiting; cursor = cursor } else record s { waiting = waiting; cursor = None; full_scans = full_scans }).pins ≡ s.pins
pins-either s waiting full_scans cursor true = refl
pins-either s waiting full_scans cursor false = refl

pub begun-pins : (s : Sharing) (i : ℕ) → (begun s i).pins ≡ s.pins
unfolding begun moved_on
begun-pins s i = pins-either s _ _ _ (is_some (next_from s (i + 1)))

module _ (contents : Contents) (s : Sharing) (i : ℕ) (state : PageState) (own : (is_shared state.status || is_pinned s.pins i) ≡ false) where
  owned : decided contents s i (Some state) ≡ looked_at contents s i state.last
  owned = law.decided-own contents s i state own

  pub looked-joined : has_open contents s i ≡ true → decided contents s i (Some state) ≡ (visited.Joined, joined contents s i)
  looked-joined h = owned ∙ law.looked-joined contents s i state.last h

  pub looked-changed : has_open contents s i ≡ false → had state.last (fingerprint_of (contents i)) ≡ false → decided contents s i (Some state) ≡ (visited.Changed, changed s i (fingerprint_of (contents i)))
  looked-changed h k = owned ∙ law.looked-changed contents s i state.last h k

  pub looked-zeroed : has_open contents s i ≡ false → had state.last (fingerprint_of (contents i)) ≡ true → (s.options.use_zero_pages == 1 && bytes_eq (contents i) zero_page) ≡ true
      → decided contents s i (Some state) ≡ (visited.Zeroed, zeroed s i)
  looked-zeroed h k z = owned ∙ law.looked-zeroed contents s i state.last h k z

  pub looked-paired_or_waiting : has_open contents s i ≡ false → had state.last (fingerprint_of (contents i)) ≡ true → (s.options.use_zero_pages == 1 && bytes_eq (contents i) zero_page) ≡ false
      → decided contents s i (Some state) ≡ paired_or_waiting s i (fingerprint_of (contents i)) (find_partner contents s i (fingerprint_of (contents i)))
  looked-paired_or_waiting h k z = owned ∙ law.looked-paired_or_waiting contents s i state.last h k z
