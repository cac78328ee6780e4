-- A visit does nothing exactly where the scanner is stopped or no page may be merged.
use Rattle.std.proofs.Common.{◌≡◌, ◌≢◌, ◌∙◌, inl, inr, ⊎_elim, ◌↔◌, ℕ, ◌+◌, ◌==◌, ◌&&◌, ◌||◌, bytes_eq, not, Bool, true, false, if◌then◌else◌, Option, Some, None, IsSome, IfSome, refl, sym, ap, arith}
use Rattle.std.proofs.lemmas.Bool.Decides.{nat_tests}
use Rattle.host_types.specs.declared.visited.Visited.{Visited}
use Rattle.host_types.specs.declared.visited.Visited.TheVariants as visited
use Rattle.host_types.specs.Pages.{zero_page, fingerprint_of}
use Rattle.host_types.specs.Pins.{is_pinned}
use Rattle.host_types.specs.Sharing.{Sharing, PageState, state_at, is_shared}
use Rattle.host_types.specs.Visits.{Contents, Visit, visit, begun, is_mergeable, look_from, next_from, page_to_visit, decided, looked_at, has_open, had, paired_or_waiting, find_partner}
use Rattle.page_table.proofs.Partners.{none-mergeable}
use Rattle.page_table.proofs.Partners.{next-is}
use Rattle.scanner.specs.Idle.{ScansNothing}
use Rattle.host_types.proofs.Visits.{visit-stopped, visit-none, visit-page, is-same}

either-works : (b : Bool) (x y : Visit) → x.0 ≢ visited.Idle → y.0 ≢ visited.Idle → (if b then x else y).0 ≢ visited.Idle
either-works true x y h k = h
either-works false x y h k = k

paired_or_waiting-works : (s : Sharing) (i fingerprint : ℕ) (found : Option (ℕ × ℕ)) → (paired_or_waiting s i fingerprint found).0 ≢ visited.Idle
unfolding paired_or_waiting
paired_or_waiting-works s i fingerprint None e = absurd (cc)
paired_or_waiting-works s i fingerprint (Some entry) e = absurd (cc)

looked-works : (contents : Contents) (s : Sharing) (i : ℕ) (last : Option ℕ) → (looked_at contents s i last).0 ≢ visited.Idle
unfolding looked_at
looked-works contents s i last =
    either-works (has_open contents s i) _ _ (λ e. absurd (cc))
    (either-works (not (had last (fingerprint_of (contents i)))) _ _ (λ e. absurd (cc))
    (either-works (s.options.use_zero_pages == 1 && bytes_eq (contents i) zero_page) _ _ (λ e. absurd (cc))
    (paired_or_waiting-works s i (fingerprint_of (contents i)) (find_partner contents s i (fingerprint_of (contents i))))))

-- the visit of a page does something
decided-works : (contents : Contents) (s : Sharing) (i : ℕ) (x : Option PageState) → is_mergeable x ≡ true → (decided contents s i x).0 ≢ visited.Idle
unfolding decided
decided-works contents s i None may = absurd (cc)
decided-works contents s i (Some state) may = either-works (is_shared state.status || is_pinned s.pins i) _ _ (λ e. absurd (cc)) (looked-works contents s i state.last)

-- where no page is found, there is none
no-page : (s : Sharing) (c : Option ℕ) → IfSome c (λ n. IsSome (next_from s (n + 1))) → next_from s (look_from c) ≡ None → (i : ℕ) → is_mergeable (state_at s i) ≡ false
no-page s None ahead none i = none-mergeable 0 s.pages i none
no-page s (Some c) ahead none i = absurd (let no = gone (next_from s (c + 1)) none ahead in cc)
  where
    gone : (x : Option ℕ) → x ≡ None → IsSome x → false ≡ true
    gone None e some = some
    gone (Some i) e some = absurd (cc)

is-one : (n : ℕ) → (n == 1) ≡ true → n ≡ 1
is-one n h = grind (arith, nat_tests)

pub idle-law : (contents : Contents) (s after : Sharing) (result : Visited) → IfSome s.cursor (λ c. IsSome (next_from s (c + 1))) → visit contents s ≡ (result, after) → (result ≡ visited.Idle ↔ ScansNothing s)
idle-law contents s after result ahead answered = by_run (s.options.run == 1) refl
  where
    named : (v : Visit) → visit contents s ≡ v → result ≡ v.0
    named v e = ap (λ (v : Visit). v.0) (sym answered ∙ e)

    other : (s.options.run == 1) ≡ false → s.options.run ≢ 1
    other h same = let yes = is-same s.options.run 1 same in cc

    by_next : (x : Option ℕ) → (s.options.run == 1) ≡ true → page_to_visit s ≡ x → (result ≡ visited.Idle ↔ ScansNothing s)
    by_next None runs next =
        (λ e. inr (no-page s s.cursor ahead next), λ h. named (visited.Idle, s) (visit-none contents s runs next))
    by_next (Some i) runs next =
        let may : is_mergeable (state_at s i) ≡ true = (next-is s.pages (look_from s.cursor) i next).mergeable in
        let works = decided-works contents (begun s i) i (state_at s i) may in
        let is = named (decided contents (begun s i) i (state_at s i)) (visit-page contents s i runs next) in (
          λ e. absurd (works (sym is ∙ e)),
          λ h. absurd (⊎_elim (λ stopped. stopped (is-one s.options.run runs)) (λ none. let no : true ≡ false = sym may ∙ none i in cc) h),
        )

    by_run : (b : Bool) → (s.options.run == 1) ≡ b → (result ≡ visited.Idle ↔ ScansNothing s)
    by_run false h = (λ e. inl (other h), λ idle. named (visited.Idle, s) (visit-stopped contents s h))
    by_run true h = by_next (page_to_visit s) h refl
