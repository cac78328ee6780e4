-- What the plain program's visit does to the index of a page, case by case.
use Rattle.std.proofs.Common.{◌≡◌, ◌∙◌, ℕ, ◌==◌, Bool, true, List, Option, Some, None, refl, sym, ap}
use Rattle.host_types.specs.declared.options.Options.{Options}
use Rattle.host_types.specs.declared.visited.Visited.TheVariants as visited
use Rattle.host_types.specs.Sharing.{Sharing, PageState, state_at}
use Rattle.host_types.specs.Visits.{Contents, visit, begun, page_to_visit, decided}
use Rattle.host_types.proofs.Visits as law

pub visit-page : (contents : Contents) (s : Sharing) (i : ℕ) → (s.options.run == 1) ≡ true → page_to_visit s ≡ Some i → visit contents s ≡ decided contents (begun s i) i (state_at (begun s i) i)
visit-page contents s i h next = law.visit-page contents s i h next ∙ ap (decided contents (begun s i) i) (sym (law.begun-pages s i i))

pub decided-none : (contents : Contents) (s : Sharing) (i : ℕ) → decided contents s i None ≡ (visited.Idle, s)
unfolding decided
decided-none contents s i = refl

-- a state of sharing by its parts
abbrev pub state : List (Option PageState) → List (List ℕ) → List (ℕ × ℕ) → Option ℕ → Options → ℕ → List Bool → Sharing
state pages groups waiting cursor options full_scans pins =
    record { pages = pages; groups = groups; waiting = waiting; cursor = cursor; options = options; full_scans = full_scans; pins = pins }
