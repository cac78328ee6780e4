-- What is reported of a tree where a group was put in or taken out.
use Rattle.std.proofs.Common.{◌≡◌, ◌≢◌, ℕ, ◌+◌, ◌-◌, ◌<◌, ◌≤◌, ◌==◌, not, List, [], ◌∷◌, ◌++◌, length, filter, All, refl, sym, ap, subst, ◌∙◌, arith}
use Rattle.std.specs.List.{concat}
use Rattle.frame_arena.specs.Pages.{page_at}
use Rattle.stable_tree.specs.declared.dups.Dups.{Dups}
use Rattle.stable_tree.specs.Groups.{IsSorted, AreDups, has}
use Rattle.stable_tree.specs.Edits.{IsPut, added, lengthened, IsTakenOut, nowhere, alone, shortened}
use Rattle.stable_tree.proofs.Sorting.{cut-there}
use Rattle.stable_tree.proofs.Counting.{IsMoved, grows, shrinks, inserts, removes}
use Rattle.stable_tree.proofs.Removing.{absent, has-itself, filter-absent, shortened-answered, taken_out-answered, sorted-shortened, sorted-taken_out}
use Rattle.stable_tree.proofs.Inserting.{lengthened-answered, added-answered}
use Rattle.stable_tree.proofs.Ordered.{sorted-lengthened, sorted-added}

pub put-inserted : {pages : List (List ℕ)} {frame : ℕ} {old new : List (List ℕ)} {before : ℕ} → IsSorted pages old → IsPut pages frame old new before
    → (bytes : List ℕ) → filter (has pages bytes) (concat new) ≡ filter (has pages bytes) (concat old) ++ filter (has pages bytes) (frame ∷ [])
put-inserted {pages} {frame} {old} {new} {before} sorted (added k cut missing is none) bytes = rw is (added-answered pages old frame k sorted cut missing bytes)
put-inserted {pages} {frame} {old} {new} {before} sorted (lengthened k cut there is counted) bytes = rw is (lengthened-answered pages old frame k sorted cut there bytes)

pub put-sorted : {pages : List (List ℕ)} {frame : ℕ} {old new : List (List ℕ)} {before : ℕ} → IsSorted pages old → frame < length pages → All (λ group. group ≢ frame) (concat old)
    → IsPut pages frame old new before → IsSorted pages new
put-sorted {pages} {frame} {old} {new} {before} sorted inside fresh (added k cut missing is none) = subst (IsSorted pages) (sym is) (sorted-added pages old frame k sorted cut inside fresh missing)
put-sorted {pages} {frame} {old} {new} {before} sorted inside fresh (lengthened k cut there is counted) = subst (IsSorted pages) (sym is) (sorted-lengthened pages old frame k sorted cut inside fresh there)

-- the numbers after a group was put in
pub put-kept : {pages : List (List ℕ)} {frame : ℕ} {old new : List (List ℕ)} {before : ℕ} {dups : Dups} → IsSorted pages old → AreDups dups old → IsPut pages frame old new before → before ≡ 0 → AreDups dups new
put-kept {pages} {frame} {old} {new} {before} {dups} sorted are (added k cut missing is zero) none = subst (AreDups dups) (sym is) (inserts dups old k frame are)
put-kept {pages} {frame} {old} {new} {before} {dups} sorted are (lengthened k cut there is counted) none =
    let filled = (sorted.alike k [] (cut-there pages (page_at pages frame) old k there)).filled in
    absurd (omega (arith, filled, counted, none))

pub put-moved : {pages : List (List ℕ)} {frame : ℕ} {old new : List (List ℕ)} {before : ℕ} {dups : Dups} → AreDups dups old → IsPut pages frame old new before → 0 < before → IsMoved dups new before (before + 1) (length (concat new))
put-moved {pages} {frame} {old} {new} {before} {dups} are (added k cut missing is none) some = absurd (omega (arith, none, some))
put-moved {pages} {frame} {old} {new} {before} {dups} are (lengthened k cut there is counted) some =
    grows dups old new k before (length (concat new)) frame (cut-there pages (page_at pages frame) old k there) are counted is refl

pub take-removed : {pages : List (List ℕ)} {frame : ℕ} {old new : List (List ℕ)} {before : ℕ} → IsSorted pages old → IsTakenOut pages frame old new before
    → concat new ≡ filter (λ group. not (group == frame)) (concat old)
take-removed {pages} {frame} {old} {new} {before} sorted (nowhere others is none) =
    ap concat is ∙ sym (filter-absent (concat old) frame (absent (has pages (page_at pages frame)) (concat old) frame (has-itself pages frame) others))
take-removed {pages} {frame} {old} {new} {before} sorted (alone k there one first is counted) = ap concat is ∙ taken_out-answered pages old frame k 0 sorted there (omega (arith, one)) first one
take-removed {pages} {frame} {old} {new} {before} sorted (shortened k slot there inside here two is counted) = ap concat is ∙ shortened-answered pages old frame k slot sorted there inside here

pub take-sorted : {pages : List (List ℕ)} {frame : ℕ} {old new : List (List ℕ)} {before : ℕ} → IsSorted pages old → IsTakenOut pages frame old new before → IsSorted pages new
take-sorted {pages} {frame} {old} {new} {before} sorted (nowhere others is none) = subst (IsSorted pages) (sym is) sorted
take-sorted {pages} {frame} {old} {new} {before} sorted (alone k there one first is counted) = subst (IsSorted pages) (sym is) (sorted-taken_out pages old frame k 0 sorted there (omega (arith, one)) first one)
take-sorted {pages} {frame} {old} {new} {before} sorted (shortened k slot there inside here two is counted) = subst (IsSorted pages) (sym is) (sorted-shortened pages old frame k slot sorted there inside here two)

-- the numbers after a group was taken out
pub take-kept : {pages : List (List ℕ)} {frame : ℕ} {old new : List (List ℕ)} {before : ℕ} {dups : Dups} → AreDups dups old → IsTakenOut pages frame old new before → before ≤ 1 → AreDups dups new
take-kept {pages} {frame} {old} {new} {before} {dups} are (nowhere others is none) few = subst (AreDups dups) (sym is) are
take-kept {pages} {frame} {old} {new} {before} {dups} are (alone k there one first is counted) few = subst (AreDups dups) (sym is) (removes dups old k there one are)
take-kept {pages} {frame} {old} {new} {before} {dups} are (shortened k slot there inside here two is counted) few = absurd (omega (arith, two, counted, few))

pub take-moved : {pages : List (List ℕ)} {frame : ℕ} {old new : List (List ℕ)} {before : ℕ} {dups : Dups} → AreDups dups old → IsTakenOut pages frame old new before → 1 < before → IsMoved dups new before (before - 1) (length (concat new))
take-moved {pages} {frame} {old} {new} {before} {dups} are (nowhere others is none) more = absurd (omega (arith, none, more))
take-moved {pages} {frame} {old} {new} {before} {dups} are (alone k there one first is counted) more = absurd (omega (arith, counted, more))
take-moved {pages} {frame} {old} {new} {before} {dups} are (shortened k slot there inside here two is counted) more =
    shrinks dups old new k before (length (concat new)) slot there are counted inside is refl
