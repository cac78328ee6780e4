-- Maps that are written one by one.
use Rattle.std.proofs.Common.{◌≡◌, ◌≢◌, ℕ, ◌+◌, ◌<◌, ◌≤◌, List, length, slice_get, slice_index_or, slice_set, Option, Some, MatchOption, sym, subst, ◌∙◌, arith, below_more, length-set, get_or-set_same, get_or-set_other}
use Rattle.core.proofs.iter.runs.Lists.{same_Some}
use Rattle.std.proofs.lemmas.List.{get_or_default}
use Rattle.std.proofs.lemmas.Option.{slice_get_cases}
use mathlib.Core.Logic.{⊎_elim}
use Rattle.object_file.specs.declared.map.Map.{Map}
use Rattle.host_handle.specs.declared.object.BpfHostObjectMap.{BpfHostObjectMap}
use Rattle.host_handle.specs.Written.{AreMapsWritten, IsMapWritten}

module _ (maps : List Map) (old : List BpfHostObjectMap) where
  -- the map with a number, if there is one, is written
  abbrev pub IsWrittenAt : List BpfHostObjectMap → ℕ → Type 0
  IsWrittenAt new k = (map : Map) (other : BpfHostObjectMap) → slice_get maps k ≡ Some map → IsMapWritten map (slice_index_or old k other) (slice_index_or new k other)

  -- the maps below a number are written, and the others are as they were
  abbrev pub AreFirstWritten : List BpfHostObjectMap → ℕ → Type 0
  AreFirstWritten new n =
      (length new ≡ length old) × ((k : ℕ) → k < n → IsWrittenAt new k)
      × ((k : ℕ) (other : BpfHostObjectMap) → n ≤ k → slice_index_or new k other ≡ slice_index_or old k other)

  -- one more is written
  pub one_written : (before : List BpfHostObjectMap) (at : ℕ) (m : Map) (new any : BpfHostObjectMap) → at < length before → slice_get maps at ≡ Some m
      → AreFirstWritten before at → IsMapWritten m (slice_index_or before at any) new → AreFirstWritten (slice_set before at new) (at + 1)
  one_written before at m new any within found first is = (
    length-set before at new ∙ first.0,
    below_more (IsWrittenAt (slice_set before at new)) at
        (λ k below map other has. let ne : k ≢ at = omega arith in
        subst (IsMapWritten map (slice_index_or old k other)) (sym (get_or-set_other before at k new other ne)) (first.1 k below map other has))
        (λ map other has.
        let same : m ≡ map = same_Some m map (sym found ∙ has) in
        let was : slice_index_or before at any ≡ slice_index_or old at other = get_or_default before at any other within ∙ first.2 at other (omega arith) in
        subst (IsMapWritten map (slice_index_or old at other)) (sym (get_or-set_same before at new other within))
        (subst (λ (o : BpfHostObjectMap). IsMapWritten map o new) was (subst (λ (x : Map). IsMapWritten x (slice_index_or before at any) new) same is))),
    λ k other past. let ne : k ≢ at = omega arith in get_or-set_other before at k new other ne ∙ first.2 k other (omega arith),
  )

  -- all are written
  pub all_written : (new : List BpfHostObjectMap) (n : ℕ) → n ≡ length maps → AreFirstWritten new n → AreMapsWritten maps old new
  all_written new n all first number other within = ⊎_elim
      (λ p. subst (λ (found : Option Map). MatchOption found (slice_index_or new number other ≡ slice_index_or old number other) (λ map. IsMapWritten map (slice_index_or old number other) (slice_index_or new number other)))
      (sym p.2) (first.1 number (omega (arith, p.1, all)) p.0 other p.2))
      (λ p. subst (λ (found : Option Map). MatchOption found (slice_index_or new number other ≡ slice_index_or old number other) (λ map. IsMapWritten map (slice_index_or old number other) (slice_index_or new number other)))
      (sym p.1) (first.2 number other (omega (arith, p.0, all))))
      (slice_get_cases maps number).1
