-- The kinds of the registers at each slot, by numbers.
use Rattle.std.specs.Prelude.{◌≡◌, ℕ, ◌+◌, ◌*◌, ◌<◌, ◌≤◌, List, length, map, slice_index_or, All, Option, Some, None, option_map, IfSome}
use Rattle.verifier_kinds.specs.declared.kind.Kind.{Kind}

-- the kinds of the registers at each of some slots, where they are reached
abbrev pub Kept : Type 0
Kept = List (Option (List (Option Kind)))

-- the kinds that have some numbers
abbrev pub kinds_numbered : List (Option Kind) → List ℕ → List (Option Kind)
kinds_numbered kinds row = map (λ number. slice_index_or kinds number None) row

-- the kinds at each slot, whose row has their numbers
abbrev pub kept_in : List (Option Kind) → List (Option (List ℕ)) → Kept
kept_in kinds rows = map (option_map (kinds_numbered kinds)) rows

-- the kind of a register, where the kinds at a slot are known
abbrev pub kind_in : Option (List (Option Kind)) → ℕ → Option Kind
kind_in None register = None
kind_in (Some kinds) register = slice_index_or kinds register None

-- each number of a row is that of a kind
abbrev pub AreNumbers : List (Option Kind) → List ℕ → Type 0
AreNumbers kinds row = All (λ number. number < length kinds) row

-- kinds keep their numbers where at most so many are added
pub record KeepsKinds (before after : List (Option Kind)) (most : ℕ) : Type 0 where
  pub longer : length before ≤ length after
  pub few : length after ≤ length before + most
  pub same : (number : ℕ) → number < length before → slice_index_or after number None ≡ slice_index_or before number None

-- the rows of some slots, and the last one, have numbers of kinds, of which there are at most eleven a slot, and the first
pub record HasRows (kinds : List (Option Kind)) (rows : List (Option (List ℕ))) (last : List ℕ) : Type 0 where
  pub each : All (λ row. IfSome row (AreNumbers kinds)) rows
  pub latest : AreNumbers kinds last
  pub few : length kinds ≤ 11 * length rows + 1
