-- The rule of the turn, which every step on its word keeps, and what each step gives. The word is 0
-- while the memory is home, and 1 while it is out with the one seat that holds it.
use Rattle.std.specs.Prelude.{◌≡◌, ◌≢◌, ◌⊎◌, ℕ, List, [], ◌∷◌, Option, Some, true, false}
use mathlib.Core.Option.{some, none}
use lib.ListN.{get_elem?}
use Rattle.atomic_table.specs.Table.{State, Me, Step}
use Rattle.page_table.specs.State.{MemoryState}
use Rattle.turn.specs.Views.{SeatView, Has, RemembersParts, holding, resting}

-- a fact of each view, by the number of its seat
abbrev pub Each : List SeatView → (ℕ → SeatView → Type 0) → Type 0
Each views P = (i : ℕ) (view : SeatView) → get_elem? views i ≡ some view → P i view

-- no two seats have one tenant
abbrev pub Apart : List SeatView → Type 0
Apart views = Each views (λ i v. Each views (λ j w. (t : ℕ) → Has v t → Has w t → i ≡ j))

-- the memory is home, and no seat holds it
pub record IsHome (s : State (Option MemoryState) SeatView) (memory : MemoryState) : Type 0 where
  pub word : s.words ≡ 0 ∷ []
  pub slot : s.homes ≡ some (Some memory) ∷ []
  pub unheld : Each s.views (λ i view. view.holds ≡ false)

-- the memory is out: exactly one seat holds it, and remembers all parts as it took them
pub record IsOut (s : State (Option MemoryState) SeatView) (memory : MemoryState) : Type 0 where
  pub word : s.words ≡ 1 ∷ []
  pub slot : s.homes ≡ none ∷ []
  pub holder : ℕ
  pub view : SeatView
  pub there : get_elem? s.views holder ≡ some view
  pub holds : view.holds ≡ true
  pub seen : view.seen ≡ memory
  pub alone : Each s.views (λ i other. other.holds ≡ true → i ≡ holder)

-- The rule of the turn: no two seats have one tenant, each seat's own parts are those of the memory
-- that is home or as it was taken, and the memory is home or out with one seat.
pub record IsInTurn (s : State (Option MemoryState) SeatView) : Type 0 where
  pub memory : MemoryState
  pub apart : Apart s.views
  pub agree : Each s.views (λ i view. RemembersParts view memory)
  pub home_or_out : IsHome s memory ⊎ IsOut s memory

-- what a take gives: where it found the memory home it wins, and its seat holds a memory that has
-- its own parts; else it loses, and nothing changes
abbrev pub Takes : Step (Option MemoryState) → Me (Option MemoryState) SeatView → ℕ → Me (Option MemoryState) SeatView → Type 0
Takes step before found after =
    (found ≡ 0 → (memory : MemoryState) × (after ≡ (holding before.0 memory, (0, Some memory) ∷ before.1)) × RemembersParts before.0 memory)
    × (found ≢ 0 → after ≡ before)

-- what a give gives: its seat's parts are those of the memory that it put back
abbrev pub Gives : Step (Option MemoryState) → Me (Option MemoryState) SeatView → ℕ → Me (Option MemoryState) SeatView → Type 0
Gives step before stored after =
    (memory : MemoryState) → before.1 ≡ (0, Some memory) ∷ [] → after ≡ (resting before.0 memory, [])
