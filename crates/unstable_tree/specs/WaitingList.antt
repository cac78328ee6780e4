-- The pages that wait for another page of the same bytes (this project's own rule, in the manner of
-- the unstable tree of Linux's KSM).
use Rattle.std.specs.Prelude.{ℕ, ◌≢◌, ◌==◌, ◌&&◌, Bool, List, ◌<◌, ◌≤◌, slice_index_or}
use Rattle.std.specs.Str.{bytes_eq}
use Rattle.frame_arena.specs.Pages.{page_at}
use Rattle.unstable_tree.specs.declared.tree.Waiter.{Waiter}

-- the waiting pages in order of insertion, and for how many pages there is room
pub record WaitingList : Type 0 where
  pub listed : List Waiter
  pub room : ℕ

-- a waiting page has the recorded fingerprint, and its frame has the bytes
abbrev pub is_match : List (List ℕ) → ℕ → List ℕ → Waiter → Bool
is_match arena fingerprint bytes waiter = waiter.fingerprint == fingerprint && bytes_eq (page_at arena waiter.frame) bytes

abbrev pub no_waiter : Waiter
no_waiter = record { page_index = 0; frame = 0; fingerprint = 0 }

-- no page from an index on and before another has the recorded fingerprint
abbrev pub AreOthers : ℕ → List Waiter → ℕ → ℕ → Type 0
AreOthers fingerprint waiters first end = (i : ℕ) → first ≤ i → i < end → (slice_index_or waiters i no_waiter).fingerprint ≢ fingerprint

-- the page of an index isn't one of those from an index on and before another
abbrev pub AreElsewhere : ℕ → List Waiter → ℕ → ℕ → Type 0
AreElsewhere page_index waiters first end = (i : ℕ) → first ≤ i → i < end → (slice_index_or waiters i no_waiter).page_index ≢ page_index
