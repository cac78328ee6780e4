-- What becomes of the chains where a group comes or goes.
use Rattle.std.specs.Prelude.{◌≡◌, ◌≢◌, ℕ, true, false, List, [], ◌∷◌, ◌++◌, ◌<◌, ◌≤◌, length, insert, remove, filter, All, slice_index_or, slice_set, Option, None, Some}
use Rattle.std.specs.List.{concat}
use Rattle.frame_arena.specs.Pages.{page_at}
use Rattle.stable_tree.specs.declared.store.Store.{Store}
use Rattle.stable_tree.specs.Groups.{IsCutAt, is_there, has}
use Rattle.stable_tree.specs.Slots.{IsHead, IsWithout, chain_at, chains_in}

-- a slot at which the chain of a content hangs
pub record IsFound (arena : List (List ℕ)) (frame : ℕ) (store : Store) (at : ℕ) : Type 0 where
  pub k : ℕ
  pub cut : IsCutAt arena (page_at arena frame) (chains_in store) k
  pub there : is_there arena (page_at arena frame) (chains_in store) k ≡ true
  pub chain : slice_index_or (chains_in store) k [] ≡ chain_at store.frames.items store.nexts.items store.sizes.items at
  pub head : IsHead store at

-- no chain has the content
pub record IsMissing (arena : List (List ℕ)) (frame : ℕ) (chains : List (List ℕ)) : Type 0 where
  pub k : ℕ
  pub cut : IsCutAt arena (page_at arena frame) chains k
  pub absent : is_there arena (page_at arena frame) chains k ≡ false

abbrev pub IsSearchAnswer : List (List ℕ) → ℕ → Store → Option ℕ → Type 0
IsSearchAnswer arena frame store None = IsMissing arena frame (chains_in store)
IsSearchAnswer arena frame store (Some at) = IsFound arena frame store at

-- a group is put in, where its content had so many before
pub data IsPut (arena : List (List ℕ)) (frame : ℕ) (old new : List (List ℕ)) (before : ℕ) : Type 0 where
  added : (k : ℕ) → IsCutAt arena (page_at arena frame) old k → is_there arena (page_at arena frame) old k ≡ false
      → new ≡ insert old k (frame ∷ []) → before ≡ 0 → IsPut arena frame old new before
  lengthened : (k : ℕ) → IsCutAt arena (page_at arena frame) old k → is_there arena (page_at arena frame) old k ≡ true
      → new ≡ slice_set old k (slice_index_or old k [] ++ frame ∷ []) → before ≡ length (slice_index_or old k []) → IsPut arena frame old new before

-- a group is taken out, where its content had so many before; none where it wasn't there
pub data IsTakenOut (arena : List (List ℕ)) (frame : ℕ) (old new : List (List ℕ)) (before : ℕ) : Type 0 where
  nowhere : All (λ group. group ≢ frame) (filter (has arena (page_at arena frame)) (concat old)) → new ≡ old → before ≡ 0 → IsTakenOut arena frame old new before
  alone : (k : ℕ) → k < length old → length (slice_index_or old k []) ≡ 1 → slice_index_or (slice_index_or old k []) 0 0 ≡ frame
      → new ≡ remove old k → before ≡ 1 → IsTakenOut arena frame old new before
  shortened : (k slot : ℕ) → k < length old → slot < length (slice_index_or old k []) → slice_index_or (slice_index_or old k []) slot 0 ≡ frame
      → 2 ≤ length (slice_index_or old k []) → new ≡ slice_set old k (remove (slice_index_or old k []) slot) → before ≡ length (slice_index_or old k []) → IsTakenOut arena frame old new before

-- a frame is taken out of the groups that hang at a slot, where there were so many; none where it wasn't there
pub data IsShortened (old new : Store) (at frame before : ℕ) : Type 0 where
  missing : All (λ group. group ≢ frame) (chain_at old.frames.items old.nexts.items old.sizes.items at) → chains_in new ≡ chains_in old → before ≡ 0 → IsShortened old new at frame before
  shorter : (j : ℕ) → j < slice_index_or old.sizes.items at 0 → slice_index_or (chain_at old.frames.items old.nexts.items old.sizes.items at) j 0 ≡ frame → 2 ≤ slice_index_or old.sizes.items at 0
      → IsWithout old new at j → before ≡ slice_index_or old.sizes.items at 0 → IsShortened old new at frame before
