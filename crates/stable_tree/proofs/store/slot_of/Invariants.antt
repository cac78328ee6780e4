use Rattle.std.proofs.Common.{◌≡◌, ◌≢◌, ℕ, ◌+◌, ◌-◌, ◌<◌, length, slice_index_or, All}
use Rattle.stable_tree.specs.Slots.{walk}
use Rattle.stable_tree.proofs.store.slot_of.Given as goal

-- the frame isn't at a slot that was passed, and the others are still ahead
abbrev pub invariant-loop-passed : goal.invariant-loop-passed
invariant-loop-passed l =
    All (λ slot. slot < length l.frames) (walk (l.groups - l.passed) l.nexts l.slot)
    × ((j : ℕ) → slice_index_or (walk l.groups l.nexts l.at) (l.passed + j) 0 ≡ slice_index_or (walk (l.groups - l.passed) l.nexts l.slot) j 0)
    × ((i : ℕ) → i < l.passed → slice_index_or l.frames (slice_index_or (walk l.groups l.nexts l.at) i 0) 0 ≢ l.frame)
