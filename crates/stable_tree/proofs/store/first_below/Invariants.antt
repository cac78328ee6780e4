use Rattle.std.proofs.Common.{◌≡◌, ◌-◌, ◌<◌, nat_lt, find, length, slice_index_or, All}
use Rattle.stable_tree.specs.Slots.{walk, frames_at}
use Rattle.stable_tree.proofs.store.first_below.Given as goal

-- the first one is among those that are ahead
abbrev pub invariant-loop-passed : goal.invariant-loop-passed
invariant-loop-passed l =
    All (λ slot. slot < length l.frames) (walk (l.groups - l._passed) l.nexts l.slot)
    × All (λ frame. frame < length l.counts) (frames_at l.frames (walk (l.groups - l._passed) l.nexts l.slot))
    × (find (λ frame. nat_lt (slice_index_or l.counts frame 0) l.limit) (frames_at l.frames (walk (l.groups - l._passed) l.nexts l.slot))
    ≡ find (λ frame. nat_lt (slice_index_or l.counts frame 0) l.limit) (frames_at l.frames (walk l.groups l.nexts l.at)))
