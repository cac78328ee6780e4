use Rattle.std.proofs.Common.{◌≡◌, ◌≤◌, ◌-◌, ◌%◌, take, replicate}
use Rattle.frame_arena.proofs.lanes.is_zero.Given as goal

-- the page is zeros so far
abbrev pub invariant-loop-at : goal.invariant-loop-at
invariant-loop-at l = (l.at ≤ 4096) × (l.at % 256 ≡ 0) × (take l.at l.page ≡ replicate l.at 0)

abbrev pub decreases-loop-at : goal.decreases-loop-at
decreases-loop-at l = 4096 - l.at
