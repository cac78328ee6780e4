use Rattle.std.proofs.Common.{◌≡◌, ◌+◌, ◌-◌, ◌<◌, length, All}
use Rattle.stable_tree.specs.Slots.{walk, end}
use Rattle.stable_tree.proofs.store.last_of.Given as goal

-- the last one is as far as there are groups left
abbrev pub invariant-loop-passed : goal.invariant-loop-passed
invariant-loop-passed l =
    (end (l.groups - l._passed) l.nexts l.last ≡ end (l.groups - 1) l.nexts l.at)
    × All (λ slot. slot < length l.nexts) (walk (l.groups - l._passed + 1) l.nexts l.last)
