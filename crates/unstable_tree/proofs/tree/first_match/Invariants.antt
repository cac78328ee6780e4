use Rattle.std.proofs.Common.{◌≡◌, find, drop}
use Rattle.frame_arena.specs.Pages.{page_at}
use Rattle.unstable_tree.specs.WaitingList.{is_match}
use Rattle.unstable_tree.proofs.tree.first_match.Given as goal

-- the earliest match is among the pages that are left
abbrev pub invariant-loop-waiter : goal.invariant-loop-waiter
invariant-loop-waiter l =
    find (is_match l.arena l.fingerprint (page_at l.arena l.frame)) (drop l.waiter-index l.waiters)
    ≡ find (is_match l.arena l.fingerprint (page_at l.arena l.frame)) l.waiters
