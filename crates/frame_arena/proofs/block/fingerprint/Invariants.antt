use Rattle.std.proofs.Common.{◌≡◌, fold, length}
use Rattle.host_types.specs.Pages.{folded}
use Rattle.frame_arena.proofs.block.fingerprint.Given as goal

-- what is left, folded into the fingerprint so far, makes the fingerprint of all bytes
abbrev pub invariant-loop-rest : goal.invariant-loop-rest
invariant-loop-rest l = fold folded l.fingerprint l.rest ≡ fold folded 0 l.page

abbrev pub decreases-loop-rest : goal.decreases-loop-rest
decreases-loop-rest l = length l.rest
