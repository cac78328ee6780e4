use Rattle.std.proofs.Common.{◌≡◌, fold, take}
use Rattle.host_types.specs.Pages.{folded}
use Rattle.frame_arena.proofs.block.with_each.Given as goal

abbrev pub invariant-loop-byte : goal.invariant-loop-byte
invariant-loop-byte l = l.fingerprint ≡ fold folded l.fn.fingerprint (take l.byte-index l.bytes)
