use Rattle.std.proofs.Common.{◌≡◌, fold, take}
use Rattle.host_types.specs.Pages.{folded}
use Rattle.reference_sharing.proofs.contents.fingerprint.Given as goal

abbrev pub invariant-loop-byte : goal.invariant-loop-byte
invariant-loop-byte l = l.fingerprint ≡ fold folded 0 (take l.byte-index l.bytes)
