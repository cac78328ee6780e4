use Rattle.std.proofs.Common.{◌≡◌, count_by, ◌≤◌, take}
use Rattle.host_file.specs.HostFile.{opens}
use Rattle.host_file.proofs.size.count_openings.Given as goal

-- the count is that of the bytes so far
abbrev pub invariant-loop-byte : goal.invariant-loop-byte
invariant-loop-byte l = (l.count ≡ count_by opens (take l.byte-index l.text)) × (l.count ≤ l.byte-index)
