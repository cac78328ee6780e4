use Rattle.std.proofs.Common.{◌≡◌, count_by, ◌≤◌, take}
use Rattle.host_file.specs.HostFile.{is_equals}
use Rattle.host_file.proofs.size.count_equals.Given as goal

-- the count is that of the bytes so far
abbrev pub invariant-loop-byte : goal.invariant-loop-byte
invariant-loop-byte l = (l.count ≡ count_by is_equals (take l.byte-index l.text)) × (l.count ≤ l.byte-index)
