use Rattle.std.proofs.Common.{◌≡◌, ◌+◌, ◌≤◌, true, length}
use Rattle.page_table.specs.State.{MemoryState, part, map_bytes, have_of}
use Rattle.write_break.specs.Stores.{store_frames, IsStored}
use Rattle.write_break.proofs.access.store_bytes_as.Given as goal

-- what is left to write leads to the same end
abbrev pub invariant-loop-rest : goal.invariant-loop-rest
invariant-loop-rest l = record {
  small : l.offset + length l.rest ≤ 1048576;
  within : l.offset + length l.rest ≤ length (map_bytes (part l.memory l.tenant) l.map);
  room : store_frames l.memory.sharing l.tenant l.map l.offset (length l.rest) ≤ have_of l.memory;
  run : l.is_pinned ≡ true → (part l.memory l.tenant).running ≡ true;
  same_end : (end : MemoryState) → IsStored l.is_pinned l.memory end l.tenant l.map l.offset l.rest → IsStored l.is_pinned l.fn.memory end l.tenant l.map l.fn.at l.fn.bytes;
}

abbrev pub decreases-loop-rest : goal.decreases-loop-rest
decreases-loop-rest l = length l.rest
