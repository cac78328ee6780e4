-- Buffers that take bytes at their beginning.
use Rattle.std.proofs.Common.{◌≡◌, ℕ, ◌+◌, List, ◌++◌, length, drop, refl, arith}
use Rattle.host_types.specs.Bytes.{with_part}

-- what is written at the beginning, and what stood after it
pub front_there : (bytes old new : List ℕ) → new ≡ bytes → new ++ drop (length bytes) old ≡ with_part old 0 bytes
unfolding with_part
front_there bytes old new is =
    let start : 0 + length bytes ≡ length bytes = omega arith in
    rw (start, is) refl
