-- What bytes end as, once a `&mut` to all of them has ended.
use Rattle.std.specs.Prelude.{ℕ, List, length}
use Rattle.std.specs.Borrow.{Fml, MutBor, Array, Lends, u8}
use Rattle.std.specs.List.{refill}
use Rattle.frame_arena.specs.contracts.bytes.Bytes.{the_row}

-- the last ones written through r
abbrev pub lends_bytes : MutBor (List ℕ) → MutBor (List ℕ) → Fml
lends_bytes b r = Lends the_row (Array u8 0) b r (λ ws. refill (length b.now) b.now ws)
