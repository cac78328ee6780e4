-- What holds of a block of bytes.
use Rattle.std.specs.Prelude.{◌≡◌, ℕ, length, map, Some}
use denote.RawPtr.{Ptr}
use Rattle.frame_arena.specs.Offsets.{somes}
use Rattle.frame_arena.specs.declared.memory.Cells.{Cells}
use Rattle.frame_arena.specs.declared.memory.Deed.{Deed}

-- each of the cells at this address holds a byte, and the right to free them is that of their allocator
pub record IsBlock {A : Type 0} (at : Ptr) (len : ℕ) (cells : Cells ℕ) (deed : Deed ℕ A) (alloc : A) : Type 0 where
  pub filled : cells.slots ≡ map Some (somes cells.slots)
  pub sized : length cells.slots ≡ len
  pub here : cells.at ≡ at
  pub freed : deed.at ≡ at
  pub whole : deed.len ≡ len
  pub owner : deed.alloc ≡ alloc
