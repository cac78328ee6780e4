-- The parts of a buffer may cross threads as its items and its allocator may.
use Rattle.std.specs.Prelude.{ℕ, ◌+◌, List, [], ◌∷◌, Option, Some, None}
use Rattle.std.specs.Mem.{type_size}
use base.Fraction.{full_share}
use base.Shift.{Keyless}
use denote.RattleType.{RattleType}
use denote.RawPtr.{Ptr, block_ptr, null_ptr}
use denote.Struct.Struct.{exits_of}
use denote.Struct.Owning.{shape, fields, to}
use denote.Param.Send.{IsSend, IsSync, Common, AllSend, part_keyless, owning_send, struct_send, struct_sync, sendable}
use Rattle.core.specs.declared.alloc.Allocator.{Ghosts}
use Rattle.std_alloc.proofs.SendSync.{FreesAnywhere, quiet}
use Rattle.frame_arena.specs.Ownership.{slots, slots_lent, cells_own, cells_lent}
use Rattle.frame_arena.specs.contracts.memory.Cells as Cells
use Rattle.frame_arena.specs.contracts.memory.Deed as Deed

module _ (R : RattleType) where
  slots-Keyless : IsSend R → (b o : ℕ) (cs : List (Option R.Denot)) → Keyless (slots R b o cs)
  slots-Keyless s b o [] = tt
  slots-Keyless s b o (Some x ∷ cs) = (part_keyless R s full_share x b o, slots-Keyless s b (o + type_size R) cs)
  slots-Keyless s b o (None ∷ cs) = (tt, slots-Keyless s b (o + type_size R) cs)

  slots_lent-Common : IsSync R → (b o : ℕ) (cs : List (Option R.Denot)) → Common (slots_lent R b o cs)
  slots_lent-Common y b o [] κ = tt
  slots_lent-Common y b o (Some x ∷ cs) κ = (y.shared x b o κ, slots_lent-Common y b (o + type_size R) cs κ)
  slots_lent-Common y b o (None ∷ cs) κ = (tt, slots_lent-Common y b (o + type_size R) cs κ)

  cells-Keyless : IsSend R → (p : Ptr) (cs : List (Option R.Denot)) → Keyless (cells_own R p cs)
  cells-Keyless s (block_ptr b o) cs = (tt, slots-Keyless s b o cs)
  cells-Keyless s null_ptr cs = tt

  cells_lent-Common : IsSync R → (p : Ptr) (cs : List (Option R.Denot)) → Common (cells_lent R p cs)
  cells_lent-Common y (block_ptr b o) cs κ = (tt, slots_lent-Common y b o cs κ)
  cells_lent-Common y null_ptr cs κ = tt

  pub Cells-send : IsSend R → IsSend (Cells.the_row R)
  Cells-send s =
      let O = Cells.the_type R in let all : AllSend (fields O) = (search sendable, tt) in
      owning_send O all (λ d. cells-Keyless s d.at d.slots) (λ k. quiet (to O) (exits_of k (fields O)) ((struct_send (shape O) all).leaving k))

  pub Cells-sync : IsSync R → IsSync (Cells.the_row R)
  Cells-sync y = let O = Cells.the_type R in record { shared = λ d b o κ. ((struct_sync (shape O) (search sendable, tt)).shared (to O d) b o κ, cells_lent-Common y d.at d.slots κ) }

  module _ (A : RattleType) (g : Ghosts A.Denot) where
    pub Deed-send : FreesAnywhere A.Denot g → IsSend (Deed.the_row R A g)
    Deed-send f =
        let O = Deed.the_type R A g in let all : AllSend (fields O) = (search sendable, tt) in
        owning_send O all (λ d. f.frees d.alloc _ d.at) (λ k. quiet (to O) (exits_of k (fields O)) ((struct_send (shape O) all).leaving k))

    pub Deed-sync : IsSync (Deed.the_row R A g)
    Deed-sync = let O = Deed.the_type R A g in record { shared = λ d b o κ. ((struct_sync (shape O) (search sendable, tt)).shared (to O d) b o κ, tt) }
