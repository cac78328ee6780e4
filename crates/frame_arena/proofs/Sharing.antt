-- A `&` to the cells is made where one to an item is. Assumes `Logic`.
use Prim.Native.Nat.{ℕ, ◌+◌}
use Rattle.std.specs.Prelude.{List, [], ◌∷◌, Option, Some, None}
use Rattle.std.specs.Mem.{type_size}
use seplogic.Ra.Ura.{Ura}
use base.Fml.{Lft, Incl, ftrue, ffalse}
use types.Logic.{Logic}
use denote.RattleType.{RattleType, RowLaws}
use denote.Param.Laws.{Laws}
use denote.RawPtr.{Ptr, block_ptr, null_ptr}
use denote.Sharing.{ShrLaws, said}
use denote.SharingLaws.{beside_shr_laws, nothing_shr_laws, said_shr_laws}
use denote.Shares.{Shares-less}
use denote.Struct.Lending.{Lends, Lends-both, Lends-nothing, Lends-said, Lends-false}
use Rattle.frame_arena.specs.Ownership.{slot, slots, slot_lent, slots_lent, fit, cells_own, cells_lent}

module _ (R : RattleType) (L : RowLaws R) where
  slot_lent_laws : (b o : ℕ) (c : Option R.Denot) → ShrLaws (slot_lent R b o c)
  slot_lent_laws b o (Some x) = L x b o
  slot_lent_laws b o None = nothing_shr_laws

  slots_lent_laws : (b o : ℕ) (cs : List (Option R.Denot)) → ShrLaws (slots_lent R b o cs)
  slots_lent_laws b o [] = nothing_shr_laws
  slots_lent_laws b o (c ∷ cs) = beside_shr_laws _ _ (slot_lent_laws b o c) (slots_lent_laws b (o + type_size R) cs)

  pub cells_lent_laws : (p : Ptr) (cs : List (Option R.Denot)) → ShrLaws (cells_lent R p cs)
  cells_lent_laws (block_ptr b o) cs = beside_shr_laws _ _ (said_shr_laws (fit R cs) tt) (slots_lent_laws b o cs)
  cells_lent_laws null_ptr cs = said_shr_laws ffalse tt

module _ {M : Type 1} {𝓤 : Ura M} (𝓛 : Logic 𝓤) (l : Lft) (R : RattleType) (L : Laws R) (inc : Incl l R.lives) where
  Lends-slot : (b o : ℕ) (c : Option R.Denot) → Lends 𝓛 (slot R b o c) (slot_lent R b o c) l
  Lends-slot b o (Some x) = λ κ ts. Shares-less 𝓛 R R.lives l inc (L.shares 𝓛) x κ ts b o
  Lends-slot b o None = Lends-nothing 𝓛 (slot R b o None) l

  Lends-slots : (b o : ℕ) (cs : List (Option R.Denot)) → Lends 𝓛 (slots R b o cs) (slots_lent R b o cs) l
  Lends-slots b o [] = Lends-nothing 𝓛 ftrue l
  Lends-slots b o (c ∷ cs) =
      Lends-both 𝓛 (slot R b o c) (slots R b (o + type_size R) cs) (slot_lent R b o c) (slots_lent R b (o + type_size R) cs) l (Lends-slot b o c) (Lends-slots b (o + type_size R) cs)

  pub Lends-cells : (p : Ptr) (cs : List (Option R.Denot)) → Lends 𝓛 (cells_own R p cs) (cells_lent R p cs) l
  Lends-cells (block_ptr b o) cs = Lends-both 𝓛 (fit R cs) (slots R b o cs) (said (fit R cs)) (slots_lent R b o cs) l (Lends-said 𝓛 (fit R cs) tt l) (Lends-slots b o cs)
  Lends-cells null_ptr cs = Lends-false 𝓛 (said ffalse) l
