-- The machine value of an `Owner`. Assumes `Logic`.
use Rattle.std.proofs.Common.{ℕ, List, [], ◌∷◌, refl}
use seplogic.Ra.Ura.{Ura}
use mir.Val.{Val, vptr}
use types.Logic.{Logic}
use types.Kit.{Item, Goal, Step, step, ‵, ◌$◌, fjoin, fpack, feq_i}
use denote.RattleType.{Valss}
use denote.Builtin.{RawPtr}
use denote.RawPtr.{block_ptr}
use denote.Steps.{nothing}
use denote.Struct.Struct.{Struct, within}
use denote.Struct.Owning.{shape}
use Rattle.host_handle.proofs.Values.{lone_struct}
use Rattle.host_handle.specs.contracts.owner.Owner as owner

module _ {M : Type 1} {𝓤 : Ura M} {𝓛 : Logic 𝓤} {K : Type 0} {Γ : List (Item 𝓤)} {G : Goal 𝓤 𝓛.H} where
  -- a pointer by itself owns nothing
  pub pointer_in : K → (b o : ℕ)
      → Step K 𝓛 (‵ ((Struct (shape owner.the_type)).own_val (block_ptr b o, tt) (lone_struct (vptr b o) ∷ [])) ∷ Γ) G Γ G
  pointer_in t b o = step (λ s. let v : Val = lone_struct (vptr b o) in
      nothing t $ feq_i t (List Val) (vptr b o ∷ []) (vptr b o ∷ []) refl $ fjoin t $ feq_i t (List Val) (v ∷ []) (v ∷ []) refl $ fjoin t $
      fpack t (Valss (RawPtr ∷ [])) (within (shape owner.the_type) (block_ptr b o, tt) (v ∷ [])) (vptr b o ∷ [], tt) $ s)
