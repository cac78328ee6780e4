-- What an update without a flag answers.
use Rattle.std.proofs.Common.{◌≡◌, ◌∙◌, ℕ, ◌*◌, ◌<◌, ◌==◌, nat_le, if◌then◌else◌, Bool, true, false, List, length, Option, Some, None, IsSomeAnd, refl, sym, ap, arith}
use Rattle.std.proofs.lemmas.Bool.Decides.{nat_tests}
use Rattle.host_types.specs.declared.helper.MapHelper.TheVariants.{Update}
use Rattle.host_types.specs.declared.shape.Shape.{Shape}
use Rattle.host_types.specs.Bytes.{part_of}
use Rattle.host_types.specs.Helpers.{helper, element_at, update_answer, maps_updated}
use Rattle.host_types.specs.Memory.{FlatMap, FlatMaps, map_at}
use Rattle.host_types.specs.Sharing.{Sharing}
use Rattle.host_types.specs.Tenant.{TenantPart}
use Rattle.page_table.specs.Changes.{with_pins}
use Rattle.page_table.specs.State.{MemoryState, part}
use Rattle.write_break.specs.Stores.{touched, page_of_byte, with_pins_of, stored_sharing}
use Rattle.write_break.proofs.Stores.{pins-none}
use Rattle.map_helpers.specs.Updates.{part_updated, sharing_in, updated_sharing_as}
use Rattle.host_calls.specs.Calls.{FitsValue}

-- it is 0 where the element is there
answer-zero : (shape : Shape) (key : ℕ) → key < shape.entries → update_answer shape key 0 ≡ 0
unfolding update_answer
answer-zero shape key there = let past : nat_le shape.entries key ≡ false = grind (arith, nat_tests) in rw (past) refl

abbrev answer-in : Option (ℕ × FlatMaps) → ℕ
answer-in None = 0
answer-in (Some (answer, after)) = answer

-- so the helper answers 0, whatever it was seen to answer
pub helps : (owned : TenantPart) (m key : ℕ) (value : List ℕ) (answer : ℕ) (after : FlatMaps) → FitsValue owned m key value
    → helper Update owned.maps m key value 0 ≡ Some (answer, after) → helper Update owned.maps m key value 0 ≡ Some (0, after)
unfolding helper
helps owned m key value answer after fits helped = by_map (map_at owned.maps m) refl fits helped
  where
    by_map : (found : Option FlatMap) → map_at owned.maps m ≡ found
        → IsSomeAnd found (λ flat. (key < flat.shape.entries) × (length value ≡ flat.shape.value_size))
        → helper Update owned.maps m key value 0 ≡ Some (answer, after) → helper Update owned.maps m key value 0 ≡ Some (0, after)
    by_map None e fits helped = absurd fits
    by_map (Some flat) e fits helped =
        let zero : update_answer flat.shape key 0 ≡ 0 = answer-zero flat.shape key fits.0 in
        let is : helper Update owned.maps m key value 0 ≡ Some (update_answer flat.shape key 0, maps_updated owned.maps m key value 0) = rw (e) refl in
        let same : answer ≡ 0 = ap answer-in (sym helped ∙ is) ∙ zero in
        helped ∙ ap (λ (n : ℕ). Some (n, after)) same

-- an update that no run makes pins nothing
pins-none_open : (found : Option FlatMap) (s : Sharing) (t m key flags : ℕ) → (sharing_in found false s t m key flags).pins ≡ s.pins
unfolding sharing_in
pins-none_open None s t m key flags = refl
pins-none_open (Some flat) s t m key flags = either (update_answer flat.shape key flags == 0)
  where
    either : (b : Bool) → (if b then stored_sharing false s t m (element_at flat.shape key) flat.shape.value_size else s).pins ≡ s.pins
    either true = pins-none s (page_of_byte t m (element_at flat.shape key)) (touched (element_at flat.shape key) flat.shape.value_size)
    either false = refl

-- so the tenant's part is what the update makes of it
pub unpinned : (old new : MemoryState) (t m key flags : ℕ) (value : List ℕ) → new.sharing ≡ updated_sharing_as false (part old t) old.sharing t m key flags
    → with_pins_of new.sharing t (part_updated (part old t) m key value flags) ≡ part_updated (part old t) m key value flags
unfolding part
unpinned old new t m key flags value shares =
    let pins : new.sharing.pins ≡ old.sharing.pins =
    ap (λ (s : Sharing). s.pins) shares ∙ pins-none_open (map_at (part old t).maps m) old.sharing t m key flags in
    ap (λ (pins : List Bool). with_pins (part_of pins (t * 2048) 2048) (part_updated (part old t) m key value flags)) pins
