-- What a run asks has its room: no more frames are needed than are charged.
use Rattle.std.proofs.Common.{◌≡◌, ◌≤◌, ◌<◌, ◌+◌, ◌%◌, false, IfSome, inl, inr, ℕ, List, length, Option, Some, None, option_map, unwrap_or, refl, sym, ap, ◌∙◌, arith}
use Rattle.std.proofs.lemmas.Bool.{cases_lt}
use Rattle.std.proofs.lemmas.List.{get_or_past, length-set}
use Rattle.host_types.specs.declared.shape.Shape.{Shape}
use Rattle.host_types.specs.declared.helper.MapHelper.TheVariants.{Update as Updates}
use Rattle.host_types.specs.Helpers.{helper}
use Rattle.host_types.specs.Memory.{FlatMap, FlatMaps, map_at}
use Rattle.host_types.specs.Sharing.{PageState, is_shared, is_shared_page}
use Rattle.host_types.specs.Tenant.{TenantPart}
use Rattle.bpf_decode.specs.declared.operation.Size.{Size}
use Rattle.bpf_decode.specs.declared.operation.Size.TheVariants.{Byte, HalfWord, Word, DoubleWord}
use Rattle.bpf_decode.specs.Opcodes.{byte_count}
use Rattle.page_table.specs.State.{MemoryState}
use Rattle.page_table.specs.Changes.{with_record, opened, ended, KeepsSettings}
use Rattle.interp.specs.declared.need.Need.TheVariants.{Store, Update}
use Rattle.tenant_runs.specs.Fulfilment.{MayFulfil, answer_for, KeepsSizes}

-- aligned bytes lie in one page
pub in_page : (at : ℕ) (size : Size) → at % byte_count size ≡ 0 → at % 4096 + byte_count size ≤ 4096
in_page at Byte h = omega arith
in_page at HalfWord h = omega arith
in_page at Word h = omega arith
in_page at DoubleWord h = omega arith

-- a load or a store has some bytes, and no more than eight
pub some_bytes : (size : Size) → (1 ≤ byte_count size) × (byte_count size ≤ 8)
some_bytes Byte = (omega arith, omega arith)
some_bytes HalfWord = (omega arith, omega arith)
some_bytes Word = (omega arith, omega arith)
some_bytes DoubleWord = (omega arith, omega arith)

-- a page with a frame of its own shares none
pub own_page : (state : Option PageState) → IfSome state (λ one. is_shared one.status ≡ false) → is_shared_page state ≡ false
own_page None own = refl
own_page (Some state) own = own

-- what a store may be asked of a map
pub store_asked : (owned : TenantPart) (m at number : ℕ) (size : Size) (value : List ℕ) → MayFulfil owned (Store m at size number) value → at % byte_count size ≡ 0
store_asked owned m at number size value may = by_map (map_at owned.maps m) refl
  where
    by_map : (there : Option FlatMap) → map_at owned.maps m ≡ there → at % byte_count size ≡ 0
    by_map None e = absurd (rw e at may)
    by_map (Some flat) e = let asked = rw e at may in asked.aligned

-- the answer of an update
pub update_answered : (owned : TenantPart) (m key flags answer : ℕ) (value : List ℕ) (after : FlatMaps) → MayFulfil owned (Update m key flags) value → helper Updates owned.maps m key value flags ≡ Some (answer, after)
    → answer ≡ answer_for owned (Update m key flags)
unfolding helper
update_answered owned m key flags answer value after may helped = by_map (map_at owned.maps m) refl
  where
    by_map : (there : Option FlatMap) → map_at owned.maps m ≡ there → answer ≡ answer_for owned (Update m key flags)
    by_map None e = absurd (rw e at may)
    by_map (Some flat) e = rw e (sym (ap (λ (o : Option (ℕ × FlatMaps)). (unwrap_or o (answer, after)).0) (rw e at helped)))

-- a map that is there has one of eight numbers
pub there_below : (maps : FlatMaps) (m : ℕ) (shape : Shape) → length maps ≡ 8 → Some shape ≡ option_map (λ (flat : FlatMap). flat.shape) (map_at maps m) → m < 8
there_below maps m shape eight e = elim (cases_lt m 8) [
  | inl less ↦ less
  | inr past ↦ let none : map_at maps m ≡ None = get_or_past maps m None (omega (arith, eight)) in absurd (cc (rw none at e))
]

-- a record of frames, and a run that begins or ends, keep how many tenants and frames there are
pub record_keeps : (old new : MemoryState) (tenant left : ℕ) → new ≡ with_record old tenant left → KeepsSizes old new
record_keeps old new tenant left e = rw e record { tenants = length-set old.tenants tenant _; frames = refl }

pub opened_keeps : (old new : MemoryState) (tenant need : ℕ) → new ≡ opened old tenant need → KeepsSizes old new
opened_keeps old new tenant need e = rw e record { tenants = length-set old.tenants tenant _; frames = refl }

pub ended_keeps : (old new : MemoryState) (tenant : ℕ) → new ≡ ended old tenant → KeepsSizes old new
ended_keeps old new tenant e = rw e record { tenants = length-set old.tenants tenant _; frames = refl }

pub keeps_after : (old middle new : MemoryState) → KeepsSizes old middle → KeepsSettings middle new → KeepsSizes old new
keeps_after old middle new first later = record { tenants = ap length later.tenants ∙ first.tenants; frames = later.frames ∙ first.frames }

pub keeps_twice : (old middle new : MemoryState) → KeepsSizes old middle → KeepsSizes middle new → KeepsSizes old new
keeps_twice old middle new first later = record { tenants = later.tenants ∙ first.tenants; frames = later.frames ∙ first.frames }
