-- The tenants of a new memory have eight entries without a map, and no open run.
use Rattle.std.proofs.Common.{◌≡◌, ◌+◌, ◌*◌, ◌-◌, ◌∙◌, ◌<◌, ℕ, Bool, false, ap, List, length, take, drop, replicate, get_or, All, Option, None, arith}
use Rattle.std.specs.Prelude.{IfSome, slice_get}
use Rattle.std.proofs.lemmas.List.{take-replicate, drop-replicate}
use Rattle.atomic_table.specs.Seated.{TableId}
use Rattle.host_types.specs.declared.options.Options.{Options}
use Rattle.host_types.specs.Bytes.{part_of}
use Rattle.host_types.specs.Memory.{FlatMap, FlatMaps}
use Rattle.host_types.specs.Tenant.{TenantPart}
use Rattle.verifier_kinds.proofs.Descriptions.{get_or-one}
use Rattle.page_table.specs.declared.tenant.Tenant.{Tenant}
use Rattle.page_table.specs.State.{MemoryState, new_memory, part, unreserved_tenant}
use Rattle.turn.specs.declared.view.View.{View}
use Rattle.turn.specs.Seats.{SeatState, IsNewSeat}
use Rattle.tenant_workers.proofs.Resting.{new_idle}
use Rattle.serving.specs.AtFirst.{IsAtFirst, first_part}
use Rattle.serving.proofs.Indices.{index-of}

-- eight of the indices, all of which have the same
eight-of : {X : Type 0} (x : X) (tenants t : ℕ) → t < tenants → take 8 (drop (t * 8) (replicate (tenants * 8) x)) ≡ replicate 8 x
eight-of x tenants t within = rw (drop-replicate (t * 8) (tenants * 8) x) (take-replicate 8 (tenants * 8 - t * 8) x (omega (arith, within)))

abbrev no-map : Option FlatMap
no-map = None

-- and the indices of its pages
entry_indices-of : {X : Type 0} (x : X) (tenants t : ℕ) → t < tenants → take 2048 (drop (t * 2048) (replicate (tenants * 2048) x)) ≡ replicate 2048 x
entry_indices-of x tenants t within = rw (drop-replicate (t * 2048) (tenants * 2048) x) (take-replicate 2048 (tenants * 2048 - t * 2048) x (omega (arith, within)))

abbrev part-by : FlatMaps → Tenant → List Bool → TenantPart
part-by maps tenant pins = record { maps = maps; reserve = tenant.reserve; running = tenant.running; pins = pins }

part-new : (frames tenants : ℕ) (options : Options) (t : ℕ) → t < tenants → part (new_memory frames tenants options) t ≡ first_part
unfolding part new_memory part_of
part-new frames tenants options t within =
    ap (λ maps. part-by maps (get_or (replicate tenants unreserved_tenant) t unreserved_tenant) (take 2048 (drop (t * 2048) (replicate (tenants * 2048) false)))) (eight-of no-map tenants t within)
    ∙ ap (λ tenant. part-by (replicate 8 None) tenant (take 2048 (drop (t * 2048) (replicate (tenants * 2048) false)))) (get_or-one tenants t unreserved_tenant)
    ∙ ap (part-by (replicate 8 None) unreserved_tenant) (entry_indices-of false tenants t within)

-- the seat of a tenant of such a memory
at-first : (frames tenants : ℕ) (options : Options) (memory : MemoryState) → ((t : ℕ) → part memory t ≡ part (new_memory frames tenants options) t)
    → (turn lent : TableId) → lent ≡ turn → (t : ℕ) (seat : SeatState) → t < tenants → IsNewSeat turn t (t + 1) memory seat → IsAtFirst lent seat
at-first frames tenants options memory as_new turn lent same t seat within new = record {
  idle = new_idle turn lent t (t + 1) memory seat same new;
  first = ap (λ (v : View). part v.seen v.first) new.1 ∙ as_new t ∙ part-new frames tenants options t within;
}

pub all_at_first : (frames tenants : ℕ) (options : Options) (memory : MemoryState) → ((t : ℕ) → part memory t ≡ part (new_memory frames tenants options) t)
    → (turn lent : TableId) → lent ≡ turn
    → (seats : List SeatState) → length seats ≡ tenants → ((t : ℕ) → IfSome (slice_get seats t) (IsNewSeat turn t (t + 1) memory)) → All (IsAtFirst lent) seats
all_at_first frames tenants options memory as_new turn lent same seats many each t seat within =
    at-first frames tenants options memory as_new turn lent same t (get_or seats t seat) (omega (arith, within, many))
    (index-of (λ t. IsNewSeat turn t (t + 1) memory) seats each t seat within)
