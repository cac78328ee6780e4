-- New seats are at rest: in a memory without maps no tenant has an open run, and a new seat holds nothing.
use Rattle.std.proofs.Common.{◌≡◌, ◌≢◌, ◌==◌, ◌<◌, ◌≤◌, ◌+◌, ◌-◌, ◌*◌, ◌∙◌, nat_lt, ℕ, Bool, true, false, List, length, take, drop, ◌++◌, replicate, true≢false, None, IsSome, IfOk, OnOk, OnErr, Result, Ok, Err, ap, refl, sym, subst, arith}
use Rattle.std.proofs.lemmas.Bool.Decides.{nat_tests}
use Rattle.std.proofs.lemmas.List.{get_or_past, length-replicate, take-replicate, drop-replicate, replicate-append-replicate}
use Rattle.atomic_table.specs.Seated.{TableId}
use Rattle.host_types.specs.declared.fault.Fault.{Fault}
use Rattle.host_types.specs.declared.shape.Shape.{Shape}
use Rattle.host_types.specs.Bytes.{part_of, with_part}
use Rattle.host_types.specs.Memory.{FlatMaps, map_at}
use Rattle.host_types.specs.Tenant.{TenantPart, AreFlatMaps, part_dropped}
use Rattle.host_types.specs.declared.options.Options.{Options}
use Rattle.verifier_kinds.proofs.Descriptions.{get_or-one}
use Rattle.page_table.specs.declared.tenant.Tenant.{Tenant}
use Rattle.page_table.specs.State.{MemoryState, new_memory, unreserved_tenant, part}
use Rattle.page_table.specs.Changes.{with_run, without_run, part_created, OtherTenantsUnchanged}
use Rattle.map_helpers.specs.Updates.{part_updated}
use Rattle.turn.specs.Views.{SeatView}
use Rattle.turn.specs.Seats.{SeatState, IsIdle, IsNewSeat, own_part}
use Rattle.tenant_workers.specs.Runs.{IsResting}

-- a new seat of a turn that is lent holds nothing
pub new_idle : (turn lent : TableId) (first end : ℕ) (memory : MemoryState) (seat : SeatState) → lent ≡ turn → IsNewSeat turn first end memory seat → IsIdle lent seat
new_idle turn lent first end memory seat same new = (new.0 ∙ sym same, ap (λ (v : SeatView). v.holds) new.1)

-- a tenant without an open run rests, as its new seat knows it
pub new_resting : (turn : TableId) (t : ℕ) (memory : MemoryState) (seat : SeatState) → IsResting (part memory t) → IsNewSeat turn t (t + 1) memory seat
    → IsResting (own_part seat)
new_resting turn t memory seat rests new = subst IsResting (sym (ap (λ (v : SeatView). part v.seen v.first) new.1)) rests

-- ---- calls between runs leave the tenant at rest

pub created_rests : (result : Result ℕ Fault) (old new : TenantPart) (shape : Shape) → IsResting old → IfOk result (λ m. new ≡ part_created old m shape) → OnErr result (new ≡ old) → IsResting new
created_rests (Ok m) old new shape resting created kept = rw created (record { running = resting.running; reserve = resting.reserve })
created_rests (Err fault) old new shape resting created kept = rw kept resting

pub updated_rests : (result : Result Unit Fault) (old new : TenantPart) (m key : ℕ) (value : List ℕ) → OnOk result (new ≡ part_updated old m key value 0) → OnErr result (new ≡ old) → IsResting old → IsResting new
updated_rests (Ok done) old new m key value updated kept resting = rw updated (record { running = resting.running; reserve = resting.reserve })
updated_rests (Err fault) old new m key value updated kept resting = rw kept resting

pub dropped_rests : (result : Result Unit Fault) (old new : TenantPart) (m : ℕ) → IsResting old → OnOk result (new ≡ part_dropped old m) → OnErr result (new ≡ old) → IsResting new
dropped_rests (Ok done) old new m resting dropped kept = rw dropped (record { running = resting.running; reserve = resting.reserve })
dropped_rests (Err fault) old new m resting dropped kept = rw kept resting

-- ---- memories whose tenants all are at rest

pub new_rests : (frames tenants : ℕ) (options : Options) (t : ℕ) → t < tenants → IsResting (part (new_memory frames tenants options) t)
unfolding part new_memory
new_rests frames tenants options t inside = record {
  running = ap (λ (tenant : Tenant). tenant.running) (get_or-one tenants t unreserved_tenant);
  reserve = ap (λ (tenant : Tenant). tenant.reserve) (get_or-one tenants t unreserved_tenant);
}

-- a map that is made leaves them so
pub made_rests : (old new : MemoryState) (tenants tenant m : ℕ) (shape : Shape) → ((t : ℕ) → t < tenants → IsResting (part old t)) → part new tenant ≡ part_created (part old tenant) m shape → OtherTenantsUnchanged tenant old new
    → (t : ℕ) → t < tenants → IsResting (part new t)
made_rests old new tenants tenant m shape rest created others t inside = by_number (t == tenant) refl
  where
    by_number : (b : Bool) → (t == tenant) ≡ b → IsResting (part new t)
    by_number true same =
        let here : t ≡ tenant = grind (arith, nat_tests) in
        let resting = rest t inside in
        rw (here, created) (record { running = rw here at resting.running; reserve = rw here at resting.reserve })
    by_number false other =
        let apart : t ≢ tenant = grind (arith, nat_tests) in
        rw (others t apart) (rest t inside)
