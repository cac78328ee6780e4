-- A whole run for which nothing is recorded as reserved: it is one of the memory with what it may need recorded.
use Rattle.std.proofs.Common.{◌≡◌, ℕ, ◌+◌, ◌<◌, ◌≤◌, List, Option, length, true, refl, sym, ap, ◌∙◌, arith}
use Rattle.std.proofs.lemmas.List.{get_or-set_same, get_or-set_other, length-set}
use Rattle.std.proofs.lemmas.List.Sums.{sum_by-set}
use Rattle.host_types.specs.Tenant.{TenantPart}
use Rattle.page_table.specs.declared.tenant.Tenant.{Tenant as Recorded}
use Rattle.page_table.specs.Changes.{OtherTenantsUnchanged, opened, with_run}
use Rattle.page_table.specs.Reads.{ReadsAs}
use Rattle.page_table.specs.State.{MemoryState, part, have_of, free_of, unreserved_tenant}
use Rattle.verifier.specs.Reserve.{reserve_from}
use Rattle.verifier.specs.Writes.{writes_from}
use Rattle.verifier.specs.Verified.{Accepted}
use Rattle.admission.specs.Reserve.{needed_by, needed_from}
use Rattle.admission.proofs.Falling.{needed_falls}
use Rattle.interp.specs.Machine.{MachineState}
use Rattle.tenant_runs.specs.Storing.{maps_of_part}
use Rattle.tenant_runs.specs.Fulfilment.{KeepsSizes}
use Rattle.tenant_runs.proofs.Rooms.{opened_keeps}
use Rattle.host_core.specs.declared.tenant.OpenRun.{OpenRun as KeptRun}
use Rattle.host_core.specs.Batches.{IsUnderWayAt, IsStarted, needed_in, reserved_of}
use Rattle.host_core.proofs.Advances.{needed_of_part}
use Rattle.host_core.proofs.Opening.{HasAdmitted}

module _ (v : Accepted) (t : ℕ) (memory : MemoryState) (reads : ReadsAs memory) (inside : t < length memory.tenants) (eight : length (part memory t).maps ≡ 8) (idle : (part memory t).reserve ≡ 0)
    (enough : needed_from v (part memory t) 0 ≤ have_of memory) where
  abbrev need : ℕ
  need = needed_from v (part memory t) 0

  -- the memory with what the run may need recorded
  abbrev pub with_need : MemoryState
  with_need = opened memory t need

  -- what is reserved for all once a run is open
  sums : (reserve : ℕ) → reserved_of (opened memory t reserve) ≡ reserved_of memory + reserve
  unfolding part
  sums reserve =
      let set = sum_by-set (λ (tenant : Recorded). tenant.reserve) memory.tenants t (record { reserve = reserve; running = true }) unreserved_tenant inside in
      omega (arith, set, idle)

  -- it is recorded of the tenant alone
  pub recorded : part with_need t ≡ with_run need (part memory t)
  unfolding part
  recorded = ap (λ (tenant : Recorded). record (part memory t) { reserve = tenant.reserve; running = tenant.running }) (get_or-set_same memory.tenants t (record { reserve = need; running = true }) unreserved_tenant inside)

  pub others : OtherTenantsUnchanged t memory with_need
  unfolding part
  others u other = ap (λ (tenant : Recorded). record (part memory u) { reserve = tenant.reserve; running = tenant.running }) (get_or-set_other memory.tenants t u (record { reserve = need; running = true }) unreserved_tenant other)

  same_tenants : length with_need.tenants ≡ length memory.tenants
  same_tenants = length-set memory.tenants t _

  pub reads_with : ReadsAs with_need
  reads_with =
      let most = reads.reserved in
      let sum = sums need in
      record {
        one_frame = reads.one_frame;
        zero_frame = reads.zero_frame;
        zeros = reads.zeros;
        numbered = reads.numbered;
        there = reads.there;
        free = reads.free;
        reserved = omega (arith, most, sum, enough);
        bytes = reads.bytes;
        paged = reads.paged;
        eight = rw same_tenants reads.eight;
        page_indices = rw same_tenants reads.page_indices;
        pinned = reads.pinned;
        groups = reads.groups;
        ahead = reads.ahead;
      }

  pub admitted : HasAdmitted t memory with_need v
  admitted = record { enough = enough; recorded = recorded; all = refl; others = others; reads = reads_with }

  module _ (released : MemoryState) (opens : part released t ≡ with_run 0 (part memory t)) (all : released ≡ opened memory t 0) where
    -- the beginning of its steps
    pub begins : (programs : List (Option Accepted)) (kept : KeptRun) (s : MachineState) → IsUnderWayAt programs kept v s (part with_need t) → ReadsAs released → IsStarted v t s with_need released
    begins programs kept s under reads' =
        let own : (part with_need t).reserve ≡ needed_in v t with_need.sharing s = under.reserve ∙ needed_of_part v t with_need s under.maps in
        let whole : (part with_need t).reserve ≡ need = ap (λ (o : TenantPart). o.reserve) recorded in
        let sum = sums need in
        let none : reserved_of released ≡ reserved_of memory + 0 = ap reserved_of all ∙ sums 0 in
        let same_maps : (part released t).maps ≡ (part with_need t).maps = ap (λ (o : TenantPart). o.maps) opens ∙ sym (ap (λ (o : TenantPart). o.maps) recorded) in
        let maps : maps_of_part t released ≡ s.memory.maps = same_maps ∙ under.maps in
        let free : free_of released ≡ free_of memory = ap (λ (m : MemoryState). free_of m) all in
        record {
          sharing = ap (λ (m : MemoryState). m.sharing) all;
          frames = ap (λ (m : MemoryState). length m.arena) all;
          eight = ap (λ (o : TenantPart). length o.maps) opens ∙ eight;
          all = omega (arith, own, whole, sum, none);
          reads = reads';
          roomy = record {
            maps = maps;
            room = λ less fewer few among.
                let same : needed_by less fewer (part released t) ≡ needed_by less fewer (part with_need t) = ap (needed_by less fewer) opens ∙ sym (ap (needed_by less fewer) recorded) in
                let falls : needed_by less fewer (part with_need t) ≤ needed_from v (part with_need t) s.slot = needed_falls (reserve_from v s.slot) less (writes_from v s.slot) fewer (part with_need t) few among in
                let reserve = under.reserve in
                record { running = ap (λ (o : TenantPart). o.running) opens; frames = omega (arith, same, falls, reserve, whole, enough, none, free) };
          };
        }

    -- what later steps keep of it
    pub others_later : (later : MemoryState) → OtherTenantsUnchanged t memory released → OtherTenantsUnchanged t released later → OtherTenantsUnchanged t with_need later
    others_later later first second u other = second u other ∙ first u other ∙ sym (others u other)

    pub sizes_later : (later : MemoryState) → KeepsSizes released later → KeepsSizes with_need later
    sizes_later later sizes =
        let before = opened_keeps memory with_need t need refl in
        let first = opened_keeps memory released t 0 all in
        record { tenants = sizes.tenants ∙ first.tenants ∙ sym before.tenants; frames = sizes.frames ∙ first.frames ∙ sym before.frames }
