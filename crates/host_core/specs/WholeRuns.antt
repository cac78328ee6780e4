-- Whole runs of a tenant as its functions make them, on one context after the other.
use Rattle.std.specs.Prelude.{◌≡◌, ◌<◌, ◌≤◌, ◌-◌, ℕ, List, length, drop, slice_get, slice_index_or, Option, Some, None, Result, Ok, Err}
use Rattle.host_types.specs.declared.fault.Fault.{Fault}
use Rattle.host_types.specs.Sharing.{Sharing}
use Rattle.page_table.specs.State.{MemoryState}
use Rattle.verifier.specs.Verified.{Accepted}
use Rattle.host_core.specs.declared.reply.Reply.{Reply}
use Rattle.host_core.specs.declared.reply.Reply.TheVariants.{Ended, Refused}
use Rattle.host_core.specs.declared.reply.Stopped.{Stopped}
use Rattle.host_core.specs.declared.tenant.OpenRun.{OpenRun as KeptRun}
use Rattle.host_core.specs.declared.whole_run.Stop.{Stop}
use Rattle.host_core.specs.declared.whole_run.Stop.TheVariants as stop
use Rattle.host_core.specs.World.{Tenant, System}
use Rattle.host_core.specs.Happens.{changed_system}
use Rattle.host_core.specs.HostView.{TenantView, HostView, StandsForTenant, StandsForMemory, StandsForSystem, IsKept, HasMadeRun, HasMadeSteps}
use Rattle.host_core.specs.Many.{context_at, RunsFirst, RunsMany, stopped_by}

-- a tenant that has no open run
abbrev pub idle_tenant : List (Option Accepted) → TenantView
idle_tenant programs = record { programs = programs; run = None }

-- a tenant that has one
abbrev pub busy_tenant : List (Option Accepted) → KeptRun → TenantView
busy_tenant programs kept = record { programs = programs; run = Some kept }

-- The tenant t has these programs and no open run, and v is its program k.
pub record IsReady (programs : List (Option Accepted)) (k : ℕ) (v : Accepted) (t : ℕ) (memory : MemoryState) : Type 0 where
  pub found : slice_index_or programs k None ≡ Some v
  pub kept : IsKept t (idle_tenant programs) memory

-- A run that began goes on: with the last of the steps that are left, a whole run was made.
pub record GoesOn (programs : List (Option Accepted)) (t k : ℕ) (context : List ℕ) (before : MemoryState) (kept : KeptRun) (after : MemoryState) : Type 0 where
  pub is : IsKept t (busy_tenant programs kept) after
  pub whole : (last : Reply) (new : TenantView) (later : MemoryState)
      → HasMadeSteps t (busy_tenant programs kept) after (4294967296 - kept.run.steps) (Some last) new later
      → HasMadeRun t (idle_tenant programs) before k context last new later

-- what a whole run came to: it ended, it goes on, or it wasn't begun
abbrev pub HasComeTo : List (Option Accepted) → ℕ → ℕ → List ℕ → MemoryState → Result (Option ℕ) Fault → KeptRun → MemoryState → Type 0
HasComeTo programs t k context before (Ok (Some ret)) kept after = HasMadeRun t (idle_tenant programs) before k context (Ended ret kept.run.steps) (idle_tenant programs) after
HasComeTo programs t k context before (Ok None) kept after = GoesOn programs t k context before kept after
HasComeTo programs t k context before (Err fault) kept after = HasMadeRun t (idle_tenant programs) before k context (Refused fault) (idle_tenant programs) after

-- Where the program had been run on the first `from` contexts, it has now been run on the first n.
abbrev pub HaveRunFirst : List (Option Accepted) → ℕ → ℕ → List ℕ → ℕ → List ℕ → ℕ → MemoryState → List ℕ → ℕ → MemoryState → Type 0
HaveRunFirst programs t k contexts size rets from before written n after =
    (x : System) (tenant : Tenant) → slice_get x.world t ≡ Some tenant → StandsForTenant (idle_tenant programs) tenant → StandsForMemory before x
    → (next : Tenant) × (sharing : Sharing) × StandsForTenant (idle_tenant programs) next × StandsForMemory after (changed_system x t next sharing)
    × ((first : System) → RunsFirst t k contexts size rets from first x → RunsFirst t k contexts size written n first (changed_system x t next sharing))

-- why no further run was made
abbrev pub StopsWith : List (Option Accepted) → ℕ → ℕ → List ℕ → ℕ → ℕ → ℕ → MemoryState → Stop → KeptRun → MemoryState → Type 0
StopsWith programs t k contexts size count n between stop.AllEnded kept after = (n ≡ count) × (after ≡ between)
StopsWith programs t k contexts size count n between (stop.Open index) kept after =
    (index ≡ n) × (n < count) × HasComeTo programs t k (context_at contexts size n) between (Ok None) kept after
StopsWith programs t k contexts size count n between (stop.Refused index fault) kept after =
    (index ≡ n) × (n < count) × HasComeTo programs t k (context_at contexts size n) between (Err fault) kept after

-- Runs were made on one context after the other, from a number on, and their numbers are written; the others are as they were.
pub record HaveStopped (programs : List (Option Accepted)) (t k : ℕ) (contexts : List ℕ) (size : ℕ) (rets : List ℕ) (from : ℕ) (before : MemoryState) (stopped : Stop) (kept : KeptRun) (after : MemoryState) (written : List ℕ) : Type 0 where
  pub n : ℕ
  pub between : MemoryState
  pub further : from ≤ n
  pub long : length written ≡ length rets
  pub others : drop n written ≡ drop n rets
  pub runs : HaveRunFirst programs t k contexts size rets from before written n between
  pub last : StopsWith programs t k contexts size (length rets) n between stopped kept after

-- how many contexts are done: with Ok more than before; with Err fewer than there are
abbrev pub EndsAt : ℕ → ℕ → ℕ → Result ℕ Stopped → Type 0
EndsAt count from n (Ok ended) = (n ≡ ended) × (from < n) × (n ≤ count)
EndsAt count from n (Err stopped) = (n ≡ stopped.ended) × (from ≤ n) × (n < count)

-- what such runs of a tenant do to it
pub record HasMadeRuns (t : ℕ) (old : TenantView) (before : MemoryState) (k : ℕ) (contexts : List ℕ) (size : ℕ) (rets : List ℕ) (from : ℕ) (result : Result ℕ Stopped) (new : TenantView) (after : MemoryState) (written : List ℕ) : Type 0 where
  pub n : ℕ
  pub ends : EndsAt (length rets) from n result
  pub long : length written ≡ length rets
  pub others : drop n written ≡ drop n rets
  pub runs : (x : System) (tenant : Tenant) → slice_get x.world t ≡ Some tenant → StandsForTenant old tenant → StandsForMemory before x
      → (next : Tenant) × (sharing : Sharing) × StandsForTenant new next × StandsForMemory after (changed_system x t next sharing)
      × ((first : System) → RunsFirst t k contexts size rets from first x → RunsMany t k contexts size written n (stopped_by result) first (changed_system x t next sharing))

-- and what they do to a host
pub record HaveRunFrom (t k : ℕ) (contexts : List ℕ) (size : ℕ) (rets : List ℕ) (from : ℕ) (result : Result ℕ Stopped) (old new : HostView) (written : List ℕ) : Type 0 where
  pub n : ℕ
  pub ends : EndsAt (length rets) from n result
  pub long : length written ≡ length rets
  pub others : drop n written ≡ drop n rets
  pub runs : (x : System) → StandsForSystem old x
      → (next : System) × StandsForSystem new next
      × ((first : System) → RunsFirst t k contexts size rets from first x → RunsMany t k contexts size written n (stopped_by result) first next)
