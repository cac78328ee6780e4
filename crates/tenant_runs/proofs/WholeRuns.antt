-- A run from its beginning to its end is one of the standard's machine.
use Rattle.std.proofs.Common.{◌≡◌, ◌≤◌, ◌+◌, true, ℕ, List, length, sym, ap, ◌∙◌, arith}
use Rattle.host_types.specs.Tenant.{TenantPart, AreFlatMaps}
use Rattle.bpf_decode.specs.Text.{instructions_of}
use Rattle.page_table.specs.Changes.{with_run, without_run}
use Rattle.admission.specs.Reserve.{needed_from}
use Rattle.verifier.specs.Named.{named_shapes}
use Rattle.verifier.specs.Verified.{Accepted}
use Rattle.interp.specs.Fits.{HaveShapes}
use Rattle.interp.specs.Machine.{MachineState, Exits, start_state}
use Rattle.interp.specs.Runs.{Reaches}
use Rattle.interp.specs.StandsFor.{Running, IsBegun}
use Rattle.tenant_runs.specs.declared.answers.RunReply.{RunReply}
use Rattle.tenant_runs.specs.UnderWay.{IsUnderWay, HasRun}

pub has_run : (v : Accepted) (context : List ℕ) (old admitted finished released : TenantPart) (run : Running) (reply : RunReply) → HaveShapes (named_shapes v.subject) old.maps → length context ≡ v.subject.context_size
    → IsBegun v context run → run.steps ≡ 0 → AreFlatMaps old.maps → admitted ≡ with_run (needed_from v old 0) old
    → ((s : MachineState) → IsUnderWay v run s admitted → (n : ℕ) × Reaches v.subject.text s n (Exits reply.ret finished.maps) × (reply.steps ≡ run.steps + n))
    → reply.steps ≤ instructions_of v.subject.text → released ≡ without_run finished → HasRun v context old released reply
has_run v context old admitted finished released run reply shapes sized begun none flat admits ended few releases =
    let stands = begun old.maps flat shapes in
    let kept : admitted.maps ≡ old.maps = ap (λ (owned : TenantPart). owned.maps) admits in
    let running : admitted.running ≡ true = ap (λ (owned : TenantPart). owned.running) admits in
    let first : run.slot ≡ 0 = stands.slot in
    let need : needed_from v admitted 0 ≡ admitted.reserve = ap (λ (owned : TenantPart). needed_from v owned 0) admits ∙ sym (ap (λ (owned : TenantPart). owned.reserve) admits) in
    let enough : needed_from v admitted run.slot ≤ admitted.reserve = rw (first, need) (omega arith) in
    let (n, reaches, count) = ended (start_state context old.maps) (record { stands = stands; maps = kept; running = running; reserve = enough }) in
    let steps : n ≡ reply.steps = omega (arith, count, none) in
    let maps : finished.maps ≡ released.maps = sym (ap (λ (owned : TenantPart). owned.maps) releases) in
    record {
      shapes = shapes;
      sized = sized;
      runs = rw (steps, maps) at reaches;
      few = few;
      released = ap (λ (owned : TenantPart). owned.reserve) releases;
      ended = ap (λ (owned : TenantPart). owned.running) releases;
      unpinned = ap (λ (owned : TenantPart). owned.pins) releases;
    }
