-- A run that is driven on a memory, from one thing that it asks to the next.
use Rattle.std.proofs.Common.{◌≡◌, ◌<◌, ◌+◌, ℕ, zero, suc, List, Some, refl, ◌∙◌, arith, add-zero}
use Rattle.host_types.specs.Tenant.{TenantPart}
use Rattle.page_table.specs.State.{MemoryState}
use Rattle.page_table.specs.Changes.{OtherTenantsUnchanged}
use Rattle.bpf_decode.specs.Text.{instructions_of}
use Rattle.verifier.specs.Verified.{Accepted, IsVerified}
use Rattle.bpf_decode.specs.Text.{slots_of}
use Rattle.bpf_decode.proofs.Numbering.{instructions_later}
use Rattle.interp.specs.declared.need.Need.{Need}
use Rattle.interp.proofs.Following.{is_at_instruction}
use Rattle.interp.specs.Machine.{MachineState, Outcome, Next, step}
use Rattle.interp.specs.Runs.{Reaches}
use Rattle.interp.specs.StandsFor.{Running, StandsFor}
use Rattle.tenant_runs.specs.Fulfilment.{KeepsSizes}
use Rattle.tenant_runs.specs.UnderWay.{IsUnderWay, IsAsking, part_with_have}

-- from a state for which the run stood, its steps lead to one in which it is under way
pub record IsFollowed (v : Accepted) (start run : Running) (s : MachineState) (owned : TenantPart) : Type 0 where
  pub state : MachineState
  pub count : ℕ
  pub reaches : Reaches v.subject.text s count (Next state)
  pub steps : run.steps ≡ start.steps + count
  pub under_way : IsUnderWay v run state owned

-- what a driven run keeps
pub record IsFinishing (v : Accepted) (tenant : ℕ) (old : MemoryState) (start : Running) (memory : MemoryState) (run : Running) : Type 0 where
  pub verified : IsVerified v
  pub some : (s : MachineState) × IsUnderWay v start s (part_with_have old tenant)
  pub followed : (s : MachineState) → IsUnderWay v start s (part_with_have old tenant) → IsFollowed v start run s (part_with_have memory tenant)
  pub others : OtherTenantsUnchanged tenant old memory
  pub sizes : KeepsSizes old memory

pub begins_to_finish : (v : Accepted) (tenant : ℕ) (old : MemoryState) (start : Running) → IsVerified v → (s : MachineState) × IsUnderWay v start s (part_with_have old tenant) → IsFinishing v tenant old start old start
begins_to_finish v tenant old start verified some = record {
  verified = verified;
  some = some;
  followed = λ s under_way. record { state = s; count = 0; reaches = refl; steps = omega arith; under_way = under_way };
  others = λ t other. refl;
  sizes = record { tenants = refl; frames = refl };
}

-- steps after steps are steps
pub reaches_on : (text : List ℕ) (s t : MachineState) (n m : ℕ) (outcome : Outcome) → Reaches text s n (Next t) → Reaches text t m outcome → Reaches text s (n + m) outcome
reaches_on text s t n zero outcome first later = rw (add-zero n, later) first
reaches_on text s t n (suc m) outcome first (u, reaches, makes) =
    let next : n + suc m ≡ suc (n + m) = omega arith in
    rw next (u, reaches_on text s t n m (Next u) first reaches, makes)

-- a run that goes on has made fewer steps than there are instructions
pub steps_below : (v : Accepted) (run : Running) (s : MachineState) → IsVerified v → StandsFor v run s → run.steps < instructions_of v.subject.text
steps_below v run s verified stands =
    let at = is_at_instruction v run s verified stands in
    let less = instructions_later v.subject.text run.slot (slots_of v.subject.text) at.begins at.within in
    omega (arith, less, stands.steps)

-- what a run asks after steps in private
pub record IsAskedOn (v : Accepted) (s : MachineState) (n : ℕ) (need : Need) (run : Running) (owned : TenantPart) : Type 0 where
  pub before : ℕ
  pub state : MachineState
  pub count : n ≡ suc before
  pub reaches : Reaches v.subject.text s before (Next state)
  pub asking : IsAsking v state need run owned

-- the run asks on, and so is followed on: from what it was, to what it is with the answer
pub followed_on : (v : Accepted) (start run after answered : Running) (s : MachineState) (need : Need) (n : ℕ) (first owned next : TenantPart) → (followed : IsFollowed v start run s first) → IsAskedOn v followed.state n need after owned
    → after.steps ≡ run.steps + n → answered.steps ≡ after.steps
    → ((t : MachineState) → IsAsking v t need after owned → (u : MachineState) × (step v.subject.text t ≡ Some (Next u)) × IsUnderWay v answered u next)
    → IsFollowed v start answered s next
followed_on v start run after answered s need n first owned next followed asked more same goes_on =
    let (u, makes, under_way) = goes_on asked.state asked.asking in
    let counted : after.steps ≡ start.steps + (followed.count + suc asked.before) = omega (arith, more, followed.steps, asked.count) in
    record {
      state = u;
      count = followed.count + suc asked.before;
      reaches = reaches_on v.subject.text s followed.state followed.count (suc asked.before) (Next u) followed.reaches (asked.state, asked.reaches, makes);
      steps = same ∙ counted;
      under_way = under_way;
    }
