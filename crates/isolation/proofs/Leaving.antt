-- A load, a run that begins, an unloading and a drop, in two systems that agree on the tenant.
use Rattle.std.proofs.Common.{◌≡◌, ℕ, ◌<◌, ◌⊎◌, inl, inr, true, List, Option, Some, None, sym, ap, refl, ◌∙◌, subst, arith}
use Rattle.std.specs.List.{slice_get}
use Rattle.std.proofs.Math.ListN.{set}
use Rattle.host_types.specs.declared.fault.Fault.TheVariants as fault
use Rattle.host_types.specs.declared.fault.Refused.{Refused as Refusal}
use Rattle.bpf_decode.specs.Text.{WellFormedHasNoFault, FirstFaultIsOne, FailsFirst, fault_at}
use Rattle.verifier.specs.Subject.{Subject}
use Rattle.verifier.proofs.Uniqueness.{one_refusal, refusal_excludes}
use Rattle.host_core.specs.declared.reply.Reply.{Reply}
use Rattle.host_core.specs.declared.reply.Reply.TheVariants.{Program, Begun, Done, Refused}
use Rattle.host_core.specs.World.{Tenant, System, program_at, begun_run}
use Rattle.host_core.specs.Happens.{Answers, Leaves, LoadHappens, load_refusal, BeginHappens, begin_refusal, UnloadHappens, unload_refusal, DropHappens, drop_refusal, OfTenant}
use Rattle.isolation.specs.Tenants.{AgreeOn, is_scarce}
use Rattle.isolation.proofs.Happenings.{Happening, LoadOf, BeginOf, UnloadOf, DropOf}
use Rattle.isolation.proofs.Alike.{Alike, idle, of_idle, refused_or, alike-answered, alike-changed}

-- ---- a text has one answer

no_fault : WellFormedHasNoFault
no_fault text refused well (inl short) = short.0 well.sized
no_fault text refused well (inr fails) = absurd (cc (well.fine refused.slot fails.instruction.within fails.instruction.begins, fails.fault))

none_earlier : (text : List ℕ) (number slot other later : ℕ) → slot < later → FailsFirst text number slot → FailsFirst text other later → ⊥
none_earlier text number slot other later before first second = absurd (cc (second.first slot before first.instruction.begins, first.fault))

three_ways : (a b : ℕ) → (a < b) ⊎ ((b < a) ⊎ (a ≡ b))
three_ways a b = grind arith

one_fault : FirstFaultIsOne
one_fault text refused other (inl short) (inl brief) = short.1 ∙ sym brief.1
one_fault text refused other (inl short) (inr fails) = absurd (short.0 fails.sized)
one_fault text refused other (inr fails) (inl short) = absurd (short.0 fails.sized)
one_fault text refused other (inr first) (inr second) = elim (three_ways refused.slot other.slot) [
  | inl before ↦ absurd (none_earlier text refused.number refused.slot other.number other.slot before first second)
  | inr (inl after) ↦ absurd (none_earlier text other.number other.slot refused.number refused.slot after second first)
  | inr (inr same) ↦
      let numbers : refused.number ≡ other.number = cc (first.fault, second.fault, ap (fault_at text) same) in
      let refusal : ℕ → ℕ → Refusal = λ number slot. record { number = number; slot = slot } in
      ap (λ number. refusal number refused.slot) numbers ∙ ap (refusal other.number) same
]

-- ---- the events

refused_alike : (t : ℕ) (x y x' y' : System) (tenant : Tenant) (reply other : Reply) (refusal further : Refusal) → slice_get x.world t ≡ Some tenant → slice_get y.world t ≡ Some tenant → further ≡ refusal
    → Answers x (Refused (fault.Program refusal)) reply x' → Answers y (Refused (fault.Program further)) other y' → Alike t reply other x' y'
refused_alike t x y x' y' tenant reply other refusal further there found same h k =
    alike-answered t x y x' y' tenant (Refused (fault.Program refusal)) reply other there found h (subst (λ (r : Refusal). Answers y (Refused (fault.Program r)) other y') same k)

loads : (t : ℕ) (x y x' y' : System) (tenant : Tenant) (p : Subject) (reply other : Reply) → slice_get x.world t ≡ Some tenant → slice_get y.world t ≡ Some tenant
    → LoadHappens x t tenant p reply x' → LoadHappens y t tenant p other y' → Alike t reply other x' y'
loads t x y x' y' tenant p reply other there found (LoadHappens.out_of_memory well h) happens = inl (ap is_scarce h.0)
loads t x y x' y' tenant p reply other there found happens (LoadHappens.out_of_memory well h) = inr (inl (ap is_scarce h.0))
loads t x y x' y' tenant p reply other there found (LoadHappens.malformed refusal is h) (LoadHappens.malformed further also k) =
    refused_alike t x y x' y' tenant reply other refusal further there found (one_fault p.text further refusal also is) h k
loads t x y x' y' tenant p reply other there found (LoadHappens.unlawful well refusal is h) (LoadHappens.unlawful formed further also k) =
    refused_alike t x y x' y' tenant reply other refusal further there found (one_refusal p further refusal also is) h k
loads t x y x' y' tenant p reply other there found (LoadHappens.loaded well table tight index free h) (LoadHappens.loaded formed second held at taken k) =
    let same : at ≡ index = cc (free, taken) in
    alike-changed t x y x' y' tenant (record tenant { programs = set tenant.programs index (Some p) }) x.sharing y.sharing (Program index) reply other there found h
    (subst (λ (n : ℕ). Leaves y t (record tenant { programs = set tenant.programs n (Some p) }) y.sharing (Program n) other y') same k)
loads t x y x' y' tenant p reply other there found (LoadHappens.malformed refusal is h) (LoadHappens.unlawful formed further also k) = absurd (no_fault p.text refusal formed is)
loads t x y x' y' tenant p reply other there found (LoadHappens.unlawful well refusal is h) (LoadHappens.malformed further also k) = absurd (no_fault p.text further well also)
loads t x y x' y' tenant p reply other there found (LoadHappens.malformed refusal is h) (LoadHappens.loaded formed second held at taken k) = absurd (no_fault p.text refusal formed is)
loads t x y x' y' tenant p reply other there found (LoadHappens.loaded well table tight index free h) (LoadHappens.malformed further also k) = absurd (no_fault p.text further well also)
loads t x y x' y' tenant p reply other there found (LoadHappens.unlawful well refusal is h) (LoadHappens.loaded formed second held at taken k) = absurd (refusal_excludes p second refusal held is)
loads t x y x' y' tenant p reply other there found (LoadHappens.loaded well table tight index free h) (LoadHappens.unlawful formed further also k) = absurd (refusal_excludes p table further tight also)

begins : (t : ℕ) (x y x' y' : System) (tenant : Tenant) (n : ℕ) (context : List ℕ) (reply other : Reply) → slice_get x.world t ≡ Some tenant → slice_get y.world t ≡ Some tenant
    → BeginHappens x t tenant n context reply x' → BeginHappens y t tenant n context other y' → Alike t reply other x' y'
begins t x y x' y' tenant n context reply other there found (p, at, inl h) happens = inl (ap is_scarce h.1.0)
begins t x y x' y' tenant n context reply other there found (p, at, inr (enough, inl h)) happens = inl (ap is_scarce h.0)
begins t x y x' y' tenant n context reply other there found (p, at, inr (enough, inr h)) (q, also, inl k) = inr (inl (ap is_scarce k.1.0))
begins t x y x' y' tenant n context reply other there found (p, at, inr (enough, inr h)) (q, also, inr (plenty, inl k)) = inr (inl (ap is_scarce k.0))
begins t x y x' y' tenant n context reply other there found (p, at, inr (enough, inr h)) (q, also, inr (plenty, inr k)) =
    let same : q ≡ p = cc (at, also) in
    alike-changed t x y x' y' tenant (record tenant { run = Some (begun_run p context tenant.maps) }) x.sharing y.sharing Begun reply other there found h
    (subst (λ (r : Subject). Leaves y t (record tenant { run = Some (begun_run r context tenant.maps) }) y.sharing Begun other y') same k)

-- two events of the tenant t in systems that agree on it
abbrev pub GoesAlike : ℕ → System → System → Reply → System → Reply → System → Happening → Type 0
GoesAlike t x y reply x' other y' H =
    AgreeOn t x y → OfTenant x t reply x' (λ tenant. H x tenant reply x') → OfTenant y t other y' (λ tenant. H y tenant other y') → Alike t reply other x' y'

pub alike-load : (t : ℕ) (text : List ℕ) (size : ℕ) (x y : System) (reply : Reply) (x' : System) (other : Reply) (y' : System) → GoesAlike t x y reply x' other y' (LoadOf t text size)
alike-load t text size x y reply x' other y' = of_idle t x y x' y' reply other (LoadOf t text size) (λ z z' a r some h. h) (λ a there found.
    refused_or t x y x' y' (idle a) (load_refusal (idle a) size) reply other _ _ there found (loads t x y x' y' (idle a) _ reply other there found))

pub alike-begin : (t n : ℕ) (context : List ℕ) (x y : System) (reply : Reply) (x' : System) (other : Reply) (y' : System) → GoesAlike t x y reply x' other y' (BeginOf t n context)
alike-begin t n context x y reply x' other y' = of_idle t x y x' y' reply other (BeginOf t n context) (λ z z' a r some h. h) (λ a there found.
    refused_or t x y x' y' (idle a) (begin_refusal (idle a) n context) reply other _ _ there found (begins t x y x' y' (idle a) n context reply other there found))

pub alike-unload : (t n : ℕ) (x y : System) (reply : Reply) (x' : System) (other : Reply) (y' : System) → GoesAlike t x y reply x' other y' (UnloadOf t n)
alike-unload t n x y reply x' other y' = of_idle t x y x' y' reply other (UnloadOf t n) (λ z z' a r some h. h) (λ a there found.
    refused_or t x y x' y' (idle a) (unload_refusal (idle a) n) reply other _ _ there found (alike-changed t x y x' y' (idle a) _ _ _ Done reply other there found))

pub alike-drop : (t m : ℕ) (x y : System) (reply : Reply) (x' : System) (other : Reply) (y' : System) → GoesAlike t x y reply x' other y' (DropOf t m)
alike-drop t m x y reply x' other y' = of_idle t x y x' y' reply other (DropOf t m) (λ z z' a r some h. h) (λ a there found.
    refused_or t x y x' y' (idle a) (drop_refusal (idle a) m) reply other _ _ there found (alike-changed t x y x' y' (idle a) _ _ _ Done reply other there found))
