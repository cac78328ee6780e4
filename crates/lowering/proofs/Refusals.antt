-- What the verifier accepts it doesn't refuse.
use Rattle.std.specs.Prelude.{◌≡◌}
use Rattle.std.proofs.Common.{subst, inl, inr}
use Rattle.host_types.specs.declared.fault.Refused.{Refused}
use Rattle.bpf_decode.specs.Text.{IsWellFormed, WellFormedHasNoFault, out_of_memory}
use Rattle.verifier.specs.Subject.{Subject}
use Rattle.verifier.specs.Table.{IsTightTable}
use Rattle.verifier.proofs.Uniqueness.{refusal_excludes}
use Rattle.lowering.specs.Lowering.{VerifierAccepts, IsRefusedBy}

no_fault : WellFormedHasNoFault
no_fault text refused well (inl short) = short.0 well.sized
no_fault text refused well (inr fails) = absurd (cc (well.fine refused.slot fails.instruction.within fails.instruction.begins, fails.fault))

-- a subject that is accepted is refused for memory alone
pub accepted_is_refused_for_memory : (p : Subject) (refused : Refused) → VerifierAccepts p → IsRefusedBy p refused → refused ≡ out_of_memory
accepted_is_refused_for_memory p refused accepted (inl scarce) = scarce
accepted_is_refused_for_memory p refused accepted (inr (inl fault)) =
    let well : IsWellFormed p.text = subst (λ (q : Subject). IsWellFormed q.text) accepted.1 accepted.2.subject.text in
    absurd (no_fault p.text refused well fault)
accepted_is_refused_for_memory p refused accepted (inr (inr broken)) =
    let tight : IsTightTable p accepted.0.table = subst (λ (q : Subject). IsTightTable q accepted.0.table) accepted.1 accepted.2.tight in
    absurd (refusal_excludes p accepted.0.table refused tight broken)
