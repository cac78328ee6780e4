-- A program that is verified without maps has none where it is accepted.
use Rattle.std.proofs.Common.{◌≡◌, [], ◌∙◌, ap, Result, Ok, Err, IfOk}
use Rattle.host_types.specs.declared.fault.Refused.{Refused}
use Rattle.verifier.specs.Subject.{Subject, padded}
use Rattle.verifier.specs.Verified.{Accepted}

-- of the answer of `verify` by what it says of its subject
pub accepted_without_maps : (answer : Result Accepted Refused) (p : Subject) → p.shapes ≡ padded [] → IfOk answer (λ v. v.subject ≡ p) → IfOk answer (λ v. v.subject.shapes ≡ padded [])
accepted_without_maps (Ok v) p none is = ap (λ (q : Subject). q.shapes) is ∙ none
accepted_without_maps (Err refused) p none is = tt
