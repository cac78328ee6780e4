use Rattle.std.proofs.Common.{◌≡◌, ◌⊎◌, Result, Ok, Err, sym, subst, ◌∙◌}
use Rattle.std.specs.Result.{IfErr, IsErrAnd}
use Rattle.host_types.specs.declared.fault.Refused.{Refused}
use Rattle.verifier.specs.Subject.{Subject}
use Rattle.verifier.specs.Wide.{HasNoLawful}
use Rattle.verifier.specs.Verified.{IsSubject}
use Rattle.verifier.proofs.Passes.{passed_verified}
use Rattle.verifier.proofs.verified.verify.Goals as goal

pub invariant_of-result : goal.invariant_of-result
invariant_of-result c = record {
  verified = passed_verified c.new-candidate.result (subst IsSubject c.candidate.view_is c.candidate.invariant) c.in_ok-kept.ensures.clean c.in_ok-kept.ensures.flows;
  kept = c.in-Ok-new.ensures.ok ∙ c.in_ok-kept.ensures.kept;
  named = c.named_maps-named.ensures;
  reserved = c.in-Ok.ensures;
  written = c.last_writes-lasts.ensures;
}

pub returns-clause-verified : goal.returns-clause-verified
returns-clause-verified c =
    passed_verified c.new-candidate.result (subst IsSubject c.candidate.view_is c.candidate.invariant) c.in_ok-kept.ensures.clean c.in_ok-kept.ensures.flows

-- a subject is the one that the candidate was made of
of_candidate : {A : Type 0} (p q : Subject) → p ≡ q → A ⊎ HasNoLawful p → A ⊎ HasNoLawful q
of_candidate {A = A} p q same h = subst (λ s. A ⊎ HasNoLawful s) same h

-- the error of a call that is passed on
passed_on : {T : Type 0} (r : Result T Refused) (error : Refused) (P : Refused → Type 0) → IsErrAnd r (λ e. e ≡ error) → P error → IfErr r P
passed_on (Ok x) error P same p = tt
passed_on (Err e) error P same p = subst P (sym same) p

pub returns-in_err-kept-clause-complete : goal.returns-in_err-kept-clause-complete
returns-in_err-kept-clause-complete c =
    passed_on c.from_residual.result c.in_err-kept.field-0.0 _ c.from_residual.ensures.1 (of_candidate _ _ c.new-candidate.ensures c.in_err-kept.ensures.complete)
