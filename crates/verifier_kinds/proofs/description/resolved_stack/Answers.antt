use Rattle.std.proofs.Common.{◌≡◌, get_or, refl, ap, ◌∙◌, arith, rules}
use Rattle.std.proofs.lemmas.List.{get_or_default}
use Rattle.verifier_kinds.specs.declared.description.StackSlot.TheVariants.{Bytes}
use Rattle.verifier_kinds.specs.Descriptions.{resolved_slot}
use Rattle.verifier_kinds.proofs.Descriptions.{filled_more, mapped_by_index}
use Rattle.verifier_kinds.proofs.description.resolved_stack.Goals as goal

pub loop-k-preserved : goal.loop-k-preserved
loop-k-preserved c =
    let here : c.resolved_slot.result ≡ resolved_slot c.args.call c.args.kind (get_or c.args.a.now c.loop-k.k (Bytes 0)) = c.resolved_slot.ensures ∙ ap (resolved_slot c.args.call c.args.kind) (get_or_default c.args.a.now c.loop-k.k _ (Bytes 0) (search rules)) in
    (search rules, filled_more (λ n. resolved_slot c.args.call c.args.kind (get_or c.args.a.now n (Bytes 0))) (Bytes 0) c.loop-k.stack c.loop-k.k c.resolved_slot.result (omega (arith, c.loop-k.invariant.0)) c.loop-k.invariant.1 here)

pub returns : goal.returns
returns c =
    mapped_by_index (resolved_slot c.args.call c.args.kind) (Bytes 0) refl c.args.a.now c.loop-k.stack (search rules)
    (λ k h. c.loop-k.invariant.1 k (omega (arith, c.loop-k.invariant.0)))
