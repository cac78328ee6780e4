use Rattle.std.proofs.Common.{◌≡◌, subst, arith}
use Rattle.bpf_decode.specs.Text.{IsWellFormed, slots_of}
use Rattle.verifier.specs.Subject.{Subject}
use Rattle.knowledge.proofs.Flowed.{flowed_all}
use Rattle.knowledge.proofs.knowledge.Knowledge.of.Goals as goal

pub invariant_of-result : goal.invariant_of-result
invariant_of-result c =
    let well : IsWellFormed c.args.candidate.text = subst (λ (p : Subject). IsWellFormed p.text) c.candidate.view_is c.candidate.invariant.text in
    let end : c.loop-slot.slot ≡ slots_of c.args.candidate.text = omega (arith, c.loop-slot-test.false, c.loop-slot.auto.slot-end, c.slots-slot-end.ensures.number) in
    flowed_all c.args.candidate c.loop-slot.slots.items c.loop-slot.slot well end c.loop-slot.invariant
