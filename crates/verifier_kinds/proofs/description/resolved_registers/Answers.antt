use Rattle.std.proofs.Common.{◌≡◌, get_or, None, refl, arith, rules}
use Rattle.std.specs.Prelude.{option_map}
use Rattle.verifier_kinds.specs.Descriptions.{resolved_kind}
use Rattle.verifier_kinds.proofs.Descriptions.{filled_more, mapped_by_index}
use Rattle.verifier_kinds.proofs.description.resolved_registers.Goals as goal

pub loop-i-preserved : goal.loop-i-preserved
loop-i-preserved c =
    let here : c.resolved_register.result ≡ option_map (resolved_kind c.args.call c.args.kind) (get_or c.args.a.now c.loop-i.i None) = search rules in
    (search rules, filled_more (λ n. option_map (resolved_kind c.args.call c.args.kind) (get_or c.args.a.now n None)) None c.loop-i.registers c.loop-i.i c.resolved_register.result (omega (arith, c.loop-i.invariant.0)) c.loop-i.invariant.1 here)

pub returns : goal.returns
returns c =
    mapped_by_index (option_map (resolved_kind c.args.call c.args.kind)) None refl c.args.a.now c.loop-i.registers (search rules)
    (λ k h. c.loop-i.invariant.1 k (omega (arith, c.loop-i.invariant.0)))
