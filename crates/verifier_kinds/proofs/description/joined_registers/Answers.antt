use Rattle.std.proofs.Common.{◌≡◌, get_or, None, refl, arith, rules}
use Rattle.verifier_kinds.specs.Descriptions.{join_of_registers}
use Rattle.verifier_kinds.proofs.Descriptions.{filled_more}
use Rattle.verifier_kinds.proofs.Joins.{merged_by_index}
use Rattle.verifier_kinds.proofs.description.joined_registers.Goals as goal

pub loop-i-preserved : goal.loop-i-preserved
loop-i-preserved c =
    let here : c.joined.result ≡ join_of_registers (get_or c.args.a.now c.loop-i.i None) (get_or c.args.b.now c.loop-i.i None) = search rules in
    (search rules, filled_more (λ n. join_of_registers (get_or c.args.a.now n None) (get_or c.args.b.now n None)) None c.loop-i.registers c.loop-i.i c.joined.result (omega (arith, c.loop-i.invariant.0)) c.loop-i.invariant.1 here)

pub returns : goal.returns
returns c =
    merged_by_index join_of_registers None refl c.args.a.now c.args.b.now c.loop-i.registers (search rules) (search rules)
    (λ k h. c.loop-i.invariant.1 k (omega (arith, c.loop-i.invariant.0)))
