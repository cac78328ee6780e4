use Rattle.std.proofs.Common.{◌≡◌, ◌+◌, suc, refl, subst, arith}
use Rattle.host_handle.specs.Answered.{Visits}
use Rattle.host_handle.proofs.visits.visit_all.Goals as goal

pub loop-init : goal.loop-init
loop-init c = λ x stands. (x, stands, refl)

pub loop-preserved : goal.loop-preserved
loop-preserved c = λ x stands.
    let before = c.loop.invariant x stands in
    let after = c.apply.ensures before.0 before.1 in
    let one_more : suc c.loop.counter ≡ c.loop.counter + 1 = omega arith in
    (after.0, after.1, subst (λ n. Visits n x after.0) one_more (before.0, before.2, (c.apply.result, (after.2, after.3, after.4))))

pub returns : goal.returns
returns c = λ x stands.
    let all : c.loop.counter ≡ c.args.visits = omega (arith, c.loop.auto.counter-end, c.loop-test.false) in
    let visited = c.loop.invariant x stands in
    let counted = c.apply-2.ensures visited.0 visited.1 in
    (counted.0, counted.1, (visited.0, subst (λ n. Visits n x visited.0) all visited.2, (counted.2, counted.3, counted.4)))
