use Rattle.std.proofs.Common.{◌≡◌, ◌+◌, None, sym, ◌∙◌, subst, arith}
use Rattle.host_core.specs.HostView.{HasMadeSteps, HasCounted}
use Rattle.host_core.proofs.Making.{made-join, made-none, made-few, made-some, kept-made, is_none_there}
use Rattle.host_core.proofs.tenant.Tenant.make_steps.Goals as goal

pub loop-left-init : goal.loop-left-init
loop-left-init c = record {
  kept = c.requires.kept;
  before = (0, omega arith, made-none c.args.number c.args.self.now c.args.memory.now, omega arith);
}

pub returns-then-is_some-clause-steps : goal.returns-then-is_some-clause-steps
returns-then-is_some-clause-steps c =
    let (n, whole, made, counted) = c.loop-left.invariant.before in
    let steps = c.batch-batch.result.steps in
    let joined = made-join c.args.number n steps c.args.self.now c.loop-left.self c.batch-batch.new.self c.args.memory.now c.loop-left.memory c.batch-batch.new.memory c.batch-batch.result.last made c.batch-batch.ensures.made in
    made-some c.args.number (n + steps) c.args.limit c.args.self.now c.batch-batch.new.self c.args.memory.now c.batch-batch.new.memory c.batch-batch.result.last
    (omega (arith, whole, c.batch-batch.ensures.few)) (sym c.is_some.ensures ∙ c.if-is_some.true) joined

pub loop-left-smaller : goal.loop-left-smaller
loop-left-smaller c = omega (arith, c.batch-batch.ensures.some, c.batch-batch.ensures.few, c.loop-left-test.true)

pub loop-left-preserved : goal.loop-left-preserved
loop-left-preserved c =
    let (n, whole, made, counted) = c.loop-left.invariant.before in
    let steps = c.batch-batch.result.steps in
    let none : c.batch-batch.result.last ≡ None = is_none_there c.batch-batch.result.last (sym c.is_some.ensures ∙ c.if-is_some.false) in
    let stretched = subst (λ last. HasMadeSteps c.args.number c.loop-left.self c.loop-left.memory steps last c.batch-batch.new.self c.batch-batch.new.memory) none c.batch-batch.ensures.made in
    let counts = subst (λ last. HasCounted c.loop-left.self steps last c.batch-batch.new.self) none c.batch-batch.ensures.counted in
    record {
      kept = kept-made c.args.number steps c.loop-left.self c.batch-batch.new.self c.loop-left.memory c.batch-batch.new.memory None stretched c.loop-left.invariant.kept;
      before = (
        n + steps,
        omega (arith, whole, c.batch-batch.ensures.few),
        made-join c.args.number n steps c.args.self.now c.loop-left.self c.batch-batch.new.self c.args.memory.now c.loop-left.memory c.batch-batch.new.memory None made stretched,
        omega (arith, counted, counts),
      );
    }

pub returns-clause-steps : goal.returns-clause-steps
returns-clause-steps c =
    let (n, whole, made, counted) = c.loop-left.invariant.before in
    let all : n ≡ c.args.limit = omega (arith, whole, c.loop-left-test.false) in
    subst (λ k. HasMadeSteps c.args.number c.args.self.now c.args.memory.now k None c.loop-left.self c.loop-left.memory) all made

pub returns-clause-ends : goal.returns-clause-ends
returns-clause-ends c great =
    let (n, whole, made, counted) = c.loop-left.invariant.before in
    let all : n ≡ c.args.limit = omega (arith, whole, c.loop-left-test.false) in
    absurd (made-few c.args.number n c.args.self.now c.loop-left.self c.loop-left.memory c.loop-left.invariant.kept counted (omega (arith, all, great)))
