use Rattle.std.proofs.Common.{◌≡◌, refl, arith}
use Rattle.page_table.specs.State.{part}
use Rattle.verifier.specs.Named.{named_shapes}
use Rattle.verifier.proofs.NamedMaps.{named_have_shapes}
use Rattle.tenant_runs.proofs.Shapes.{have_all, have_more}
use Rattle.tenant_runs.proofs.whole_run.has_shapes.Goals as goal

pub loop-map-init : goal.loop-map-init
loop-map-init c m less = absurd (omega (arith, less))

pub loop-map-preserved : goal.loop-map-preserved
loop-map-preserved c =
    have_more (named_shapes c.args.program.now.subject) (part c.args.memory.now c.args.tenant).maps c.loop-map.map c.loop-map.invariant (c.has_named.ensures.0 c.if-not-has_named.false)

pub returns-then-not-has_named : goal.returns-then-not-has_named
returns-then-not-has_named c = (
  (λ e. absurd (cc)),
  λ have. let yes = c.has_named.ensures.1 (have c.loop-map.map) in absurd (cc (yes, c.if-not-has_named.true)),
)

pub returns : goal.returns
returns c =
    let p = c.args.program.now.subject in
    let all : c.loop-map.map ≡ 8 = omega (arith, c.loop-map-test.false, c.loop-map.auto.map-end) in
    let eight = (named_have_shapes p c.facts.ensures.subject.shapes).eight in
    ((λ e. have_all (named_shapes p) (part c.args.memory.now c.args.tenant).maps eight (rw all at c.loop-map.invariant)), λ have. refl)
