use Rattle.std.proofs.Common.{arith, refl}
use Rattle.turn.specs.Seats.{own_part}
use Rattle.tenant_workers.proofs.Kept.{map-set_same}
use Rattle.serving.proofs.Lookups.{looked-up}
use Rattle.serving.proofs.results.looked_up.Goals as goal

pub returns-clause-parts : goal.returns-clause-parts
returns-clause-parts g c =
    map-set_same (λ plan. own_part plan.seat) c.args.plans.now c.in-HostLookup.tenant c.index-plans-index.result _
    c.read.ensures.kept

pub returns-clause-answers : goal.returns-clause-answers
returns-clause-answers g c = rw (c.in-HostLookup.is) (
  refl,
  looked-up (λ plan. own_part plan.seat) (λ bytes. bytes.items) c.args.plans.now c.in-HostLookup.tenant c.in-HostLookup.map c.in-HostLookup.key
      c.index-plans-index.result c.read.result c.value_reply.result (omega (arith, c.if-index-plans.false))
      c.read.ensures.value c.read.ensures.refused c.value_reply.ensures,
)
