use Rattle.std.proofs.Common.{◌∙◌, subst}
use Rattle.host_types.specs.declared.event.Event.TheVariants.{HostLookup}
use Rattle.host_core.specs.HostView.{HostView, StandsForSystem}
use Rattle.host_handle.specs.declared.answer.Answer.TheVariants.{Replied}
use Rattle.host_handle.specs.Answered.{Serves}
use Rattle.host_handle.proofs.Answering.{answered, copied-answered, copied-not_out_of_memory}
use Rattle.host_handle.proofs.handle.BpfHost.lookup.Goals as goal

pub returns : goal.returns
returns c =
    let (reply, copied, happens) = c.lookup-copied.ensures.copied in
    let (code, value) = copied-answered reply c.lookup-copied.result c.args.value.now c.lookup-copied.new.value copied in (
      Replied reply,
      answered (Serves (HostLookup c.args.tenant c.args.map c.args.key)) reply c.in-Some.ensures.host c.deref.ensures c.put.ensures
          (λ x stands. (x, subst (λ (host : HostView). StandsForSystem host x) c.deref.ensures stands, happens x stands)),
      copied-not_out_of_memory reply c.lookup-copied.result c.args.value.now c.lookup-copied.new.value copied c.lookup-copied.ensures.memory,
      c.copied_code.ensures ∙ code,
      value,
    )
