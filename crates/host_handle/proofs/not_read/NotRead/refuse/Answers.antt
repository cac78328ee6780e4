use Rattle.std.proofs.Common.{inl, inr, refl, subst}
use Rattle.host_types.specs.declared.fault.Fault.TheVariants as fault
use Rattle.host_handle.specs.Objects.{IsReason}
use Rattle.host_handle.proofs.not_read.NotRead.refuse.Goals as goal

pub returns-in-BadContext : goal.returns-in-BadContext
returns-in-BadContext c = λ size holds. inr (fault.BadContext, c.refuse.ensures, inl (refl, subst (IsReason size) c.in-BadContext.is holds))

pub returns-in-OutOfMemory : goal.returns-in-OutOfMemory
returns-in-OutOfMemory c = λ size holds.
    inr (fault.OutOfMemory, c.refuse-in-OutOfMemory.ensures, inr (subst (IsReason size) c.in-OutOfMemory.is holds, inl refl))

pub returns-in-Text : goal.returns-in-Text
returns-in-Text c = λ size holds.
    let reason = subst (IsReason size) c.in-Text.is holds in inr (c.in-Text.fault, c.refuse-in-Text.ensures, inr (reason.0, inr reason.1))
