-- Why no program of an object file is read.
use Rattle.std.proofs.Common.{ℕ, sym, subst}
use Rattle.host_types.specs.declared.fault.Fault.{Fault}
use Rattle.verifier.specs.Subject.{IsContextSize}
use Rattle.host_handle.specs.declared.not_read.NotRead.{NotRead}
use Rattle.host_handle.specs.declared.not_read.NotRead.TheVariants as reason
use Rattle.host_handle.specs.Objects.{IsOfText, IsReason, RefusesTextOfObject}

-- the refusal of a text is a reason, and so is want of memory for its words
pub of_text : (size : ℕ) (fault : Fault) (why : NotRead) → IsOfText fault why → IsContextSize size → RefusesTextOfObject size fault → IsReason size why
of_text size fault reason.OutOfMemory is fits refused = fits
of_text size fault (reason.Text found words) is fits refused = (fits, subst (RefusesTextOfObject size) (sym is) refused)
of_text size fault reason.BadContext is fits refused = absurd is
of_text size fault (reason.File words) is fits refused = absurd is
