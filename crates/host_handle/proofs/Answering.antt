-- Answers of an open handle.
use Rattle.std.proofs.Common.{◌≡◌, ◌≢◌, ◌==◌, ℕ, List, length, if◌then◌else◌, Option, Some, Result, Ok, Err, IfErr, sym, ap, ◌∙◌, subst}
use Rattle.host_types.specs.declared.fault.Fault.{Fault}
use Rattle.host_types.specs.declared.fault.Fault.TheVariants.{OutOfMemory}
use Rattle.host_types.specs.Refusals.{fault_number}
use Rattle.host_core.specs.declared.reply.Reply.{Reply}
use Rattle.host_core.specs.declared.reply.Reply.TheVariants.{Map, Program, Begun, Stepped, Ended, Visited, Done, Value, Counters, Refused}
use Rattle.host_core.specs.World.{System}
use Rattle.host_core.specs.HostView.{HostView, IsCopied}
use Rattle.host_handle.specs.declared.answer.Answer.TheVariants.{Replied}
use Rattle.host_handle.specs.Answered.{HasAnswer, Goes}
use Rattle.host_handle.specs.Codes.{copied_code, lookup_code, value_copied}

module _ (Happening : Reply → System → System → Type 0) where
  -- what happened to the host that was taken out of a handle and put back is what the reply answers
  pub answered : (reply : Reply) {o n : Option HostView} {had old new : HostView}
      → o ≡ Some had → old ≡ had → n ≡ Some new → Goes (Happening reply) old new → HasAnswer Happening (Replied reply) o n
  answered reply {o = o} {n = n} {had = had} {old = old} {new = new} is_had is_old is_new goes =
      subst (λ (before : Option HostView). HasAnswer Happening (Replied reply) before n) (sym is_had)
      (subst (λ (after : Option HostView). HasAnswer Happening (Replied reply) (Some had) after) (sym is_new)
      (subst (λ (host : HostView). Goes (Happening reply) host new) is_old goes))

-- a lookup that copied its value, and one that was refused, answer as the event
pub copied-answered : (reply : Reply) (result : Result ℕ Fault) (old new : List ℕ) → IsCopied reply result old new
    → (copied_code result (length old) ≡ lookup_code (Replied reply) old) × (new ≡ value_copied (Replied reply) old)
copied-answered (Value bytes) (Ok size) old new (sized, is) = (ap (λ n. if n == length old then 0 else 102) sized, is)
copied-answered (Value bytes) (Err refused) old new copied = absurd copied
copied-answered (Refused fault) (Err refused) old new (same, is) = (ap fault_number same, is)
copied-answered (Refused fault) (Ok size) old new copied = absurd copied
copied-answered (Map number) result old new copied = absurd copied
copied-answered (Program number) result old new copied = absurd copied
copied-answered Begun result old new copied = absurd copied
copied-answered Stepped result old new copied = absurd copied
copied-answered (Ended number steps) result old new copied = absurd copied
copied-answered (Visited visited) result old new copied = absurd copied
copied-answered Done result old new copied = absurd copied
copied-answered (Counters counters) result old new copied = absurd copied

-- one that took no memory isn't refused for it
pub copied-not_out_of_memory : (reply : Reply) (result : Result ℕ Fault) (old new : List ℕ) → IsCopied reply result old new → IfErr result (λ fault. fault ≢ OutOfMemory) → Replied reply ≢ Replied (Refused OutOfMemory)
copied-not_out_of_memory (Refused fault) (Err refused) old new (same, is) never_out is_out = never_out (let is_fault : fault ≡ OutOfMemory = cc in same ∙ is_fault)
copied-not_out_of_memory (Refused fault) (Ok size) old new copied never_out is_out = absurd copied
copied-not_out_of_memory (Value bytes) result old new copied never_out is_out = absurd (cc)
copied-not_out_of_memory (Map number) result old new copied never_out is_out = absurd copied
copied-not_out_of_memory (Program number) result old new copied never_out is_out = absurd copied
copied-not_out_of_memory Begun result old new copied never_out is_out = absurd copied
copied-not_out_of_memory Stepped result old new copied never_out is_out = absurd copied
copied-not_out_of_memory (Ended number steps) result old new copied never_out is_out = absurd copied
copied-not_out_of_memory (Visited visited) result old new copied never_out is_out = absurd copied
copied-not_out_of_memory Done result old new copied never_out is_out = absurd copied
copied-not_out_of_memory (Counters counters) result old new copied never_out is_out = absurd copied
