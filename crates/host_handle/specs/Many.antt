-- What a call answers that makes many runs.
use Rattle.std.specs.Prelude.{◌≡◌, ℕ, List, Option, Some, None}
use Rattle.host_core.specs.declared.reply.Reply.{Reply}
use Rattle.host_core.specs.HostView.{HostView}
use Rattle.host_core.specs.Many.{HaveRun}
use Rattle.host_handle.specs.declared.answer.Answer.TheVariants.{Replied}
use Rattle.host_handle.specs.declared.structs.BpfHostRefused.{BpfHostRefused}
use Rattle.host_handle.specs.Codes.{call_code, refused_written}

-- what the call returns
abbrev pub stop_code : Option Reply → ℕ
stop_code None = 0
stop_code (Some reply) = call_code (Replied reply)

-- what it writes of a refusal
abbrev pub stop_written : Option Reply → BpfHostRefused → BpfHostRefused
stop_written None old = old
stop_written (Some reply) old = refused_written (Replied reply) old

-- What the call answers, and how many runs it made: a closed handle stays closed, and none was made.
abbrev pub AnswersMany : ℕ → ℕ → List ℕ → ℕ → List ℕ → List ℕ → ℕ → BpfHostRefused → BpfHostRefused → ℕ → Option HostView → Option HostView → Type 0
AnswersMany t k contexts size rets written made refused shown code None None = (code ≡ 100) × (written ≡ rets) × (made ≡ 0) × (shown ≡ refused)
AnswersMany t k contexts size rets written made refused shown code (Some old) (Some new) =
    (stopped : Option Reply) × (code ≡ stop_code stopped) × (shown ≡ stop_written stopped refused)
    × HaveRun t k contexts size rets written made stopped old new
AnswersMany t k contexts size rets written made refused shown code old new = ⊥
