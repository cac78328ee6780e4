-- The lines that the program prints (docs/HOST.md).
use Rattle.std.specs.Prelude.{ℕ, List, [], ◌∷◌, ◌++◌, codes, decimal, Option, Some, None}
use Rattle.host_types.specs.Refusals.{refusal_text}
use Rattle.hex.specs.Hex.{encode_lower}
use Rattle.ksm_counters.specs.Counters.{counters_text}
use Rattle.host_types.specs.declared.event.Event.{Event}
use Rattle.host_types.specs.declared.event.Event.TheVariants.{HostLookup}
use Rattle.host_core.specs.declared.reply.Reply.{Reply}
use Rattle.host_core.specs.declared.reply.Reply.TheVariants.{Ended, Value, Counters, Refused}
use Rattle.host_types.specs.Events.{tenant_of}

-- a text and its newline
abbrev pub line_of : List ℕ → List ℕ
line_of text = text ++ 10 ∷ []

-- the front of a line that speaks of a tenant, where one is named
abbrev pub tenant_front : Option ℕ → List ℕ
tenant_front None = []
tenant_front (Some t) = codes "tenant " ++ decimal t ++ codes " "

-- where a value stands
abbrev pub location_text : ℕ → ℕ → ℕ → List ℕ
location_text t m key = codes "tenant " ++ decimal t ++ codes " map " ++ decimal m ++ codes " key " ++ decimal key ++ codes " "

-- the line of a value that an event looked up: its location, and the bytes as hex text in lower case
abbrev pub value_line : Event → List ℕ → List ℕ
value_line (HostLookup t m key) value = line_of (location_text t m key ++ encode_lower value)
value_line event value = []

-- what is written of a reply to an event whose tenant's latest run has a number: the line of a run's end, of a
-- value or of a refusal, the lines of the counters, and nothing of other replies
abbrev pub reply_lines : Event → ℕ → Reply → List ℕ
reply_lines event run (Ended ret steps) =
    line_of (tenant_front (tenant_of event) ++ codes "run " ++ decimal run ++ codes " ret " ++ decimal ret ++ codes " steps " ++ decimal steps)
reply_lines event run (Refused fault) = line_of (tenant_front (tenant_of event) ++ refusal_text fault)
reply_lines event run (Value value) = value_line event value
reply_lines event run (Counters counters) = counters_text counters
reply_lines event run reply = []
