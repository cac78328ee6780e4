-- What is reported of runs, one after the other.
use Rattle.std.proofs.Common.{◌≡◌, ◌∙◌, ◌<◌, ◌+◌, ℕ, List, [], ◌∷◌, ◌++◌, length, get_or, drop, map, sym, ap, refl, Result, Ok, Err, is_ok, Bool, true, false, ◌≤◌, arith}
use mir.Val.{bool_byte}
use Rattle.std.proofs.lemmas.List.{drop_all, drop_more}
use Rattle.host_types.specs.declared.fault.Fault.{Fault}
use Rattle.tenant_runs.specs.declared.answers.RunReply.{RunReply}
use Rattle.host_types.specs.declared.event.Event.{Event}
use Rattle.host_file.specs.declared.command.Command.{Command}
use Rattle.serving.specs.RunLines.{all_run_tellings, beginning_for, beginnings_for, count_made, run_tellings, whole_reply}
use Rattle.serving.specs.Report.{Answered}

-- the beginnings from an index on
pub beginnings-more : (tenant : ℕ) (commands : List Command) (index : ℕ) (command : Command) → index < length commands → command ≡ get_or commands index command
    → beginnings_for tenant (drop index commands) ≡ beginning_for tenant command ++ beginnings_for tenant (drop (index + 1) commands)
beginnings-more tenant commands index command within is = ap (beginnings_for tenant) (drop_more commands index command within) ∙ ap (λ c. beginning_for tenant c ++ beginnings_for tenant (drop (index + 1) commands)) (sym is)

-- what is reported of one more tenant
pub tenants-more : {X : Type 0} (f : X → List (Result RunReply Fault)) (commands : List Command) (tenant : ℕ) (plans : List X) (index : ℕ) (plan : X) (replies : List (Result RunReply Fault))
    → index < length plans → plan ≡ get_or plans index plan → replies ≡ f plan
    → all_run_tellings commands tenant (map f (drop index plans)) ≡ run_tellings (beginnings_for tenant commands) replies 0 ++ all_run_tellings commands (tenant + 1) (map f (drop (index + 1) plans))
tenants-more f commands tenant plans index plan replies within is same =
    ap (λ rest. all_run_tellings commands tenant (map f rest)) (drop_more plans index plan within)
    ∙ ap (λ p. run_tellings (beginnings_for tenant commands) p 0 ++ all_run_tellings commands (tenant + 1) (map f (drop (index + 1) plans))) (ap f (sym is) ∙ sym same)

-- what is reported of one more run
pub runs-more : (tenant : ℕ) (commands : List Command) (index : ℕ) (command : Command) (event : Event) (replies after : List (Result RunReply Fault)) (reply : Result RunReply Fault) (made next : ℕ)
    → index < length commands → command ≡ get_or commands index command → beginning_for tenant command ≡ event ∷ [] → replies ≡ reply ∷ after → next ≡ count_made made reply
    → run_tellings (beginnings_for tenant (drop index commands)) replies made
    ≡ Answered event made (whole_reply reply) ∷ run_tellings (beginnings_for tenant (drop (index + 1) commands)) after next
runs-more tenant commands index command event replies after reply made next within is begins same counted =
    rw (beginnings-more tenant commands index command within is, begins, same, counted) refl

-- a command that begins none
pub runs-on : (tenant : ℕ) (commands : List Command) (index : ℕ) (command : Command) (replies : List (Result RunReply Fault)) (made : ℕ)
    → index < length commands → command ≡ get_or commands index command → beginning_for tenant command ≡ []
    → run_tellings (beginnings_for tenant (drop index commands)) replies made ≡ run_tellings (beginnings_for tenant (drop (index + 1) commands)) replies made
runs-on tenant commands index command replies made within is none =
    ap (λ events. run_tellings events replies made) (beginnings-more tenant commands index command within is ∙ ap (λ events. events ++ beginnings_for tenant (drop (index + 1) commands)) none)

-- without a reply nothing is reported
pub runs-none : (events : List Event) (replies : List (Result RunReply Fault)) (made : ℕ) → replies ≡ [] → run_tellings events replies made ≡ []
runs-none [] replies made none = refl
runs-none (event ∷ events) replies made none = ap (λ r. run_tellings (event ∷ events) r made) none

-- no command is left
pub runs-end : (tenant : ℕ) (commands : List Command) (index : ℕ) (replies : List (Result RunReply Fault)) (made : ℕ) → length commands ≤ index
    → run_tellings (beginnings_for tenant (drop index commands)) replies made ≡ []
runs-end tenant commands index replies made past = rw (drop_all index commands past) refl

-- no tenant is left
pub tenants-end : {X : Type 0} (f : X → List (Result RunReply Fault)) (commands : List Command) (tenant : ℕ) (plans : List X) (index : ℕ) → length plans ≤ index
    → all_run_tellings commands tenant (map f (drop index plans)) ≡ []
tenants-end f commands tenant plans index past = rw (drop_all index plans past) refl

-- a run that was made is one more
pub made-count : (reply : Result RunReply Fault) (made : ℕ) → made + bool_byte (is_ok reply) ≡ count_made made reply
made-count (Ok reply) made = refl
made-count (Err fault) made = omega arith

pub byte-most : (b : Bool) → bool_byte b ≤ 1
byte-most true = omega arith
byte-most false = omega arith
