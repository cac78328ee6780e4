-- Lines of lookups, one after the other.
use Rattle.std.proofs.Common.{◌≡◌, ◌∙◌, ◌<◌, ◌≤◌, ◌+◌, ◌||◌, ℕ, zero, suc, Bool, List, [], ◌∷◌, ◌++◌, length, get_or, drop, map, append_assoc, append-nil, sym, ap, refl, subst, Option, Result, Ok, Err, IfOk, IfErr, MatchOption, MatchResult, arith}
use Rattle.std.specs.Io.KnownBytes.{Appends}
use Rattle.std.proofs.lemmas.List.{drop_more}
use Rattle.host_types.specs.declared.fault.Fault.{Fault}
use Rattle.host_types.specs.declared.fault.Fault.TheVariants.{BadTenant}
use Rattle.host_types.specs.Tenant.{TenantPart}
use Rattle.host_calls.specs.Calls.{IsValue, RefusesLookup}
use Rattle.host_types.specs.declared.event.Event.{Event}
use Rattle.host_types.specs.declared.event.Event.TheVariants.{HostLookup}
use Rattle.host_core.specs.declared.reply.Reply.{Reply}
use Rattle.host_core.specs.declared.reply.Reply.TheVariants.{Value, Refused}
use Rattle.host_file.specs.declared.command.Command.{Command}
use Rattle.host_file.specs.declared.command.Command.TheVariants.{Apply}
use Rattle.engines.specs.Lines.{reply_lines}
use Rattle.engines.specs.Replay.{is_refusal}
use Rattle.serving.specs.Lookups.{AreLookedUp, IsAnswerIn, IsLookedUp, lookup_by, lookup_tellings, lookups_in}
use Rattle.serving.specs.Report.{Telling, Answered, HasWritten}
use Rattle.serving.proofs.Indices.{at-mapped}
use Rattle.serving.proofs.Tellings.{printed-join, printed-none, printed-one}

-- lines were written, and with those of the lookups that are left they are those of all
pub record ArePrintedUpTo (parts : List TenantPart) (all rest : List Event) (before after : Bool) (was is : Option (List ℕ)) : Type 0 where
  pub printed : List Telling
  pub written : HasWritten printed before after was is
  pub follows : (answers : List Reply) → AreLookedUp parts rest answers → (replies : List Reply) × AreLookedUp parts all replies × (printed ++ lookup_tellings rest answers ≡ lookup_tellings all replies)

pub lookups-none : (parts : List TenantPart) (all : List Event) (refused : Bool) (was : Option (List ℕ)) → ArePrintedUpTo parts all all refused refused was was
lookups-none parts all refused was = record { printed = []; written = printed-none refused was; follows = λ answers looked. (answers, looked, refl) }

-- one more line
pub lookups-next : (parts : List TenantPart) (all rest later : List Event) (event : Event) (reply : Reply) (before mid_way after : Bool) (was half is : Option (List ℕ)) → rest ≡ event ∷ later
    → IsLookedUp parts event reply → after ≡ (mid_way || is_refusal reply) → Appends half is (reply_lines event 0 reply)
    → ArePrintedUpTo parts all rest before mid_way was half → ArePrintedUpTo parts all later before after was is
lookups-next parts all rest later event reply before mid_way after was half is next answered noted more so_far = record {
  printed = so_far.printed ++ Answered event 0 reply ∷ [];
  written = printed-join so_far.printed (Answered event 0 reply ∷ []) before mid_way after was half is so_far.written (printed-one (Answered event 0 reply) mid_way after half is noted more);
  follows = λ answers looked.
      let (replies, all_looked, same) = subst (λ events. (answers : List Reply) → AreLookedUp parts events answers
      → (replies : List Reply) × AreLookedUp parts all replies × (so_far.printed ++ lookup_tellings events answers ≡ lookup_tellings all replies)) next so_far.follows (reply ∷ answers) (answered, looked) in
      (replies, all_looked, append_assoc so_far.printed (Answered event 0 reply ∷ []) (lookup_tellings later answers) ∙ same);
}

-- a command that looks nothing up
pub lookups-on : (parts : List TenantPart) (all rest later : List Event) (before after : Bool) (was is : Option (List ℕ)) → rest ≡ later
    → ArePrintedUpTo parts all rest before after was is → ArePrintedUpTo parts all later before after was is
lookups-on parts all rest later before after was is same so_far = subst (λ events. ArePrintedUpTo parts all events before after was is) same so_far

-- all of them
pub lookups-all : (parts : List TenantPart) (all rest : List Event) (before after : Bool) (was is : Option (List ℕ)) → rest ≡ [] → ArePrintedUpTo parts all rest before after was is
    → (answers : List Reply) × AreLookedUp parts all answers × HasWritten (lookup_tellings all answers) before after was is
lookups-all parts all rest before after was is none so_far =
    let (replies, looked, same) = subst (λ events. (answers : List Reply) → AreLookedUp parts events answers
    → (replies : List Reply) × AreLookedUp parts all replies × (so_far.printed ++ lookup_tellings events answers ≡ lookup_tellings all replies)) none so_far.follows [] tt in
    (replies, looked, subst (λ tellings. HasWritten tellings before after was is) (sym (append-nil so_far.printed) ∙ same) so_far.written)

-- the lookups from an index on
pub lookups-more : (commands : List Command) (index : ℕ) (command : Command) → index < length commands → command ≡ get_or commands index command
    → lookups_in (drop index commands) ≡ lookup_by command ++ lookups_in (drop (index + 1) commands)
lookups-more commands index command within is =
    ap lookups_in (drop_more commands index command within) ∙ ap (λ c. lookup_by c ++ lookups_in (drop (index + 1) commands)) (sym is)

-- the answer by what was read
answer-in : {V : Type 0} (bytes_of : V → List ℕ) (owned : TenantPart) (m key : ℕ) (value : Result V Fault) (reply : Reply)
    → IfOk value (λ v. IsValue owned m key (bytes_of v)) → IfErr value (RefusesLookup owned m key) → MatchResult value (λ v. reply ≡ Value (bytes_of v)) (λ fault. reply ≡ Refused fault)
    → IsAnswerIn owned m key reply
answer-in bytes_of owned m key (Ok v) reply is refused same = subst (IsAnswerIn owned m key) (sym same) is
answer-in bytes_of owned m key (Err fault) reply is refused same = subst (IsAnswerIn owned m key) (sym same) refused

pub looked-up : {X V : Type 0} (f : X → TenantPart) (bytes_of : V → List ℕ) (plans : List X) (tenant m key : ℕ) (plan : X) (value : Result V Fault) (reply : Reply)
    → tenant < length plans
    → IfOk value (λ v. IsValue (f (get_or plans tenant plan)) m key (bytes_of v)) → IfErr value (RefusesLookup (f (get_or plans tenant plan)) m key)
    → MatchResult value (λ v. reply ≡ Value (bytes_of v)) (λ fault. reply ≡ Refused fault)
    → IsLookedUp (map f plans) (HostLookup tenant m key) reply
looked-up f bytes_of plans tenant m key plan value reply within is refused same =
    subst (λ found. MatchOption found (reply ≡ Refused BadTenant) (λ owned. IsAnswerIn owned m key reply)) (sym (at-mapped f plans tenant plan within))
    (answer-in bytes_of (f (get_or plans tenant plan)) m key value reply is refused same)

-- the lookups from an index on, by what the command there looks up
pub lookups-step : (commands : List Command) (index : ℕ) (command named : Command) (found : List Event) → index < length commands → command ≡ get_or commands index command
    → command ≡ named → lookup_by named ≡ found → lookups_in (drop index commands) ≡ found ++ lookups_in (drop (index + 1) commands)
lookups-step commands index command named found within is same finds =
    lookups-more commands index command within is ∙ ap (λ c. lookup_by c ++ lookups_in (drop (index + 1) commands)) same
    ∙ ap (λ events. events ++ lookups_in (drop (index + 1) commands)) finds

-- one more line, of the command at an index, which looks a value up
pub lookups-printed : (parts found : List TenantPart) (commands : List Command) (index : ℕ) (command : Command) (event : Event) (reply : Reply) (before mid_way after : Bool) (was half is : Option (List ℕ))
    → index < length commands → command ≡ get_or commands index command → command ≡ Apply event → found ≡ parts
    → (lookup_by (Apply event) ≡ event ∷ []) × IsLookedUp found event reply → after ≡ (mid_way || is_refusal reply) → Appends half is (reply_lines event 0 reply)
    → ArePrintedUpTo parts (lookups_in commands) (lookups_in (drop index commands)) before mid_way was half
    → ArePrintedUpTo parts (lookups_in commands) (lookups_in (drop (index + 1) commands)) before after was is
lookups-printed parts found commands index command event reply before mid_way after was half is within at named same answered noted more so_far =
    lookups-next parts (lookups_in commands) (lookups_in (drop index commands)) (lookups_in (drop (index + 1) commands)) event reply before mid_way after was half is
    (lookups-step commands index command (Apply event) (event ∷ []) within at named answered.0)
    (subst (λ parts. IsLookedUp parts event reply) same answered.1) noted more so_far

-- none is left
pub lookups-end : (commands : List Command) (index : ℕ) → length commands ≤ index → lookups_in (drop index commands) ≡ []
lookups-end [] zero past = refl
lookups-end [] (suc index) past = refl
lookups-end (command ∷ commands) zero past = absurd (omega (arith, past))
lookups-end (command ∷ commands) (suc index) past = lookups-end commands index (omega (arith, past))
