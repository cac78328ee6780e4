-- What a session notes and writes, one thing after the other.
use Rattle.std.proofs.Common.{◌≡◌, ℕ, zero, suc, ◌≤◌, Bool, true, false, ◌||◌, List, [], ◌∷◌, ◌++◌, replicate, length, take, min, arith, ◌+◌, option_map, length-take, length-append, Option, Some, None, Result, Ok, Err, is_ok, OnOk, append_assoc, append-nil, sym, ap, ap₂, refl, ◌∙◌, subst, subst₂, unwrap_or, IfSome, IsSome, true≢false, if◌then◌else◌}
use mir.Val.{bool_byte}
use Rattle.std.specs.Io.KnownBytes.{Appends, Keeps}
use Rattle.host_types.specs.OptionTable.{AreOptions}
use Rattle.page_table.specs.Limits.{AreLimits}
use Rattle.host_types.specs.declared.event.Event.{Event}
use Rattle.host_types.specs.declared.event.Event.TheVariants.{Begin, Step, Visit}
use Rattle.host_core.specs.declared.reply.Reply.{Reply}
use Rattle.host_core.specs.declared.reply.Reply.TheVariants.{Map, Program, Begun, Stepped, Ended, Visited, Done, Value, Counters, Refused}
use Rattle.host_core.specs.World.{System, IsCovered, new_system}
use Rattle.host_core.specs.Happens.{Happens, IsPromised, AllHappen, AreSteps, StepsHappen}
use Rattle.host_core.specs.HostView.{HostView, StandsForSystem}
use Rattle.host_types.specs.Events.{tenant_of}
use Rattle.host_file.specs.declared.command.Command.{Command}
use Rattle.host_file.specs.declared.command.Command.TheVariants.{Apply, Finish, Run}
use Rattle.host_file.specs.declared.command.Command.TheVariants as command
use Rattle.host_file.specs.declared.file.HostFile.{HostFile}
use Rattle.host_file.specs.HostFile.{IsFileText, max_bytes}
use Rattle.std.proofs.lemmas.List.{take_all, length-replicate, replicate-append-replicate}
use Rattle.std.proofs.Math.Nat.{suc-ne-zero}
use Rattle.host_core.proofs.Joined.{AllHappen-join}
use Rattle.engines.specs.declared.session.Session.{Session}
use Rattle.host_types.specs.Refusals.{refusal_text}
use Rattle.engines.specs.Lines.{line_of, reply_lines}
use Rattle.engines.specs.Replay.{AreOf, AreOfAll, AreIfBegun, AreStepsUpTo, AreStepsToEnd, AreVisits, IsReplayed, refused, happened, latest_run, begun_after, pages_after, pages_by, lines_from, is_refusal, has_refusal}
use Rattle.engines.specs.Sessions.{AreStepsMade, HasPrinted, HasNoted, IsOneEvent, HasPerformed, begun_by}

-- an output that took nothing
pub Appends-none : (known : Option (List ℕ)) → Appends known known []
Appends-none None = tt
Appends-none (Some xs) = sym (append-nil xs)

-- an output that took one thing and then another
pub Appends-join : (was mid_way is : Option (List ℕ)) (xs ys : List ℕ) → Appends was mid_way xs → Appends mid_way is ys → Appends was is (xs ++ ys)
Appends-join None mid_way is xs ys first second = tt
Appends-join (Some known) None is xs ys first second = absurd first
Appends-join (Some known) (Some more) None xs ys first second = absurd second
Appends-join (Some known) (Some more) (Some all) xs ys first second = second ∙ ap (λ zs. zs ++ ys) first ∙ append_assoc known xs ys

pub or-assoc : (a b c : Bool) → ((a || b) || c) ≡ (a || (b || c))
or-assoc true b c = refl
or-assoc false b c = refl

pub or-false : (a : Bool) → (a || false) ≡ a
or-false true = refl
or-false false = refl

-- the refusals of two lists
refusal-join : (replies further : List Reply) → has_refusal (replies ++ further) ≡ (has_refusal replies || has_refusal further)
refusal-join [] further = refl
refusal-join (reply ∷ replies) further =
    ap (λ b. is_refusal reply || b) (refusal-join replies further) ∙ sym (or-assoc (is_refusal reply) (has_refusal replies) (has_refusal further))

-- the lines of two lists
lines-join : (w next : System) (events more : List Event) (replies further : List Reply) (begun : List ℕ) → AllHappen w events replies next
    → lines_from begun (events ++ more) (replies ++ further) ≡ lines_from begun events replies ++ lines_from (begun_by begun events replies) more further
lines-join w next [] more [] further begun happen = refl
lines-join w next [] more (reply ∷ replies) further begun happen = absurd happen
lines-join w next (event ∷ events) more [] further begun happen = absurd happen
lines-join w next (event ∷ events) more (reply ∷ replies) further begun happen =
    let line = reply_lines event (latest_run begun (tenant_of event)) reply in
    let after = begun_after begun event reply in
    ap (λ xs. line ++ xs) (lines-join happen.0 next events more replies further after happen.4)
    ∙ sym (append_assoc line (lines_from after events replies) (lines_from (begun_by after events replies) more further))

-- the runs begun after two lists
begun-join : (w next : System) (events more : List Event) (replies further : List Reply) (begun : List ℕ) → AllHappen w events replies next
    → begun_by begun (events ++ more) (replies ++ further) ≡ begun_by (begun_by begun events replies) more further
begun-join w next [] more [] further begun happen = refl
begun-join w next [] more (reply ∷ replies) further begun happen = absurd happen
begun-join w next (event ∷ events) more [] further begun happen = absurd happen
begun-join w next (event ∷ events) more (reply ∷ replies) further begun happen =
    begun-join happen.0 next events more replies further (begun_after begun event reply) happen.4

-- there are as many replies as events
happen-as_long : (w next : System) (events : List Event) (replies : List Reply) → AllHappen w events replies next → length events ≡ length replies
happen-as_long w next [] [] happen = refl
happen-as_long w next [] (reply ∷ replies) happen = absurd happen
happen-as_long w next (event ∷ events) [] happen = absurd happen
happen-as_long w next (event ∷ events) (reply ∷ replies) happen = ap suc (happen-as_long happen.0 next events replies happen.4)

-- pages_to_scan after two lists
pages-join : (events more : List Event) (replies further : List Reply) (pages : ℕ) → length events ≡ length replies
    → pages_by pages (events ++ more) (replies ++ further) ≡ pages_by (pages_by pages events replies) more further
pages-join [] more [] further pages long = refl
pages-join [] more (reply ∷ replies) further pages long = absurd (suc-ne-zero (length replies) (sym long))
pages-join (event ∷ events) more [] further pages long = absurd (suc-ne-zero (length events) long)
pages-join (event ∷ events) more (reply ∷ replies) further pages long =
    pages-join events more replies further (pages_after pages event reply) (omega (arith, long))

-- what an output took, once it was passed on
Appends-kept : (was half is : Option (List ℕ)) (xs : List ℕ) → Appends was half xs → Keeps half is → Appends was is xs
Appends-kept None half is xs first kept = tt
Appends-kept (Some known) None is xs first kept = absurd first
Appends-kept (Some known) (Some more) None xs first kept = absurd kept
Appends-kept (Some known) (Some more) (Some all) xs first kept = kept ∙ first

-- nothing happened
pub noted-none : (w : System) (s : Session) (was is : Option (List ℕ)) → Appends was is [] → StandsForSystem s.host w → HasNoted [] [] w w s s was is
noted-none w s was is taken stands = record {
  stands = stands;
  happen = refl;
  begun = refl;
  pages = refl;
  refused = sym (or-false s.has_refused);
  written = taken;
}

-- one thing happened and then another
pub noted-join : (w mid next : System) (old half new : Session) (was mid_way is : Option (List ℕ)) (events more : List Event) (replies further : List Reply)
    → HasNoted events replies w mid old half was mid_way → HasNoted more further mid next half new mid_way is
    → HasNoted (events ++ more) (replies ++ further) w next old new was is
noted-join w mid next old half new was mid_way is events more replies further first second =
    let begun = old.begun.items in
    record {
      stands = second.stands;
      happen = AllHappen-join w mid next events more replies further first.happen second.happen;
      begun = second.begun ∙ ap (λ xs. begun_by xs more further) first.begun ∙ sym (begun-join w mid events more replies further begun first.happen);
      pages = second.pages ∙ ap (λ p. pages_by p more further) first.pages
          ∙ sym (pages-join events more replies further old.pages_to_scan (happen-as_long w mid events replies first.happen));
      refused = second.refused ∙ ap (λ b. b || has_refusal further) first.refused
          ∙ or-assoc old.has_refused (has_refusal replies) (has_refusal further)
          ∙ ap (λ b. old.has_refused || b) (sym (refusal-join replies further));
      written = subst (Appends was is) (sym (lines-join w mid events more replies further begun first.happen))
          (Appends-join was mid_way is (lines_from begun events replies) (lines_from (begun_by begun events replies) more further) first.written
          (subst (λ xs. Appends mid_way is (lines_from xs more further)) first.begun second.written));
    }

-- steps that are answered Stepped, and then one more: the lines, the runs and the refusals are those of the last reply
lines-steps : (n t : ℕ) (last : Reply) (begun : List ℕ)
    → lines_from begun (replicate n (Step t) ++ Step t ∷ []) (replicate n Stepped ++ last ∷ []) ≡ reply_lines (Step t) (latest_run begun (Some t)) last
lines-steps zero t last begun = append-nil (reply_lines (Step t) (latest_run begun (Some t)) last)
lines-steps (suc n) t last begun = lines-steps n t last begun

begun-steps : (n t : ℕ) (last : Reply) (begun : List ℕ)
    → begun_by begun (replicate n (Step t) ++ Step t ∷ []) (replicate n Stepped ++ last ∷ []) ≡ begun_after begun (Step t) last
begun-steps zero t last begun = refl
begun-steps (suc n) t last begun = begun-steps n t last begun

pages-steps : (n t : ℕ) (last : Reply) (pages : ℕ)
    → pages_by pages (replicate n (Step t) ++ Step t ∷ []) (replicate n Stepped ++ last ∷ []) ≡ pages_after pages (Step t) last
pages-steps zero t last pages = refl
pages-steps (suc n) t last pages = pages-steps n t last pages

refusal-steps : (n : ℕ) (last : Reply) → has_refusal (replicate n Stepped ++ last ∷ []) ≡ is_refusal last
refusal-steps zero last = or-false (is_refusal last)
refusal-steps (suc n) last = refusal-steps n last

-- steps that are answered Stepped alone: there is no line, no run and no refusal
lines-stepped : (n t : ℕ) (begun : List ℕ) → lines_from begun (replicate n (Step t)) (replicate n Stepped) ≡ []
lines-stepped zero t begun = refl
lines-stepped (suc n) t begun = lines-stepped n t begun

begun-stepped : (n t : ℕ) (begun : List ℕ) → begun_by begun (replicate n (Step t)) (replicate n Stepped) ≡ begun
begun-stepped zero t begun = refl
begun-stepped (suc n) t begun = begun-stepped n t begun

pages-stepped : (n t pages : ℕ) → pages_by pages (replicate n (Step t)) (replicate n Stepped) ≡ pages
pages-stepped zero t pages = refl
pages-stepped (suc n) t pages = pages-stepped n t pages

refusal-stepped : (n : ℕ) → has_refusal (replicate n Stepped) ≡ false
refusal-stepped zero = refl
refusal-stepped (suc n) = refusal-stepped n

-- the session with its host as it is after events
abbrev pub with_host : Session → HostView → Session
with_host s host = record s { host = host }

-- one event whose reply was reported
pub noted-printed : (w next : System) (host : HostView) (event : Event) (reply : Reply) (old new : Session) (was is : Option (List ℕ))
    → StandsForSystem host next → Happens w event reply next → IsPromised w event reply next → IsCovered next
    → HasPrinted event reply (with_host old host) new was is → HasNoted (event ∷ []) (reply ∷ []) w next old new was is
noted-printed w next host event reply old new was is stands happens promised covered printed = record {
  stands = subst (λ h. StandsForSystem h next) (sym printed.host) stands;
  happen = (next, happens, promised, covered, refl);
  begun = printed.begun;
  pages = printed.pages;
  refused = printed.refused ∙ ap (λ b. old.has_refused || b) (sym (or-false (is_refusal reply)));
  written = subst (Appends was is) (sym (append-nil (reply_lines event (latest_run old.begun.items (tenant_of event)) reply))) printed.written;
}

-- steps the last of which was reported
pub noted-steps : (w next : System) (host : HostView) (t limit : ℕ) (last : Reply) (events : List Event) (replies : List Reply) (old new : Session) (was is : Option (List ℕ))
    → StandsForSystem host next → AreSteps t limit (Some last) events replies → AllHappen w events replies next
    → HasPrinted (Step t) last (with_host old host) new was is → HasNoted events replies w next old new was is
noted-steps w next host t limit last events replies old new was is stands (n, few, other, steps, answers) happen printed =
    let begun = old.begun.items in
    let some = replicate n (Step t) ++ Step t ∷ [] in
    let answered = replicate n Stepped ++ last ∷ [] in
    subst₂ (λ es rs. HasNoted es rs w next old new was is) (sym steps) (sym answers) (record {
      stands = subst (λ h. StandsForSystem h next) (sym printed.host) stands;
      happen = subst₂ (λ es rs. AllHappen w es rs next) steps answers happen;
      begun = printed.begun ∙ sym (begun-steps n t last begun);
      pages = printed.pages ∙ sym (pages-steps n t last old.pages_to_scan);
      refused = printed.refused ∙ ap (λ b. old.has_refused || b) (sym (refusal-steps n last));
      written = subst (Appends was is) (sym (lines-steps n t last begun)) printed.written;
    })

-- steps that are answered Stepped alone
pub noted-stepped : (w next : System) (host : HostView) (t limit : ℕ) (events : List Event) (replies : List Reply) (old : Session) (was : Option (List ℕ))
    → StandsForSystem host next → AreSteps t limit None events replies → AllHappen w events replies next
    → HasNoted events replies w next old (with_host old host) was was
noted-stepped w next host t limit events replies old was stands (steps, answers) happen =
    let begun = old.begun.items in
    subst₂ (λ es rs. HasNoted es rs w next old (with_host old host) was was) (sym steps) (sym answers) (record {
      stands = stands;
      happen = subst₂ (λ es rs. AllHappen w es rs next) steps answers happen;
      begun = sym (begun-stepped limit t begun);
      pages = sym (pages-stepped limit t old.pages_to_scan);
      refused = sym (or-false old.has_refused) ∙ ap (λ b. old.has_refused || b) (sym (refusal-stepped limit));
      written = subst (Appends was was) (sym (lines-stepped limit t begun)) (Appends-none was);
    })

-- a reply to what opens a run has the lines that it has as a reply to a step
pub begin-lines : (t program run : ℕ) (context : List ℕ) (reply : Reply) → reply_lines (Step t) run reply ≡ reply_lines (Begin t program context) run reply
begin-lines t program run context (Map m) = refl
begin-lines t program run context (Program k) = refl
begin-lines t program run context Begun = refl
begin-lines t program run context Stepped = refl
begin-lines t program run context (Ended ret steps) = refl
begin-lines t program run context (Visited visited) = refl
begin-lines t program run context Done = refl
begin-lines t program run context (Value value) = refl
begin-lines t program run context (Counters counters) = refl
begin-lines t program run context (Refused fault) = refl

-- and as many runs are begun after it
begin-begun : (t program : ℕ) (context begun : List ℕ) (reply : Reply) → begun_after begun (Step t) reply ≡ begun_after begun (Begin t program context) reply
begin-begun t program context begun (Map m) = refl
begin-begun t program context begun (Program k) = refl
begin-begun t program context begun Begun = refl
begin-begun t program context begun Stepped = refl
begin-begun t program context begun (Ended ret steps) = refl
begin-begun t program context begun (Visited visited) = refl
begin-begun t program context begun Done = refl
begin-begun t program context begun (Value value) = refl
begin-begun t program context begun (Counters counters) = refl
begin-begun t program context begun (Refused fault) = refl

-- what a session noted and wrote of it as a reply to a step
begin-printed : (t program : ℕ) (context : List ℕ) (reply : Reply) (old new : Session) (was is : Option (List ℕ))
    → HasPrinted (Step t) reply old new was is → HasPrinted (Begin t program context) reply old new was is
begin-printed t program context reply old new was is printed = record {
  host = printed.host;
  begun = printed.begun ∙ begin-begun t program context old.begun.items reply;
  pages = printed.pages;
  refused = printed.refused;
  written = subst (Appends was is) (begin-lines t program (latest_run old.begun.items (Some t)) context reply) printed.written;
}

-- what is asked of the events may be said otherwise
pub performs-as : (Asked Said : List Event → List Reply → Type 0) (old new : Session) (was is : Option (List ℕ))
    → ((events : List Event) (replies : List Reply) → Asked events replies → Said events replies)
    → HasPerformed Asked old new was is → HasPerformed Said old new was is
performs-as Asked Said old new was is so performs w stands =
    let (events, replies, next, asked, noted) = performs w stands in
    (events, replies, next, so events replies asked, noted)

-- steps up to a limit
pub made-up_to : (t limit : ℕ) (events : List Event) (replies : List Reply) → AreStepsMade t limit events replies → AreStepsUpTo t limit events replies
made-up_to t limit events replies made = (made.0, made.1)

-- steps to the end, where the limit is great
pub made-to_end : (t limit : ℕ) → 4294967296 ≤ limit → (events : List Event) (replies : List Reply) → AreStepsMade t limit events replies → AreStepsToEnd t events replies
made-to_end t limit great events replies (None, steps, ends) = absurd (true≢false (sym (ends great)))
made-to_end t limit great events replies (Some last, steps, ends) = (limit, last, steps)

-- the host made steps, up to a limit
abbrev pub Makes : HostView → HostView → ℕ → ℕ → Option Reply → Type 0
Makes old new t limit last = (w : System) → StandsForSystem old w → (next : System) × StandsForSystem new next × StepsHappen w t limit last next

-- steps of which the last was reported
pub performs-steps : (host : HostView) (t limit : ℕ) (last : Reply) (old new : Session) (was is : Option (List ℕ))
    → Makes old.host host t limit (Some last) → HasPrinted (Step t) last (with_host old host) new was is → HasPerformed (AreStepsMade t limit) old new was is
performs-steps host t limit last old new was is makes printed w stands =
    let (next, stands', (events, replies, steps, happen)) = makes w stands in
    (events, replies, next, (Some last, steps, λ great. refl), noted-steps w next host t limit last events replies old new was is stands' steps happen printed)

-- steps of which none was reported
pub performs-stepped : (host : HostView) (t limit : ℕ) (old : Session) (was : Option (List ℕ))
    → Makes old.host host t limit None → (4294967296 ≤ limit → IsSome {T = Reply} None) → HasPerformed (AreStepsMade t limit) old (with_host old host) was was
performs-stepped host t limit old was makes ends w stands =
    let (next, stands', (events, replies, steps, happen)) = makes w stands in
    (events, replies, next, (None, steps, ends), noted-stepped w next host t limit events replies old was stands' steps happen)

-- an event that happened alone
pub performs-printed : (host : HostView) (event : Event) (reply : Reply) (old new : Session) (was is : Option (List ℕ))
    → ((x : System) → StandsForSystem old.host x
    → (next : System) × StandsForSystem host next × Happens x event reply next × IsPromised x event reply next × IsCovered next)
    → HasPrinted event reply (with_host old host) new was is → HasPerformed (IsOneEvent event reply) old new was is
performs-printed host event reply old new was is happens printed w stands =
    let (next, stands', happen, promised, covered) = happens w stands in
    (event ∷ [], reply ∷ [], next, (refl, refl), noted-printed w next host event reply old new was is stands' happen promised covered printed)

-- the event that is to open a run, on a context that was read where it is
pub performs-begin : (host : HostView) (t program : ℕ) (read context : List ℕ) (reply : Reply) (old new : Session) (was is : Option (List ℕ)) → read ≡ context
    → ((x : System) → StandsForSystem old.host x
    → (next : System) × StandsForSystem host next × Happens x (Begin t program read) reply next × IsPromised x (Begin t program read) reply next × IsCovered next)
    → HasPrinted (Step t) reply (with_host old host) new was is → HasPerformed (IsOneEvent (Begin t program context) reply) old new was is
performs-begin host t program read context reply old new was is same happens printed =
    subst (λ bytes. HasPerformed (IsOneEvent (Begin t program bytes) reply) old new was is) same
    (performs-printed host (Begin t program read) reply old new was is happens
    (begin-printed t program read reply (with_host old host) new was is printed))

-- a run that began and went on
pub performs-run : (pages t program : ℕ) (context : List ℕ) (old half new : Session) (was mid_way is : Option (List ℕ))
    → HasPerformed (IsOneEvent (Begin t program context) Begun) old half was mid_way → HasPerformed (AreStepsToEnd t) half new mid_way is
    → HasPerformed (AreOf pages (Run t program context)) old new was is
performs-run pages t program context old half new was mid_way is begins goes w stands =
    let (first, replied, mid, (one, answer), noted) = begins w stands in
    let (more, further, next, steps, noted') = goes mid noted.stands in (
      first ++ more,
      replied ++ further,
      next,
      (Begun, more, further, ap (λ es. es ++ more) one, ap (λ rs. rs ++ further) answer, steps),
      noted-join w mid next old half new was mid_way is first more replied further noted noted',
    )

not_begun : (t : ℕ) (reply : Reply) → (reply ≡ Begun → ⊥) → AreIfBegun t reply [] []
not_begun t (Map m) other = (refl, refl)
not_begun t (Program k) other = (refl, refl)
not_begun t Begun other = absurd (other refl)
not_begun t Stepped other = (refl, refl)
not_begun t (Ended ret steps) other = (refl, refl)
not_begun t (Visited visited) other = (refl, refl)
not_begun t Done other = (refl, refl)
not_begun t (Value value) other = (refl, refl)
not_begun t (Counters counters) other = (refl, refl)
not_begun t (Refused fault) other = (refl, refl)

-- a run that didn't begin
pub performs-no_run : (pages t program : ℕ) (context : List ℕ) (reply : Reply) (old new : Session) (was is : Option (List ℕ)) → (reply ≡ Begun → ⊥)
    → HasPerformed (IsOneEvent (Begin t program context) reply) old new was is → HasPerformed (AreOf pages (Run t program context)) old new was is
performs-no_run pages t program context reply old new was is other =
    performs-as (IsOneEvent (Begin t program context) reply) (AreOf pages (Run t program context)) old new was is
    (λ events replies alone. (reply, [], [], alone.0, alone.1, not_begun t reply other))

-- no visits, once what was written is passed on, and one more visit
pub performs-no_visit : (old : Session) (was is : Option (List ℕ)) → Keeps was is → HasPerformed (AreVisits 0) old old was is
performs-no_visit old was is kept w stands = ([], [], w, (refl, refl), noted-none w old was is (Appends-kept was was is [] (Appends-none was) kept) stands)

one-more : (n : ℕ) → replicate n Visit ++ Visit ∷ [] ≡ replicate (n + 1) Visit
one-more n = replicate-append-replicate n 1 Visit

pub performs-visit : (n : ℕ) (reply : Reply) (old half new : Session) (was mid_way is : Option (List ℕ))
    → HasPerformed (AreVisits n) old half was mid_way → HasPerformed (IsOneEvent Visit reply) half new mid_way is → HasPerformed (AreVisits (n + 1)) old new was is
performs-visit n reply old half new was mid_way is before last w stands =
    let (first, replied, mid, (visits, counted), noted) = before w stands in
    let (more, further, next, (one, answer), noted') = last mid noted.stands in (
      first ++ more,
      replied ++ further,
      next,
      (
        ap (λ es. es ++ more) visits ∙ ap (λ es. replicate n Visit ++ es) one ∙ one-more n,
        length-append replied further ∙ ap (λ k. k + length further) counted ∙ ap (λ rs. n + length rs) answer,
      ),
      noted-join w mid next old half new was mid_way is first more replied further noted noted',
    )

-- steps have as many replies
steps-as_long : (t limit : ℕ) (last : Option Reply) (events : List Event) (replies : List Reply) → AreSteps t limit last events replies → length events ≡ length replies
steps-as_long t limit None events replies (steps, answers) =
    ap length steps ∙ length-replicate limit (Step t) ∙ sym (length-replicate limit Stepped) ∙ sym (ap length answers)
steps-as_long t limit (Some last) events replies (n, few, other, steps, answers) =
    ap length steps ∙ length-append (replicate n (Step t)) (Step t ∷ []) ∙ ap (λ k. k + 1) (length-replicate n (Step t))
    ∙ sym (ap (λ k. k + 1) (length-replicate n Stepped)) ∙ sym (length-append (replicate n Stepped) (last ∷ [])) ∙ sym (ap length answers)

begun-as_long : (t : ℕ) (reply : Reply) (events : List Event) (replies : List Reply) → AreIfBegun t reply events replies → length events ≡ length replies
begun-as_long t (Map m) events replies none = ap length none.0 ∙ sym (ap length none.1)
begun-as_long t (Program k) events replies none = ap length none.0 ∙ sym (ap length none.1)
begun-as_long t Begun events replies (limit, last, steps) = steps-as_long t limit (Some last) events replies steps
begun-as_long t Stepped events replies none = ap length none.0 ∙ sym (ap length none.1)
begun-as_long t (Ended ret steps) events replies none = ap length none.0 ∙ sym (ap length none.1)
begun-as_long t (Visited visited) events replies none = ap length none.0 ∙ sym (ap length none.1)
begun-as_long t Done events replies none = ap length none.0 ∙ sym (ap length none.1)
begun-as_long t (Value value) events replies none = ap length none.0 ∙ sym (ap length none.1)
begun-as_long t (Counters counters) events replies none = ap length none.0 ∙ sym (ap length none.1)
begun-as_long t (Refused fault) events replies none = ap length none.0 ∙ sym (ap length none.1)

-- the events of a command have as many replies
of-as_long : (pages : ℕ) (command : Command) (events : List Event) (replies : List Reply) → AreOf pages command events replies → length events ≡ length replies
of-as_long pages (Apply event) events replies (reply, one, answer) = ap length one ∙ sym (ap length answer)
of-as_long pages (command.Step t count) events replies (last, steps) = steps-as_long t count last events replies steps
of-as_long pages (Finish t) events replies (limit, last, steps) = steps-as_long t limit (Some last) events replies steps
of-as_long pages (Run t program context) events replies (reply, more, further, are, print, begun) =
    ap length are ∙ ap suc (begun-as_long t reply more further begun) ∙ sym (ap length print)
of-as_long pages (command.Visit count) events replies (visits, counted) =
    ap length visits ∙ length-replicate (unwrap_or count pages) Visit ∙ sym counted

-- no commands
pub performs-none : (pages : ℕ) (old : Session) (was : Option (List ℕ)) → HasPerformed (AreOfAll pages []) old old was was
performs-none pages old was w stands = ([], [], w, (refl, refl), noted-none w old was was (Appends-none was) stands)

-- one more command
are_of-push : (pages : ℕ) (commands : List Command) (command : Command) (events more : List Event) (replies further : List Reply)
    → AreOfAll pages commands events replies → AreOf (pages_by pages events replies) command more further
    → AreOfAll pages (commands ++ command ∷ []) (events ++ more) (replies ++ further)
are_of-push pages [] command events more replies further (none, no_reply) one = (
  more,
  [],
  further,
  [],
  ap (λ es. es ++ more) none ∙ sym (append-nil more),
  ap (λ rs. rs ++ further) no_reply ∙ sym (append-nil further),
  subst₂ (λ es rs. AreOf (pages_by pages es rs) command more further) none no_reply one,
  (refl, refl),
)
are_of-push pages (c ∷ commands) command events more replies further (first, rest, replied, answered, are, print, of_first, of_rest) one =
    let after : pages_by pages events replies ≡ pages_by (pages_by pages first replied) rest answered =
    ap₂ (λ es rs. pages_by pages es rs) are print ∙ pages-join first rest replied answered pages (of-as_long pages c first replied of_first) in (
      first,
      rest ++ more,
      replied,
      answered ++ further,
      ap (λ es. es ++ more) are ∙ append_assoc first rest more,
      ap (λ rs. rs ++ further) print ∙ append_assoc replied answered further,
      of_first,
      are_of-push (pages_by pages first replied) commands command rest more answered further of_rest
          (subst (λ p. AreOf p command more further) after one),
    )

pub performs-push : (commands : List Command) (command : Command) (old half new : Session) (was mid_way is : Option (List ℕ))
    → HasPerformed (AreOfAll old.pages_to_scan commands) old half was mid_way → HasPerformed (AreOf half.pages_to_scan command) half new mid_way is
    → HasPerformed (AreOfAll old.pages_to_scan (commands ++ command ∷ [])) old new was is
performs-push commands command old half new was mid_way is before last w stands =
    let (first, replied, mid, of_first, noted) = before w stands in
    let (more, further, next, of_last, noted') = last mid noted.stands in (
      first ++ more,
      replied ++ further,
      next,
      are_of-push old.pages_to_scan commands command first more replied further of_first
          (subst (λ pages. AreOf pages command more further) noted.pages of_last),
      noted-join w mid next old half new was mid_way is first more replied further noted noted',
    )

-- a status as a byte
pub byte-status : (b : Bool) → bool_byte b ≡ (if b then 1 else 0)
byte-status true = refl
byte-status false = refl

-- a new session that performed all commands of a file
pub replayed-performed : (file : HostFile) (old new : Session) (was is : Option (List ℕ)) (status : ℕ)
    → AreLimits file.frames file.tenants × AreOptions file.options → StandsForSystem old.host (new_system file.frames file.tenants file.options) → old.begun.items ≡ replicate file.tenants 0
    → old.pages_to_scan ≡ file.options.pages_to_scan → old.has_refused ≡ false
    → HasPerformed (AreOfAll old.pages_to_scan file.commands) old new was is → status ≡ (if new.has_refused then 1 else 0) → IsReplayed file was is status
replayed-performed file old new was is status limits stands begun pages clean performs printed =
    let (events, replies, next, are, noted) = performs (new_system file.frames file.tenants file.options) stands in
    happened limits.0 limits.1 events replies next (subst (λ p. AreOfAll p file.commands events replies) pages are) noted.happen
    (printed ∙ ap (λ b. if b then 1 else 0) (noted.refused ∙ ap (λ b. b || has_refusal replies) clean))
    (subst (λ counts. Appends was is (lines_from counts events replies)) begun noted.written)

-- an output that was passed on
replayed-kept : (file : HostFile) (was half is : Option (List ℕ)) (status : ℕ) → Keeps half is → IsReplayed file was half status → IsReplayed file was is status
replayed-kept file was half is status kept (refused fault why printed took) = refused fault why printed (Appends-kept was half is (line_of (refusal_text fault)) took kept)
replayed-kept file was half is status kept (happened frames options events replies w are happen printed took) =
    happened frames options events replies w are happen printed (Appends-kept was half is (lines_from (replicate file.tenants 0) events replies) took kept)

-- and where what was read is known
pub replayed-read : (read : Option (List ℕ)) (file : HostFile) (was half is : Option (List ℕ)) (status : ℕ)
    → IfSome read (λ bytes. (length bytes ≤ max_bytes) × IsFileText bytes file) → Keeps half is → IsReplayed file was half status
    → IfSome read (λ bytes. (length bytes ≤ max_bytes) × ((f : HostFile) × IsFileText bytes f × IsReplayed f was is status))
replayed-read None file was half is status text kept replayed = tt
replayed-read (Some bytes) file was half is status text kept replayed = (text.0, (file, text.1, replayed-kept file was half is status kept replayed))

-- what was read of the front of the bytes is all of them, where it isn't longer than they may be
pub read-all : (known : Option (List ℕ)) (limit : ℕ) (read : List ℕ) → IfSome (option_map (take (limit + 1)) known) (λ front. read ≡ front)
    → length read ≤ limit → IfSome known (λ bytes. (length bytes ≤ limit) × (read ≡ bytes))
read-all None limit read is short = tt
read-all (Some bytes) limit read is short =
    let count : length read ≡ min (limit + 1) (length bytes) = ap length is ∙ length-take (limit + 1) bytes in
    let few : length bytes ≤ limit = omega (arith, count, short) in
    (few, is ∙ take_all (limit + 1) bytes (omega (arith, few)))

-- what holds of a result that is Ok
pub of-ok : {T E : Type 0} (P : Type 0) (r : Result T E) → is_ok r ≡ true → OnOk r P → P
of-ok P (Ok x) is holds = holds
of-ok P (Err e) is holds = absurd (true≢false (sym is))
