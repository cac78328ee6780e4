-- What came of the tenants of a served file.
use Rattle.std.proofs.Common.{◌≡◌, ◌∙◌, ◌<◌, ◌≤◌, inl, inr, Any, ℕ, zero, suc, Bool, true, false, if◌then◌else◌, List, [], ◌∷◌, ◌++◌, length, get_or, map, take, take_at, All, Option, Some, None, Result, Ok, Err, IfOk, OnOk, is_err, true≢false, ap, refl, subst, subst₂, sym, arith}
use Rattle.std.specs.Prelude.{IfSome, slice_get}
use Rattle.std.specs.Io.KnownBytes.{Appends, Keeps}
use Rattle.std.proofs.lemmas.List.{length-map}
use Rattle.host_types.specs.OptionTable.{AreOptions}
use Rattle.page_table.specs.Limits.{AreLimits}
use Rattle.host_types.specs.declared.fault.Fault.{Fault}
use Rattle.host_types.specs.declared.event.Event.{Event}
use Rattle.host_core.specs.declared.reply.Reply.{Reply}
use Rattle.host_core.specs.declared.reply.Reply.TheVariants.{Refused}
use Rattle.host_file.specs.declared.command.Command.{Command}
use Rattle.host_file.specs.declared.file.HostFile.{HostFile}
use Rattle.host_file.specs.HostFile.{IsFileText, max_bytes}
use Rattle.host_file.specs.Served.{IsServedCommand}
use Rattle.turn.specs.Seats.{own_part}
use Rattle.tenant_workers.specs.declared.plans.TenantPlan.{TenantPlan}
use Rattle.tenant_workers.specs.Jobs.{AreEach}
use Rattle.tenant_workers.specs.Plans.{AreAnswered, AreServed, IsPlanServed, Planned, planned_by}
use Rattle.tenant_workers.proofs.Kept.{answers-of}
use Rattle.engines.specs.Input.{AreNoFile}
use Rattle.engines.specs.Lines.{reply_lines}
use Rattle.serving.specs.Lookups.{AreLookedUp, lookup_tellings, lookups_in}
use Rattle.serving.specs.Opened.{AreOpenedFor, HaveOpened, IsNewPlan, IsSettable, IsStopped, home_of}
use Rattle.serving.specs.Prepared.{HaveRuns, runs_for, with_runs}
use Rattle.serving.specs.RunLines.{all_run_tellings}
use Rattle.serving.specs.Served.{AreNotServed, ArePrinted, IsServedSo, IsServedTenant, outcome_of, served, stopped, tellings_of, unserved}
use Rattle.serving.specs.Report.{HasWritten, print_refusal}
use Rattle.serving.proofs.Opened.{new-home}
use Rattle.serving.proofs.Indices.{each-at, mapped-twice}
use Rattle.serving.proofs.Tellings.{printed-join}

-- what is reported of each of two lists is reported of those at one index
each-both : {X Y : Type 0} (f : X → Y) (R : Y → Y → Type 0) (xs ys : List X) (t : ℕ) (x y : X) → AreEach R (map f xs) (map f ys) → t < length ys
    → (t < length xs) × R (f (get_or xs t x)) (f (get_or ys t y))
each-both f R [] [] t a b each within = absurd (omega (arith, within))
each-both f R [] (y ∷ ys) t a b each within = absurd each
each-both f R (x ∷ xs) [] t a b each within = absurd each
each-both f R (x ∷ xs) (y ∷ ys) zero a b each within = (omega arith, each.0)
each-both f R (x ∷ xs) (y ∷ ys) (suc t) a b each within =
    let rest = each-both f R xs ys t a b each.1 (omega (arith, within)) in (omega (arith, rest.0), rest.1)

each-many : {X Y : Type 0} (f : X → Y) (R : Y → Y → Type 0) (xs ys : List X) → AreEach R (map f xs) (map f ys) → length ys ≡ length xs
each-many f R [] [] each = refl
each-many f R [] (y ∷ ys) each = absurd each
each-many f R (x ∷ xs) [] each = absurd each
each-many f R (x ∷ xs) (y ∷ ys) each = ap suc (each-many f R xs ys each.1)

pub served-many : (old new : List TenantPlan) → AreServed old new → length new ≡ length old
served-many old new each = each-many planned_by IsPlanServed old new each

-- the answers are those of a plan with the file's runs
answered-of : (opened planned new : Planned) (runs : List (ℕ × List ℕ)) → opened.runs ≡ [] → planned ≡ with_runs opened runs → IsPlanServed planned new
    → AreAnswered opened.programs runs opened.seat new.replies new.seat
answered-of opened planned new runs none same is =
    subst (λ asked. AreAnswered opened.programs asked opened.seat new.replies new.seat) (ap (λ before. before ++ runs) none)
    (subst (λ plan. AreAnswered plan.programs plan.runs plan.seat new.replies new.seat) same (answers-of planned new is))

no-runs : (plan : TenantPlan) → plan.runs.items ≡ [] → (planned_by plan).runs ≡ []
no-runs plan none = ap (λ runs. map (λ run. (run.0, run.1.items)) runs) none

-- each tenant was served
pub served-each : (commands : List Command) (first opened planned new : List TenantPlan) → All IsNewPlan first → HaveOpened commands first opened → HaveRuns commands opened planned
    → AreServed planned new → (t : ℕ) → IfSome (slice_get (map outcome_of new) t) (IsServedTenant commands t)
served-each commands first opened planned new fresh open_so run_so each =
    each-at outcome_of (IsServedTenant commands) new (λ t plan there.
    let both = each-both planned_by IsPlanServed planned new t plan plan each there in
    let following : t < length opened = omega (arith, both.0, run_so.as_many) in
    let before : t < length first = omega (arith, following, open_so.as_many) in
    let new_plan = fresh t plan before in
    record {
      home = home_of (get_or opened t plan);
      opened = subst (λ home. AreOpenedFor t commands home (home_of (get_or opened t plan))) (new-home (get_or first t plan) new_plan) (open_so.homes t plan before);
      first = (get_or opened t plan).seat;
      begins = refl;
      last = (get_or new t plan).seat;
      ends = refl;
      answered = answered-of (planned_by (get_or opened t plan)) (planned_by (get_or planned t plan)) (planned_by (get_or new t plan)) (runs_for t commands)
          (no-runs (get_or opened t plan) (open_so.runs t plan before ∙ new_plan.runs)) (run_so.each t plan following) both.1;
    })

-- lines of runs, and then of lookups
pub printed-both : (commands : List Command) (plans : List TenantPlan) (answers : List Reply) (half after : Bool) (status : ℕ) (was mid_way is : Option (List ℕ))
    → HasWritten (all_run_tellings commands 0 (map (λ plan. plan.replies.items) plans)) false half was mid_way
    → AreLookedUp (map (λ plan. own_part plan.seat) plans) (lookups_in commands) answers → HasWritten (lookup_tellings (lookups_in commands) answers) half after mid_way is
    → status ≡ (if after then 1 else 0) → ArePrinted commands (map outcome_of plans) status was is
printed-both commands plans answers half after status was mid_way is runs looked lookups status_is =
    let tellings = all_run_tellings commands 0 (map (λ plan. plan.replies.items) plans) in
    let both = printed-join tellings (lookup_tellings (lookups_in commands) answers) false half after was mid_way is runs lookups in
    let same = ap (λ replies. all_run_tellings commands 0 replies ++ lookup_tellings (lookups_in commands) answers) (sym (mapped-twice (λ outcome. outcome.replies) outcome_of plans)) in
    let printed = subst (λ tellings. HasWritten tellings false after was is) same both in
    record {
      answers = answers;
      looked_up = subst (λ parts. AreLookedUp parts (lookups_in commands) answers) (sym (mapped-twice (λ outcome. outcome.part) outcome_of plans)) looked;
      noted = status_is ∙ ap (λ b. if b then 1 else 0) printed.refused;
      written = printed.written;
    }

one-most : (b : Bool) → (if b then 1 else 0) ≤ 1
one-most true = omega arith
one-most false = omega arith

-- the status is 0 or 1
pub status_few : (file : HostFile) (status : ℕ) (was is : Option (List ℕ)) → IsServedSo file status was is → status ≤ 1
status_few file status was is (unserved fault refuses one written) = omega (arith, one)
status_few file status was is (stopped frames options event fault why one written) = omega (arith, one)
status_few file status was is (served frames options outcomes settable many each printed) = subst (λ s. s ≤ 1) (sym printed.noted) (one-most (print_refusal (tellings_of file.commands outcomes printed.answers)))

-- the opening stopped, and that was reported
pub stopped-so : {E : Type 0} (result : Result ℕ E) (file : HostFile) (event : Event) (fault : Fault) (was is : Option (List ℕ))
    → AreLimits file.frames file.tenants × AreOptions file.options → IsStopped file.tenants file.commands event fault
    → IfOk result (λ status. status ≡ 1) → OnOk result (Appends was is (reply_lines event 0 (Refused fault))) → IfOk result (λ status. IsServedSo file status was is)
stopped-so (Ok status) file event fault was is limits why one written = stopped limits.0 limits.1 event fault why one written
stopped-so (Err e) file event fault was is limits why one written = tt

-- all were served, and what came of them was reported
pub served-so : {E : Type 0} (result : Result ℕ E) (file : HostFile) (first opened planned new : List TenantPlan) (was is : Option (List ℕ))
    → AreLimits file.frames file.tenants × AreOptions file.options → length first ≡ file.tenants → All IsSettable file.commands
    → All IsNewPlan first → HaveOpened file.commands first opened → HaveRuns file.commands opened planned → AreServed planned new
    → IfOk result (λ status. ArePrinted file.commands (map outcome_of new) status was is) → IfOk result (λ status. IsServedSo file status was is)
served-so (Ok status) file first opened planned new was is limits many settable fresh open_so run_so each printed =
    served limits.0 limits.1 (map outcome_of new) settable (length-map new outcome_of ∙ served-many planned new each ∙ run_so.as_many ∙ open_so.as_many ∙ many)
    (served-each file.commands first opened planned new fresh open_so run_so each) printed
served-so (Err e) file first opened planned new was is limits many settable fresh open_so run_so each printed = tt

-- the same, by the lists as they stand in the plan
pub served-through : {E : Type 0} (result : Result ℕ E) (file : HostFile) (commands : List Command) (items first opened half planned new last beyond further : List TenantPlan) (count : ℕ) (was is : Option (List ℕ))
    → AreLimits file.frames file.tenants × AreOptions file.options → commands ≡ file.commands → length items ≡ file.tenants → All IsSettable commands → All IsNewPlan items → first ≡ items → length first ≡ count
    → HaveOpened commands first opened → half ≡ take count (opened ++ beyond) → HaveRuns commands half planned → AreServed (take count (planned ++ further)) new → last ≡ new
    → IfOk result (λ status. ArePrinted commands (map outcome_of last) status was is) → IfOk result (λ status. IsServedSo file status was is)
served-through result file commands items first opened half planned new last beyond further count was is limits same many settable fresh first_is counted open_so half_is run_so each last_is printed =
    let opened_many : length opened ≡ count = open_so.as_many ∙ counted in
    let half_same = half_is ∙ take_at opened beyond count opened_many in
    let planned_many : length planned ≡ count = run_so.as_many ∙ ap length half_same ∙ opened_many in
    served-so result file items opened planned new was is limits many (subst (All IsSettable) same settable) fresh
    (subst₂ (λ cs plans. HaveOpened cs plans opened) same first_is open_so)
    (subst₂ (λ cs plans. HaveRuns cs plans planned) same half_same run_so)
    (subst (λ plans. AreServed plans new) (take_at planned further count planned_many) each)
    (subst₂ (λ cs plans. IfOk result (λ status. ArePrinted cs (map outcome_of plans) status was is)) same last_is printed)

-- a result that is no error
pub of-no_err : {A E P : Type 0} (result : Result A E) → is_err result ≡ false → OnOk result P → P
of-no_err (Ok a) none printed = printed
of-no_err (Err e) none printed = absurd (true≢false none)

-- an output that kept what it took
appends-kept : (was half is : Option (List ℕ)) (xs : List ℕ) → Keeps half is → Appends was half xs → Appends was is xs
appends-kept None half is xs kept appended = tt
appends-kept (Some known) None is xs kept appended = absurd appended
appends-kept (Some known) (Some more) None xs kept appended = absurd kept
appends-kept (Some known) (Some more) (Some all) xs kept appended = kept ∙ appended

served-kept : (file : HostFile) (was half is : Option (List ℕ)) (status : ℕ) → Keeps half is → IsServedSo file status was half → IsServedSo file status was is
served-kept file was half is status kept (unserved fault refuses one written) = unserved fault refuses one (appends-kept was half is _ kept written)
served-kept file was half is status kept (stopped frames options event fault why one written) = stopped frames options event fault why one (appends-kept was half is _ kept written)
served-kept file was half is status kept (served frames options outcomes settable many each printed) =
    served frames options outcomes settable many each record { answers = printed.answers; looked_up = printed.looked_up; noted = printed.noted; written = appends-kept was half is _ kept printed.written }

-- the file that was read was served
pub served-read : (read : Option (List ℕ)) (file : HostFile) (was half is : Option (List ℕ)) (status : ℕ)
    → IfSome read (λ bytes. (length bytes ≤ max_bytes) × IsFileText bytes file) → All (IsServedCommand file.tenants) file.commands → Keeps half is → IsServedSo file status was half
    → IfSome read (λ bytes. (length bytes ≤ max_bytes) × ((f : HostFile) × IsFileText bytes f × All (IsServedCommand f.tenants) f.commands × IsServedSo f status was is))
served-read None file was half is status text may kept so = tt
served-read (Some bytes) file was half is status text may kept so = (text.0, (file, text.1, may, served-kept file was half is status kept so))

-- bytes that are no file aren't served
pub none_served : (bytes : Option (List ℕ)) → IfSome bytes AreNoFile → IfSome bytes AreNotServed
none_served None none = tt
none_served (Some bytes) none = inl none

-- nor those of a file with a command that isn't served
pub some_unserved : (bytes : Option (List ℕ)) (file : HostFile) → IfSome bytes (λ bytes. (length bytes ≤ max_bytes) × IsFileText bytes file)
    → Any (λ command. ¬ IsServedCommand file.tenants command) file.commands → IfSome bytes AreNotServed
some_unserved None file text some = tt
some_unserved (Some bytes) file text some = inr (file, text.1, some)
