-- What the commands of a file set.
use Rattle.std.proofs.Common.{◌≡◌, ◌≢◌, ◌∙◌, ◌<◌, ◌≤◌, ◌+◌, ℕ, suc, List, [], ◌∷◌, ◌++◌, length, get_or, fold, take, All, Result, Ok, Err, OnOk, OnErr, IfErr, ap, refl, subst, sym, None, Some, unwrap_or, arith}
use Rattle.std.proofs.lemmas.List.{take_all, take_more}
use Rattle.std.proofs.lemmas.List.Elements.{All-pop, All-push}
use Rattle.std.proofs.lemmas.List.Sums.{fold_push}
use Rattle.host_types.specs.declared.fault.Fault.{Fault}
use Rattle.host_types.specs.declared.fault.Fault.TheVariants.{BadOption, PagesShared}
use Rattle.host_types.specs.declared.options.Opt.{Opt}
use Rattle.host_types.specs.declared.options.Opt.TheVariants.{PagesToScan, Run as RunOption, UseZeroPages, MaxPageSharing}
use Rattle.host_types.specs.declared.options.Options.{Options}
use Rattle.host_types.specs.OptionTable.{MayBe}
use Rattle.host_types.specs.Unmerging.{MaySet, RefusesSet, with_option}
use Rattle.page_table.specs.State.{MemoryState, new_memory, part}
use Rattle.host_types.specs.declared.event.Event.{Event}
use Rattle.host_types.specs.declared.event.Event.TheVariants.{Set, Unmerge, Counters}
use Rattle.host_types.specs.declared.event.Event.TheVariants as happens
use Rattle.host_types.specs.Events.{tenant_of}
use Rattle.host_file.specs.declared.command.Command.TheVariants.{Apply, Finish, Run, Step, Visit}
use Rattle.host_file.specs.declared.command.Command.{Command}
use Rattle.serving.specs.Opened.{IsSettable, options_after, options_set, with_options}

-- an option that is set to a value that it may have
pub settable_set : (event : Event) (option : Opt) (value : ℕ) → event ≡ Set option value → MayBe option value → IsSettable (Apply event)
settable_set event option value is may = subst (λ e. IsSettable (Apply e)) (sym is) may

-- an event that sets none
pub settable_none : (event : Event) → ((option : Opt) (value : ℕ) → event ≢ Set option value) → IsSettable (Apply event)
settable_none (happens.CreateMap tenant value_size entries mergeable) none = tt
settable_none (happens.Load tenant text size) none = tt
settable_none (happens.Begin tenant program context) none = tt
settable_none (happens.Step tenant) none = tt
settable_none happens.Visit none = tt
settable_none (happens.HostUpdate tenant map key value) none = tt
settable_none (happens.HostLookup tenant map key) none = tt
settable_none (Set option value) none = absurd (none option value refl)
settable_none Unmerge none = tt
settable_none Counters none = tt
settable_none (happens.Unload tenant program) none = tt
settable_none (happens.DropMap tenant map) none = tt

named-none : (t : ℕ) → None ≡ Some t → ⊥
named-none t same = absurd (omega (arith, ap (λ o. unwrap_or o (suc t)) same))

-- an event of a tenant sets none
pub settable_for : (event : Event) (t : ℕ) → tenant_of event ≡ Some t → IsSettable (Apply event)
settable_for event t named = settable_none event (λ option value is. named-none t (sym (ap tenant_of is) ∙ named))

-- one more of the commands
pub settable-upto : (commands : List Command) (index : ℕ) (command : Command) → index < length commands → command ≡ get_or commands index command
    → All IsSettable (take index commands) → IsSettable command → All IsSettable (take (index + 1) commands)
settable-upto commands index command within is all one =
    subst (All IsSettable) (ap (λ c. take index commands ++ c ∷ []) is ∙ sym (take_more commands index command within))
    (All-push IsSettable (take index commands) command all one)

-- a command that applies no event
pub settable-else : (command : Command) → ((event : Event) → command ≡ Apply event → ⊥) → IsSettable command
settable-else (Apply event) differs = absurd (differs event refl)
settable-else (Step tenant count) differs = tt
settable-else (Finish tenant) differs = tt
settable-else (Run tenant program context) differs = tt
settable-else (Visit count) differs = tt

-- all of the commands
pub settable-whole : (commands : List Command) (index : ℕ) → length commands ≤ index → All IsSettable (take index commands) → All IsSettable commands
settable-whole commands index past all = subst (All IsSettable) (take_all index commands past) all

-- ---- the options of a memory in which no page shares a frame

-- no page of a new memory shares a frame
pub new-groups : (frames tenants : ℕ) (options : Options) (memory : MemoryState) → memory ≡ new_memory frames tenants options → memory.sharing.groups ≡ []
unfolding new_memory
new-groups frames tenants options memory new = ap (λ (m : MemoryState). m.sharing.groups) new

-- a new memory with other options is a new memory with these
pub new-with : (frames tenants : ℕ) (first options : Options) (memory : MemoryState) → memory ≡ new_memory frames tenants first → with_options memory options ≡ new_memory frames tenants options
unfolding new_memory
new-with frames tenants first options memory new = ap (λ (m : MemoryState). with_options m options) new

new-options : (frames tenants : ℕ) (options : Options) (memory : MemoryState) → memory ≡ new_memory frames tenants options → memory.sharing.options ≡ options
unfolding new_memory
new-options frames tenants options memory new = ap (λ (m : MemoryState). m.sharing.options) new

-- a new memory with the options that commands set
pub new-set : (frames tenants : ℕ) (options : Options) (memory : MemoryState) (commands : List Command) → memory ≡ new_memory frames tenants options
    → with_options memory (options_set memory.sharing.options commands) ≡ new_memory frames tenants (options_set options commands)
new-set frames tenants options memory commands new =
    ap (λ first. with_options memory (options_set first commands)) (new-options frames tenants options memory new) ∙ new-with frames tenants options (options_set options commands) memory new

-- it may be set whenever it can have the value
may-set : (memory : MemoryState) (option : Opt) → memory.sharing.groups ≡ [] → MaySet memory.sharing option
may-set memory PagesToScan none = tt
may-set memory RunOption none = tt
may-set memory UseZeroPages none = tt
may-set memory MaxPageSharing none = none

never-refused : (memory : MemoryState) (option : Opt) (value : ℕ) (fault : Fault) → memory.sharing.groups ≡ [] → MayBe option value → RefusesSet memory.sharing option value fault → ⊥
never-refused memory option value BadOption none may refused = absurd (refused may)
never-refused memory option value PagesShared none may (can, not) = absurd (not (may-set memory option none))
never-refused memory option value fault none may refused = absurd refused

-- an option that may have the value was set
pub set_now : (result : Result Unit Fault) (old new : MemoryState) (option : Opt) (value : ℕ) → old.sharing.groups ≡ [] → OnOk result (new ≡ with_options old (with_option old.sharing.options option value))
    → IfErr result (RefusesSet old.sharing option value) → MayBe option value → new ≡ with_options old (with_option old.sharing.options option value)
set_now (Ok done) old new option value none set refused may = set
set_now (Err fault) old new option value none set refused may = absurd (never-refused old option value fault none may refused)

-- whatever came of it, nothing but the options changed
pub set_some : (result : Result Unit Fault) (old new : MemoryState) (option : Opt) (value : ℕ) → OnOk result (new ≡ with_options old (with_option old.sharing.options option value)) → OnErr result (new ≡ old)
    → (options : Options) × (new ≡ with_options old options)
set_some (Ok done) old new option value set kept = (with_option old.sharing.options option value, set)
set_some (Err fault) old new option value set kept = (old.sharing.options, kept)

-- nothing was set
pub set_nothing : (memory : MemoryState) → (options : Options) × (memory ≡ with_options memory options)
set_nothing memory = (memory.sharing.options, refl)

-- what is known of a memory after some commands, by what it was
pub record IsSetUpto (commands : List Command) (old new : MemoryState) : Type 0 where
  pub options : Options
  pub all : new ≡ with_options old options
  pub set : All IsSettable commands → options ≡ options_set old.sharing.options commands

pub set-none : (memory : MemoryState) → IsSetUpto [] memory memory
set-none memory = record { options = memory.sharing.options; all = refl; set = λ settable. refl }

pub set-groups : (commands : List Command) (old new : MemoryState) → IsSetUpto commands old new → old.sharing.groups ≡ [] → new.sharing.groups ≡ []
set-groups commands old new upto none = ap (λ (m : MemoryState). m.sharing.groups) upto.all ∙ none

-- one command more
pub set-more : (commands : List Command) (index : ℕ) (command : Command) (old half new : MemoryState) → index < length commands → command ≡ get_or commands index command
    → IsSetUpto (take index commands) old half → (IsSettable command → new ≡ with_options half (options_after half.sharing.options command)) → (options : Options) × (new ≡ with_options half options)
    → IsSetUpto (take (index + 1) commands) old new
set-more commands index command old half new within is upto set (options, some) = record {
  options = options;
  all = some ∙ ap (λ (m : MemoryState). with_options m options) upto.all;
  set = λ settable.
      let (before, here) = All-pop IsSettable (take (index + 1) commands) (take index commands) (Some command)
      (take_more commands index command within ∙ ap (λ c. take index commands ++ c ∷ []) (sym is)) settable in
      let now : options ≡ options_after half.sharing.options command = ap (λ (m : MemoryState). m.sharing.options) (sym some ∙ set here) in
      let was : half.sharing.options ≡ options_set old.sharing.options (take index commands) = ap (λ (m : MemoryState). m.sharing.options) upto.all ∙ upto.set before in
      now ∙ ap (λ first. options_after first command) was
      ∙ sym (fold_push options_after old.sharing.options (take index commands) command)
      ∙ ap (λ front. options_set old.sharing.options front) (ap (λ c. take index commands ++ c ∷ []) is ∙ sym (take_more commands index command within));
}

-- all of the commands
pub set-all : (commands : List Command) (index : ℕ) (old new : MemoryState) → length commands ≤ index → IsSetUpto (take index commands) old new
    → All IsSettable commands → new ≡ with_options old (options_set old.sharing.options commands)
set-all commands index old new past upto settable =
    let same = take_all index commands past in
    upto.all ∙ ap (with_options old) (upto.set (subst (All IsSettable) (sym same) settable) ∙ ap (options_set old.sharing.options) same)

-- no tenant's part hangs on the options
pub set-kept : (commands : List Command) (old new : MemoryState) → IsSetUpto commands old new → (t : ℕ) → part new t ≡ part old t
unfolding part
set-kept commands old new upto t = ap (λ (m : MemoryState). part m t) upto.all
