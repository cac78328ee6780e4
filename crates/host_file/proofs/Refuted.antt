-- A document that is called bad means nothing: from what a table lacks to what it can't be.
use Rattle.std.proofs.Common.{◌≡◌, ◌∷◌, [], ℕ, List, refl, ap, arith, ◌+◌, ◌*◌, subst, Option, Some, None, option_map, MatchOption, IfErr, Result, Ok, Err}
use Rattle.toml.specs.Data.{Data, array, table, Items, Members}
use Rattle.host_types.specs.declared.event.Event.TheVariants as event
use Rattle.host_types.specs.declared.options.Options.{Options}
use Rattle.host_types.specs.OptionTable.{default_options}
use Rattle.host_file.specs.declared.key.Key.TheVariants as key
use Rattle.host_file.specs.declared.command.Command.{Command}
use Rattle.host_file.specs.declared.command.Command.TheVariants as command
use Rattle.host_file.specs.declared.fault.FileFault.{FileFault}
use Rattle.host_file.specs.declared.fault.FileFault.TheVariants as fault
use Rattle.host_file.specs.Faults.{MeansNone, Refutes}
use Rattle.host_file.specs.HostFile.{HasString, IsEvent, IsOptionData, IsEventArray}
use Rattle.host_file.specs.Kinds.{Kind, map, load, begin, step, finish, run, visit, update, lookup, set, unmerge, counters, unload, drop, word_of, IsComplete}

-- a number by a word's first three letters, in which the words of all kinds differ
abbrev letters : List ℕ → ℕ
letters (a ∷ b ∷ c ∷ rest) = a * 1000000 + b * 1000 + c
letters _ = 0

-- words of different kinds differ
kind_of_word : (k l : Kind) → word_of k ≡ word_of l → k ≡ l
kind_of_word map map e = refl
kind_of_word load load e = refl
kind_of_word begin begin e = refl
kind_of_word step step e = refl
kind_of_word finish finish e = refl
kind_of_word run run e = refl
kind_of_word visit visit e = refl
kind_of_word update update e = refl
kind_of_word lookup lookup e = refl
kind_of_word set set e = refl
kind_of_word unmerge unmerge e = refl
kind_of_word counters counters e = refl
kind_of_word unload unload e = refl
kind_of_word drop drop e = refl
kind_of_word _ _ e = absurd (omega (arith, ap letters e))

-- the kind of an event, which says so, and all that it needs
abbrev Shown : Members → Type 0
Shown ms = (k : Kind) × HasString ms key.Do (word_of k) × IsComplete ms k

event_shown : (ms : Members) (c : Command) → IsEvent ms c → Shown ms
event_shown ms (command.Apply (event.CreateMap tenant value_size entries mergeable)) h =
    (map, h.0.0, (h.0.1, (tenant, h.1), (value_size, h.2), (entries, h.3), (mergeable, h.4)))
event_shown ms (command.Apply (event.Load tenant text context_size)) h =
    (load, h.0.0, (h.0.1, (tenant, h.1), (text, h.2), (context_size, h.3)))
event_shown ms (command.Apply (event.Begin tenant program context)) h =
    (begin, h.0.0, (h.0.1, (tenant, h.1), (program, h.2), (context, h.3)))
event_shown ms (command.Apply (event.HostUpdate tenant m number value)) h =
    (update, h.0.0, (h.0.1, (tenant, h.1), (m, h.2), (number, h.3), (value, h.4)))
event_shown ms (command.Apply (event.HostLookup tenant m number)) h =
    (lookup, h.0.0, (h.0.1, (tenant, h.1), (m, h.2), (number, h.3)))
event_shown ms (command.Apply (event.Set opt value)) h = (set, h.0.0, (h.0.1, (opt, h.1), (value, h.2)))
event_shown ms (command.Apply event.Unmerge) h = (unmerge, h.0, h.1)
event_shown ms (command.Apply event.Counters) h = (counters, h.0, h.1)
event_shown ms (command.Apply (event.Unload tenant program)) h = (unload, h.0.0, (h.0.1, (tenant, h.1), (program, h.2)))
event_shown ms (command.Apply (event.DropMap tenant m)) h = (drop, h.0.0, (h.0.1, (tenant, h.1), (m, h.2)))
event_shown ms (command.Apply _) h = absurd h
event_shown ms (command.Step tenant count) h = (step, h.0.0, (h.0.1, (tenant, h.1), (count, h.2)))
event_shown ms (command.Finish tenant) h = (finish, h.0.0, (h.0.1, (tenant, h.1)))
event_shown ms (command.Run tenant program context) h =
    (run, h.0.0, (h.0.1, (tenant, h.1), (program, h.2), (context, h.3)))
event_shown ms (command.Visit count) h = (visit, h.0.0, (h.0.1, (count, h.1)))

-- a table that says its kind and isn't complete is no event's
no_event : (ms : Members) (k : Kind) (f : FileFault) → HasString ms key.Do (word_of k) → Refutes (IsComplete ms k) f → MeansNone (IsEvent ms) f
no_event ms k (fault.Bad file) says lacks = λ c is.
    let shown : Shown ms = event_shown ms c is in
    let same : shown.0 ≡ k = kind_of_word shown.0 k (cc (shown.1, says)) in
    lacks (subst (IsComplete ms) same shown.2)
no_event ms k (fault.OutOfMemory error) says lacks = tt
no_event ms k _ says lacks = absurd lacks

-- where no table of options stands, none are meant
no_options : (at : Option Data) → ((found : Option Members) → at ≡ option_map table found → ⊥)
    → (options : Options) → MatchOption at (options ≡ default_options) (λ value. IsOptionData value options) → ⊥
no_options None none options h = none None refl
no_options (Some (table ms)) none options h = none (Some ms) refl
no_options (Some _) none options h = h

pub options_refused : (at : Option Data) (f : FileFault) → MeansNone (λ (found : Option Members). at ≡ option_map table found) f
    → MeansNone (λ (options : Options). MatchOption at (options ≡ default_options) (λ value. IsOptionData value options)) f
options_refused at (fault.Bad file) none = no_options at none
options_refused at (fault.OutOfMemory error) none = tt
options_refused at _ none = absurd none

-- where no array stands, no events are meant
no_events : (at : Option Data) → ((found : Option Items) → at ≡ option_map array found → ⊥)
    → (commands : List Command) → MatchOption at (commands ≡ []) (λ value. IsEventArray value commands) → ⊥
no_events None none commands h = none None refl
no_events (Some (array values)) none commands h = none (Some values) refl
no_events (Some _) none commands h = h

pub events_refused : (at : Option Data) (f : FileFault) → MeansNone (λ (found : Option Items). at ≡ option_map array found) f
    → MeansNone (λ (commands : List Command). MatchOption at (commands ≡ []) (λ value. IsEventArray value commands)) f
events_refused at (fault.Bad file) none = no_events at none
events_refused at (fault.OutOfMemory error) none = tt
events_refused at _ none = absurd none

-- a part that means nothing leaves the whole without it
pub lacks : {A : Type 0} (Means : A → Type 0) (Whole : Type 0) (f : FileFault) → MeansNone Means f → (Whole → (x : A) × Means x) → Refutes Whole f
lacks Means Whole (fault.Bad file) none part = λ whole. let found = part whole in none found.0 found.1
lacks Means Whole (fault.OutOfMemory error) none part = tt
lacks Means Whole _ none part = absurd none

-- what refuses a table that says its kind
pub none_of : (ms : Members) (k : Kind) (result : Result Command FileFault) → HasString ms key.Do (word_of k)
    → IfErr result (Refutes (IsComplete ms k)) → IfErr result (MeansNone (IsEvent ms))
none_of ms k (Ok command) says lacks = tt
none_of ms k (Err f) says lacks = no_event ms k f says lacks
