-- The events of an array, one after the other: those that are read, and those that are left.
use Rattle.std.proofs.Common.{◌≡◌, ℕ, ◌+◌, ◌<◌, List, [], ◌∷◌, ◌++◌, length, get_or, drop, ap, sym, subst, ◌∙◌, append_assoc, String}
use Rattle.std.proofs.lemmas.List.{at_drop_more}
use Rattle.std.specs.BTreeMap.{BTreeMap}
use Rattle.std.specs.declared.alloc.Global.{Global}
use Rattle.toml.specs.Data.{Data, table, Items, item, Members}
use Rattle.toml.specs.View.{items_view, table_view}
use Rattle.toml.specs.declared.value.Value.{Value, Table}
use Rattle.toml.proofs.Views.{view-Table}
use Rattle.host_file.specs.declared.command.Command.{Command}
use Rattle.host_file.specs.declared.fault.FileFault.{FileFault}
use Rattle.host_file.specs.declared.fault.FileFault.TheVariants as fault
use Rattle.host_file.specs.Faults.{MeansNone}
use Rattle.host_file.specs.HostFile.{AreEvents, IsEvent, IsEventTable}

-- the values that are left, where the next is a table
pub front : (values : List Value) (n : ℕ) (value : Value) (t : BTreeMap (String Global) Value) → n < length values
    → value ≡ get_or values n value → value ≡ Table t
    → items_view (drop n values) ≡ item (table (table_view t)) (items_view (drop (n + 1) values))
front values n value t there is kind =
    at_drop_more items_view values n value there ∙ ap (λ v. items_view (v ∷ drop (n + 1) values)) (sym is ∙ kind)
    ∙ ap (λ d. item d (items_view (drop (n + 1) values))) (view-Table t)

-- values that ask for commands: the first does, and the others do
first_asks : (value : Data) (values : Items) (commands : List Command) → AreEvents (item value values) commands
    → (command : Command) × IsEventTable value command
first_asks value values [] are = absurd are
first_asks value values (command ∷ commands) are = (command, are.0)

others_ask : (value : Data) (values : Items) (commands : List Command) → AreEvents (item value values) commands
    → (rest : List Command) × AreEvents values rest
others_ask value values [] are = absurd are
others_ask value values (command ∷ commands) are = (commands, are.1)

module _ (all left more : Items) (ms : Members) (next : left ≡ item (table ms) more) where
  -- one more command is read
  pub one_more : (commands : List Command) (command : Command) → IsEvent ms command
      → ((rest : List Command) → AreEvents left rest → AreEvents all (commands ++ rest))
      → (rest : List Command) → AreEvents more rest → AreEvents all ((commands ++ command ∷ []) ++ rest)
  one_more commands command is known = λ rest are. rw append_assoc (known (command ∷ rest) (rw next (is, are)))

  -- where all ask for commands, those after the next do
  pub left_ask : ((commands : List Command) → AreEvents all commands → (rest : List Command) × AreEvents left rest)
      → (commands : List Command) → AreEvents all commands → (rest : List Command) × AreEvents more rest
  left_ask known = λ commands are.
      let left_are = known commands are in
      others_ask (table ms) more left_are.0 (subst (λ (values : Items). AreEvents values left_are.0) next left_are.1)

  -- where the next is no event, all aren't events
  pub next_refused : (f : FileFault) → MeansNone (IsEvent ms) f
      → ((commands : List Command) → AreEvents all commands → (rest : List Command) × AreEvents left rest)
      → MeansNone (AreEvents all) f
  next_refused (fault.Bad file) none known = λ commands are.
      let left_are = known commands are in
      let first = first_asks (table ms) more left_are.0 (subst (λ (values : Items). AreEvents values left_are.0) next left_are.1) in
      none first.0 first.1
  next_refused (fault.OutOfMemory error) none known = tt
  next_refused _ none known = absurd none
