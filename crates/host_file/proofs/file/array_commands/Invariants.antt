use Rattle.std.proofs.Common.{List, ◌++◌, drop}
use Rattle.toml.specs.View.{items_view}
use Rattle.host_file.specs.declared.command.Command.{Command}
use Rattle.host_file.specs.HostFile.{AreEvents}
use Rattle.host_file.proofs.file.array_commands.Given as goal

-- whatever commands the values that are left ask for, all values ask for the ones so far and those; and where
-- all values ask for commands, those that are left do
abbrev pub invariant-loop-number : goal.invariant-loop-number
invariant-loop-number l =
    ((rest : List Command)
    → AreEvents (items_view (drop l.number l.values.items)) rest → AreEvents (items_view l.values.items) (l.commands.items ++ rest))
    × ((all : List Command) → AreEvents (items_view l.values.items) all
    → (rest : List Command) × AreEvents (items_view (drop l.number l.values.items)) rest)
