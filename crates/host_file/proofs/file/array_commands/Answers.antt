use Rattle.std.proofs.Common.{◌≡◌, ◌+◌, ◌++◌, [], arith, ap, drop, length, rules}
use Rattle.std.proofs.lemmas.List.{append-nil, drop_all}
use Rattle.toml.specs.View.{items_view, table_view}
use Rattle.host_file.specs.HostFile.{AreEvents}
use Rattle.host_file.proofs.Events.{front, one_more, left_ask, next_refused}
use Rattle.host_file.proofs.file.array_commands.Goals as goal

pub returns-clause-read : goal.returns-clause-read
returns-clause-read c =
    let values = c.args.values.now.items in
    let commands = c.loop-number.commands.items in
    let none : drop c.loop-number.number values ≡ [] = drop_all _ values (omega (arith, ap length c.deref-value-items.ensures.value)) in
    let all : AreEvents (items_view values) (commands ++ []) = c.loop-number.invariant.0 [] (rw none tt) in
    rw c.from.ensures (rw append-nil at all)

pub returns-in_err-command_of-clause-bad : goal.returns-in_err-command_of-clause-bad
returns-in_err-command_of-clause-bad c =
    let values = c.args.values.now.items in
    let n = c.loop-number.number in
    let whole = c.deref-value-items.ensures.value in
    let next = front values n c.value-item.result c.in-Table.table (rw whole at c.loop-number-test.true) (rw whole at c.value-item.is) c.in-Table.is in
    let bad = next_refused (items_view values) (items_view (drop n values)) (items_view (drop (n + 1) values)) (table_view c.in-Table.table) next
    c.in_err-command_of.field-0.0 (rw c.new-event.ensures.table at c.in_err-command_of.ensures.bad) c.loop-number.invariant.1 in
    search rules

pub loop-number-preserved : goal.loop-number-preserved
loop-number-preserved c =
    let values = c.args.values.now.items in
    let n = c.loop-number.number in
    let whole = c.deref-value-items.ensures.value in
    let next = front values n c.value-item.result c.in-Table.table (rw whole at c.loop-number-test.true) (rw whole at c.value-item.is) c.in-Table.is in
    let all = items_view values in
    let left = items_view (drop n values) in
    let more = items_view (drop (n + 1) values) in
    let ms = table_view c.in-Table.table in (
      rw c.in_ok-push.ensures.items (one_more all left more ms next c.loop-number.commands.items c.in_ok-command_of.field-0
          (rw c.new-event.ensures.table at c.in_ok-command_of.ensures.read) c.loop-number.invariant.0),
      left_ask all left more ms next c.loop-number.invariant.1,
    )
