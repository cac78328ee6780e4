use Rattle.std.proofs.Common.{ap, arith}
use Rattle.page_table.specs.State.{MemoryState}
use Rattle.serving.proofs.Settings.{set-all, set-groups, set-kept, set-more, set-none}
use Rattle.serving.proofs.shared_host.set_all.Goals as goal

pub loop-command-init : goal.loop-command-init
loop-command-init c = set-none c.args.memory.now

pub set_one-requires : goal.set_one-requires
set_one-requires c = record { none = set-groups _ c.args.memory.now c.loop-command.memory c.loop-command.invariant c.requires.none }

pub loop-command-preserved : goal.loop-command-preserved
loop-command-preserved c =
    set-more c.args.commands.now c.loop-command.command-index c.command-item.result c.args.memory.now c.loop-command.memory c.set_one.new.memory
    c.loop-command-test.true c.command-item.is c.loop-command.invariant c.set_one.ensures.set c.set_one.ensures.only

pub returns-clause-set : goal.returns-clause-set
returns-clause-set c =
    set-all c.args.commands.now c.loop-command.command-index c.args.memory.now c.loop-command.memory (omega (arith, c.loop-command-test.false)) c.loop-command.invariant

pub returns-clause-kept : goal.returns-clause-kept
returns-clause-kept c = set-kept _ c.args.memory.now c.loop-command.memory c.loop-command.invariant

pub returns-clause-tenants : goal.returns-clause-tenants
returns-clause-tenants c = ap (λ (m : MemoryState). m.tenants) c.loop-command.invariant.all
