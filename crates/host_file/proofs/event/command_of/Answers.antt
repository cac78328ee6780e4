use Rattle.std.proofs.Common.{rules}
use Rattle.host_file.specs.Kinds as kind
use Rattle.host_file.specs.Section.{members_of}
use Rattle.host_file.proofs.Refuted.{none_of}
use Rattle.host_file.proofs.event.command_of.Goals as goal

pub returns-in-load-clause-bad : goal.returns-in-load-clause-bad
returns-in-load-clause-bad c = none_of (members_of c.args.event.now) kind.load c.load.result (search rules) c.load.ensures.bad

pub returns-in-begin-clause-bad : goal.returns-in-begin-clause-bad
returns-in-begin-clause-bad c = none_of (members_of c.args.event.now) kind.begin c.begin.result (search rules) c.begin.ensures.bad

pub returns-in-run-clause-bad : goal.returns-in-run-clause-bad
returns-in-run-clause-bad c = none_of (members_of c.args.event.now) kind.run c.run.result (search rules) c.run.ensures.bad

pub returns-in-update-clause-bad : goal.returns-in-update-clause-bad
returns-in-update-clause-bad c = none_of (members_of c.args.event.now) kind.update c.update.result (search rules) c.update.ensures.bad
