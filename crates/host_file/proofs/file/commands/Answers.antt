use Rattle.std.proofs.Common.{rules}
use Rattle.host_file.specs.HostFile.{value_at}
use Rattle.host_file.specs.declared.key.Key.TheVariants as key
use Rattle.host_file.specs.Section.{members_of}
use Rattle.host_file.proofs.Refuted.{events_refused}
use Rattle.host_file.proofs.file.commands.Goals as goal

pub returns-in_err-array-clause-bad : goal.returns-in_err-array-clause-bad
returns-in_err-array-clause-bad c =
    let bad = events_refused (value_at (members_of c.args.document.now) key.Event) _ c.in_err-array.ensures.bad in
    search rules
