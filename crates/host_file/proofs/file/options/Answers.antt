use Rattle.std.proofs.Common.{rules}
use Rattle.host_file.specs.HostFile.{value_at}
use Rattle.host_file.specs.declared.key.Key.TheVariants as key
use Rattle.host_file.specs.Section.{members_of}
use Rattle.host_file.proofs.Refuted.{options_refused}
use Rattle.host_file.proofs.file.options.Goals as goal

pub returns-in_err-table-clause-bad : goal.returns-in_err-table-clause-bad
returns-in_err-table-clause-bad c =
    let bad = options_refused (value_at (members_of c.args.document.now) key.Options) _ c.in_err-table.ensures.bad in
    search rules
