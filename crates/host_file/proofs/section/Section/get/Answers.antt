use Rattle.toml.proofs.Views.{table_get}
use Rattle.host_file.proofs.section.Section.get.Goals as goal

pub returns : goal.returns
returns c =
    let found = table_get c.get.result c.name.result.now c.args.self.now.table.now.entries c.get.ensures.value in
    rw c.name.ensures at found
