use Rattle.std.proofs.Common.{◌↔◌}
use Rattle.toml.specs.View.{members_view}
use Rattle.host_file.specs.HostFile.{HasOnly}
use Rattle.host_file.specs.Section.{members_of}
use Rattle.host_file.proofs.section.Section.other_key.Given as goal

-- the keys of the entries that are left are among these just where all are
abbrev pub invariant-loop-name : goal.invariant-loop-name
invariant-loop-name l = HasOnly (members_view l.name-iterator) l.keys ↔ HasOnly (members_of l.self) l.keys
