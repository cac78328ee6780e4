-- The table that a section of a host file is.
use Rattle.toml.specs.Data.{Members}
use Rattle.toml.specs.View.{table_view}
use Rattle.host_file.specs.declared.section.Section.{Section}

abbrev pub members_of : Section → Members
members_of section = table_view section.table.now
