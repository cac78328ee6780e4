-- The exit status of the program.
use Rattle.std.specs.Prelude.{ℕ, Result, Ok, Err}
use Rattle.host_file.specs.declared.fault.FileFault.{FileFault}

-- the status that was answered, or 2 for a fault
abbrev pub status_of : Result ℕ FileFault → ℕ
status_of (Ok status) = status
status_of (Err fault) = 2
