-- Which bytes that are read are no host file.
use Rattle.std.specs.Prelude.{ℕ, List, IsUtf8}
use Rattle.host_file.specs.HostFile.{IsFileText}
use Rattle.host_file.specs.declared.file.HostFile.{HostFile}

-- as a text of UTF-8 the bytes are no host file
abbrev pub AreNoFile : List ℕ → Type 0
AreNoFile bytes = (file : HostFile) → IsUtf8 bytes → IsFileText bytes file → ⊥
