-- The faults of the programs.
use Rattle.host_file.specs.declared.fault.FileFault.{FileFault}
use Rattle.host_file.specs.declared.fault.FileFault.TheVariants.{Bad, OutOfMemory, Usage}

-- the input is no host file
abbrev pub IsBad : FileFault → Type 0
IsBad (Bad file) = Unit {0}
IsBad _ = ⊥

-- the words of the command line are none that the program takes, or there is no memory to read them
abbrev pub IsOfWords : FileFault → Type 0
IsOfWords (Usage said) = Unit {0}
IsOfWords (OutOfMemory error) = Unit {0}
IsOfWords _ = ⊥

-- the words of the command line are none that the program takes
abbrev pub IsUsage : FileFault → Type 0
IsUsage (Usage said) = Unit {0}
IsUsage _ = ⊥

-- there is no memory
abbrev pub IsOutOfMemory : FileFault → Type 0
IsOutOfMemory (OutOfMemory error) = Unit {0}
IsOutOfMemory _ = ⊥

-- a document is called bad only where the statement doesn't hold of it; no other fault but want of memory comes
abbrev pub Refutes : Type 0 → FileFault → Type 0
Refutes P (Bad file) = P → ⊥
Refutes P (OutOfMemory error) = Unit {0}
Refutes P _ = ⊥

-- a document is called bad only where it means none of these things; no other fault but want of memory comes
abbrev pub MeansNone : {A : Type 0} → (A → Type 0) → FileFault → Type 0
MeansNone {A} Means (Bad file) = (meant : A) → Means meant → ⊥
MeansNone Means (OutOfMemory error) = Unit {0}
MeansNone Means _ = ⊥
