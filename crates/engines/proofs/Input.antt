-- Bytes that are called bad are no host file.
use Rattle.std.proofs.Common.{◌≡◌, ℕ, ◌≤◌, List, length, Option, Some, None, Result, Ok, Err, IfErr, IfSome, sym, subst, ◌∙◌}
use Rattle.host_file.specs.Faults.{IsBad, MeansNone}
use Rattle.host_file.specs.HostFile.{IsFileText, max_bytes}
use Rattle.host_file.specs.declared.fault.FileFault.{FileFault}
use Rattle.host_file.specs.declared.fault.FileFault.TheVariants.{Bad}
use Rattle.engines.specs.Input.{AreNoFile}

-- where the text of all bytes is called bad
pub called-bad : {A : Type 0} (known : Option (List ℕ)) (read text : List ℕ) (result : Result A FileFault)
    → IfSome known (λ bytes. (length bytes ≤ max_bytes) × (read ≡ bytes)) → text ≡ read → IfErr result (MeansNone (IsFileText text))
    → IfErr result (λ fault. IsBad fault → IfSome known AreNoFile)
called-bad known read text (Ok file) whole same none = tt
called-bad None read text (Err fault) whole same none = λ bad. tt
called-bad (Some bytes) read text (Err (Bad file)) whole same none =
    λ bad meant utf8 says. none meant (subst (λ xs. IsFileText xs meant) (sym (same ∙ whole.1)) says)
called-bad (Some bytes) read text (Err _) whole same none = λ bad. absurd bad
