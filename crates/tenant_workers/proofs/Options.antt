-- Options that are set.
use Rattle.std.proofs.Common.{◌≡◌, ℕ, refl}
use Rattle.host_types.specs.declared.options.Opt.{Opt}
use Rattle.host_types.specs.declared.options.Opt.TheVariants.{PagesToScan, Run, UseZeroPages, MaxPageSharing}
use Rattle.host_types.specs.declared.options.Options.{Options}
use Rattle.host_types.specs.Unmerging.{with_option}

-- an option that was set to a value has it
pub set_again : (options : Options) (option : Opt) (value : ℕ) → with_option options option value ≡ with_option (with_option options option value) option value
set_again options PagesToScan value = refl
set_again options Run value = refl
set_again options UseZeroPages value = refl
set_again options MaxPageSharing value = refl
