-- What each option may be set to, and what it is where nobody sets it (the KSM manual's names; the
-- limits are this project's own where the manual is silent).
use Rattle.std.specs.Prelude.{ℕ, ◌≤◌, List, codes}
use Rattle.host_types.specs.declared.options.Opt.{Opt}
use Rattle.host_types.specs.declared.options.Opt.TheVariants.{PagesToScan, Run, UseZeroPages, MaxPageSharing}
use Rattle.host_types.specs.declared.options.Options.{Options}

-- an option's name, that of its file in Linux's KSM
abbrev pub option_name : Opt → List ℕ
option_name PagesToScan = codes "pages_to_scan"
option_name Run = codes "run"
option_name UseZeroPages = codes "use_zero_pages"
option_name MaxPageSharing = codes "max_page_sharing"

-- the option may be set to the value
abbrev pub MayBe : Opt → ℕ → Type 0
MayBe PagesToScan value = (1 ≤ value) × (value ≤ 100000)
MayBe Run value = value ≤ 1
MayBe UseZeroPages value = value ≤ 1
MayBe MaxPageSharing value = (2 ≤ value) × (value ≤ 65535)

-- each option has a value that it may be set to
pub record AreOptions (options : Options) : Type 0 where
  pub pages_to_scan : MayBe PagesToScan options.pages_to_scan
  pub run : MayBe Run options.run
  pub use_zero_pages : MayBe UseZeroPages options.use_zero_pages
  pub max_page_sharing : MayBe MaxPageSharing options.max_page_sharing

abbrev pub default_options : Options
default_options = record { pages_to_scan = 100; run = 1; use_zero_pages = 0; max_page_sharing = 256 }
