-- What is done to all pages at once, and to the options.
use Rattle.std.specs.Prelude.{◌≡◌, ℕ, ◌+◌, ◌-◌, ◌<◌, false, List, [], length, sum_by, Option, None, Some, ⊤}
use Rattle.host_types.specs.declared.fault.Fault.{Fault}
use Rattle.host_types.specs.declared.fault.Fault.TheVariants.{NoFrames, BadOption, PagesShared}
use Rattle.host_types.specs.declared.options.Opt.{Opt}
use Rattle.host_types.specs.declared.options.Opt.TheVariants.{PagesToScan, Run, UseZeroPages, MaxPageSharing}
use Rattle.host_types.specs.declared.options.Options.{Options}
use Rattle.host_types.specs.declared.status.Status.{Status}
use Rattle.host_types.specs.declared.status.Status.TheVariants.{Zero}
use Rattle.host_types.specs.OptionTable.{MayBe}
use Rattle.host_types.specs.Sharing.{Sharing, PageState, state_at, is_shared_page, pages_broken}

-- every page that shares a frame gets one of its own, in page order, and the scanner stops
unfoldable pub unmerged : Sharing → Sharing
unmerged sharing =
    let broken = pages_broken sharing 0 (length sharing.pages) in
    record broken { options = record broken.options { run = 2 } }

-- how many pages all groups have together
unfoldable pub members : Sharing → ℕ
members sharing = sum_by (λ (group : List ℕ). length group) sharing.groups

-- what a page counts by its status; where none is, nothing
abbrev pub counted_by : (Status → ℕ) → Option PageState → ℕ
counted_by one None = 0
counted_by one (Some state) = one state.status

-- one for a page on the frame of zeros
abbrev pub one_if_zeros : Status → ℕ
one_if_zeros Zero = 1
one_if_zeros other = 0

abbrev pub zeros_at : Option PageState → ℕ
zeros_at page = counted_by one_if_zeros page

-- how many pages lie on the frame of zeros
unfoldable pub zero_pages : Sharing → ℕ
zero_pages sharing = sum_by zeros_at sharing.pages

-- The frames that this takes: one for each page of a group but its last one, which keeps the group's
-- frame, and one for each page on the frame of zeros.
unfoldable pub unmerge_need : Sharing → ℕ
unmerge_need sharing = members sharing - length sharing.groups + zero_pages sharing

-- no page shares a frame
pub record SharesNothing (sharing : Sharing) : Type 0 where
  pub groups : sharing.groups ≡ []
  pub pages : (i : ℕ) → is_shared_page (state_at sharing i) ≡ false

-- when not everything is unmerged: there are fewer frames than that takes
abbrev pub RefusesUnmerge : Sharing → ℕ → Fault → Type 0
RefusesUnmerge sharing frames (NoFrames need have) = (need ≡ unmerge_need sharing) × (have ≡ frames) × (have < need)
RefusesUnmerge sharing frames _ = ⊥

-- the options with another value of one of them
abbrev pub with_option : Options → Opt → ℕ → Options
with_option options PagesToScan value = record options { pages_to_scan = value }
with_option options Run value = record options { run = value }
with_option options UseZeroPages value = record options { use_zero_pages = value }
with_option options MaxPageSharing value = record options { max_page_sharing = value }

-- the option may be set now: the limit of a group's pages only while there is no group
abbrev pub MaySet : Sharing → Opt → Type 0
MaySet sharing PagesToScan = ⊤
MaySet sharing Run = ⊤
MaySet sharing UseZeroPages = ⊤
MaySet sharing MaxPageSharing = sharing.groups ≡ []

-- when an option isn't set: the first refusal, in this order, whose condition holds
abbrev pub RefusesSet : Sharing → Opt → ℕ → Fault → Type 0
RefusesSet sharing option value BadOption = ¬ (MayBe option value)
RefusesSet sharing option value PagesShared = MayBe option value × ¬ (MaySet sharing option)
RefusesSet sharing option value _ = ⊥
