-- How many pages wait, changed, or share a frame.
use Rattle.std.specs.Prelude.{◌≡◌, ℕ, if◌then◌else◌, List, Option, sum_by}
use Rattle.host_types.specs.Counters.{unshared_at, volatile_at}
use Rattle.host_types.specs.Sharing.{PageState, is_shared_page}
use Rattle.page_table.specs.declared.tally.Tally.{Tally}

-- one for a page that shares a frame
abbrev pub shared_at : Option PageState → ℕ
shared_at page = if is_shared_page page then 1 else 0

-- the numbers are those of the pages
pub record IsTally (tally : Tally) (pages : List (Option PageState)) : Type 0 where
  pub waiting : tally.unshared ≡ sum_by unshared_at pages
  pub changed : tally.volatile ≡ sum_by volatile_at pages
  pub shared : tally.shared ≡ sum_by shared_at pages
