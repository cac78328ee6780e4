-- What an unmerging does to a memory.
use Rattle.std.specs.Prelude.{◌≡◌, ◌+◌, ◌≤◌}
use Rattle.host_types.specs.Unmerging.{unmerged, unmerge_need, SharesNothing}
use Rattle.page_table.specs.State.{MemoryState, free_of, have_of}
use Rattle.page_table.specs.Changes.{AreKept, KeepsSettings}

-- Each page that shared a frame got one of its own, for which there were frames, and the scanner stopped. No map
-- changed, no tenant's part and no setting.
pub record HasUnmerged (old new : MemoryState) : Type 0 where
  pub enough : unmerge_need old.sharing ≤ have_of old
  pub sharing : new.sharing ≡ unmerged old.sharing
  pub none : SharesNothing new.sharing
  pub free : free_of new + unmerge_need old.sharing ≡ free_of old
  pub have : have_of new + unmerge_need old.sharing ≡ have_of old
  pub maps : new.maps ≡ old.maps
  pub kept : AreKept old new
  pub settings : KeepsSettings old new
