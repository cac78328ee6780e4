use Rattle.std.proofs.Common.{◌≡◌, ◌++◌, take, drop}
use Rattle.host_types.specs.Sharing.{joined_by}
use Rattle.reference_sharing.proofs.groups.index_for.Given as goal

-- the index comes after all before the index
abbrev pub invariant-loop-index : goal.invariant-loop-index
invariant-loop-index l = take l.index l.group ++ joined_by l.page_index (drop l.index l.group) ≡ joined_by l.page_index l.group
