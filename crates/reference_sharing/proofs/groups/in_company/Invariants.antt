use Rattle.std.proofs.Common.{◌≡◌, ◌&&◌, nat_lt, false, length, take}
use Rattle.std.specs.List.{list_any}
use Rattle.host_types.specs.Sharing.{is_among}
use Rattle.reference_sharing.proofs.groups.in_company.Given as goal

abbrev pub invariant-loop-group : goal.invariant-loop-group
invariant-loop-group l = list_any (λ group. is_among l.page_index group.items && nat_lt 1 (length group.items)) (take l.group-index l.groups) ≡ false
