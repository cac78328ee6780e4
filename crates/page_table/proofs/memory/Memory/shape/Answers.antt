use Rattle.page_table.proofs.Base.{nat_tests, arith, get_or_past, ordered, view_of, part}
use Rattle.page_table.proofs.Reading.{map_at-part, map_at-past}
use Rattle.page_table.proofs.Maps.{map_at-maps_of}
use Rattle.page_table.proofs.Recording.{map_is, map_reported}
use Rattle.page_table.proofs.memory.Memory.shape.Goals as goal

pub returns-then-map-ge-MAX_MAPS : goal.returns-then-map-ge-MAX_MAPS
unfolding part
returns-then-map-ge-MAX_MAPS c = grind (arith, nat_tests, map_at-past)

pub returns : goal.returns
unfolding view_of part
returns c = grind (arith, nat_tests, map_at-part, map_at-maps_of, map_reported, map_is, get_or_past, ordered)
