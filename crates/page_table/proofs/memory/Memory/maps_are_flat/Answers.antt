use Rattle.page_table.proofs.Recording.{eight_maps, map_reported, map_is}
use Rattle.page_table.proofs.Base.{nat_tests, arith, get_or_past, ordered, part}
use Rattle.page_table.proofs.Reading.{map_at-past}
use Rattle.page_table.proofs.memory.Memory.maps_are_flat.Goals as goal

pub returns : goal.returns
unfolding part
returns c = grind (arith, nat_tests, eight_maps, map_at-past, map_reported, map_is, get_or_past, ordered)
