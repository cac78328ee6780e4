use Rattle.page_table.specs.Limits.{shape_of}
use Rattle.page_table.specs.Changes.{FitsMap}
use Rattle.std.proofs.Common.{◌≡◌, None}
use Rattle.host_calls.specs.Calls.{refused_new_map}
use Rattle.host_calls.proofs.NewMaps.{new_map_allowed, on_ok}
use Rattle.host_calls.proofs.create.host_create_map.Goals as goal

pub returns-clause-allowed : goal.returns-clause-allowed
returns-clause-allowed c =
    on_ok c.create_map.result (FitsMap c.args.memory.now c.args.tenant (shape_of c.args.value_size c.args.entries)) (refused_new_map c.args.memory.now c.args.tenant (shape_of c.args.value_size c.args.entries) ≡ None)
    (new_map_allowed c.args.memory.now c.args.tenant (shape_of c.args.value_size c.args.entries) c.facts.ensures.eight) c.create_map.ensures.fits
