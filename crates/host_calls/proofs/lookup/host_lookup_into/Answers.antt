use Rattle.std.proofs.Common.{◌≢◌, length, arith}
use Rattle.host_types.specs.Memory.{map_at}
use Rattle.page_table.specs.State.{part}
use Rattle.host_calls.proofs.Elements.{value-left}
use Rattle.host_calls.proofs.lookup.host_lookup_into.Goals as goal

pub returns-else-value-shape-clause-value : goal.returns-else-value-shape-clause-value
returns-else-value-shape-clause-value c =
    let other : length c.args.value.now ≢ c.in_ok-shape.shape.value_size = λ same. absurd (omega (arith, same, c.if-value-shape.false)) in
    value-left c.in_ok-shape.shape c.args.key c.args.value.now (map_at (part c.args.memory.now c.args.tenant).maps c.args.map)
    c.in_ok-shape.ensures.shape c.in_ok-shape.ensures.valid c.in_ok-shape.ensures.element other
