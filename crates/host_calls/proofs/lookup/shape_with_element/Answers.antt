use Rattle.std.proofs.Common.{◌∙◌, sym, arith}
use Rattle.host_types.specs.Memory.{map_at}
use Rattle.page_table.specs.State.{part}
use Rattle.host_calls.specs.Calls.{lookup_refusal_in}
use Rattle.host_calls.proofs.Elements.{tenant-missing, tenant-there, or_bad-there, or_bad-missing, map-missing, element-refused, element-allowed}
use Rattle.host_calls.proofs.lookup.shape_with_element.Goals as goal

pub returns-then-tenant-tenants-clause-first : goal.returns-then-tenant-tenants-clause-first
returns-then-tenant-tenants-clause-first c =
    or_bad-missing (part c.args.memory.now c.args.tenant) (lookup_refusal_in (map_at (part c.args.memory.now c.args.tenant).maps c.args.map) c.args.key)
    (tenant-missing c.args.memory.now c.args.tenant c.facts.ensures.eight (omega (arith, c.if-tenant-tenants.true, c.tenants.ensures)))

pub returns-in_default-clause-first : goal.returns-in_default-clause-first
returns-in_default-clause-first c =
    or_bad-there (part c.args.memory.now c.args.tenant) (lookup_refusal_in (map_at (part c.args.memory.now c.args.tenant).maps c.args.map) c.args.key) _
    (tenant-there c.args.memory.now c.args.tenant c.facts.ensures.eight (omega (arith, c.if-tenant-tenants.false, c.tenants.ensures)))
    (map-missing (map_at (part c.args.memory.now c.args.tenant).maps c.args.map) c.args.key (sym c.shape.ensures.shape ∙ c.in_default.is))

pub returns-then-key-shape-clause-first : goal.returns-then-key-shape-clause-first
returns-then-key-shape-clause-first c =
    or_bad-there (part c.args.memory.now c.args.tenant) (lookup_refusal_in (map_at (part c.args.memory.now c.args.tenant).maps c.args.map) c.args.key) _
    (tenant-there c.args.memory.now c.args.tenant c.facts.ensures.eight (omega (arith, c.if-tenant-tenants.false, c.tenants.ensures)))
    (element-refused c.in-Some.shape c.args.key (map_at (part c.args.memory.now c.args.tenant).maps c.args.map) (sym c.shape.ensures.shape ∙ c.in-Some.is) (omega (arith, c.if-key-shape.true)))

pub returns-clause-allowed : goal.returns-clause-allowed
returns-clause-allowed c =
    or_bad-there (part c.args.memory.now c.args.tenant) (lookup_refusal_in (map_at (part c.args.memory.now c.args.tenant).maps c.args.map) c.args.key) _
    (tenant-there c.args.memory.now c.args.tenant c.facts.ensures.eight (omega (arith, c.if-tenant-tenants.false, c.tenants.ensures)))
    (element-allowed c.in-Some.shape c.args.key (map_at (part c.args.memory.now c.args.tenant).maps c.args.map) (sym c.shape.ensures.shape ∙ c.in-Some.is) (omega (arith, c.if-key-shape.false)))
