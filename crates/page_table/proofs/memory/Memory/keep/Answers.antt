use Rattle.page_table.proofs.Base.{arith, part, view_of, refl}
use Rattle.page_table.proofs.Recording.{records, recorded_is}
use Rattle.page_table.proofs.Pinning.{runs-recorded}
use Rattle.page_table.proofs.memory.Memory.keep.Goals as goal

pub index_mut-recorded-requires : goal.index_mut-recorded-requires
index_mut-recorded-requires c =
    grind (arith, records c.self.inside.table c.self.inside.shapes.items c.self.inside.tenants.items c.self.inside.pass c.self.inside.reserved c.self.invariant.0 c.args.self.now c.self.view_is c.args.tenant (part c.args.self.now c.args.tenant).reserve c.args.kept c.requires.there c.requires.room refl)

pub overflow_sub-self : goal.overflow_sub-self
overflow_sub-self c =
    grind (arith, records c.self.inside.table c.self.inside.shapes.items c.self.inside.tenants.items c.self.inside.pass c.self.inside.reserved c.self.invariant.0 c.args.self.now c.self.view_is c.args.tenant c.index_mut-recorded.result.now.reserve c.args.kept c.requires.there c.requires.room (recorded_is c.self.inside.table c.self.inside.shapes.items c.self.inside.tenants.items c.self.inside.pass c.self.inside.reserved c.self.invariant.0 c.args.self.now c.self.view_is c.args.tenant c.index_mut-recorded.result.now c.requires.there c.index_mut-recorded.ensures.value))

pub overflow_add-self : goal.overflow_add-self
overflow_add-self c =
    grind (arith, records c.self.inside.table c.self.inside.shapes.items c.self.inside.tenants.items c.self.inside.pass c.self.inside.reserved c.self.invariant.0 c.args.self.now c.self.view_is c.args.tenant c.index_mut-recorded.result.now.reserve c.args.kept c.requires.there c.requires.room (recorded_is c.self.inside.table c.self.inside.shapes.items c.self.inside.tenants.items c.self.inside.pass c.self.inside.reserved c.self.invariant.0 c.args.self.now c.self.view_is c.args.tenant c.index_mut-recorded.result.now c.requires.there c.index_mut-recorded.ensures.value))

pub invariant_of-self : goal.invariant_of-self
unfolding view_of part
invariant_of-self c =
    grind (arith, records c.self.inside.table c.self.inside.shapes.items c.self.inside.tenants.items c.self.inside.pass c.self.inside.reserved c.self.invariant.0 c.args.self.now c.self.view_is c.args.tenant c.index_mut-recorded.result.now.reserve c.args.kept c.requires.there c.requires.room (recorded_is c.self.inside.table c.self.inside.shapes.items c.self.inside.tenants.items c.self.inside.pass c.self.inside.reserved c.self.invariant.0 c.args.self.now c.self.view_is c.args.tenant c.index_mut-recorded.result.now c.requires.there c.index_mut-recorded.ensures.value), runs-recorded c.self.inside.tenants.items c.self.inside.pass.pins c.args.tenant c.args.kept)

pub returns : goal.returns
returns c =
    grind (arith, records c.self.inside.table c.self.inside.shapes.items c.self.inside.tenants.items c.self.inside.pass c.self.inside.reserved c.self.invariant.0 c.args.self.now c.self.view_is c.args.tenant c.index_mut-recorded.result.now.reserve c.args.kept c.requires.there c.requires.room (recorded_is c.self.inside.table c.self.inside.shapes.items c.self.inside.tenants.items c.self.inside.pass c.self.inside.reserved c.self.invariant.0 c.args.self.now c.self.view_is c.args.tenant c.index_mut-recorded.result.now c.requires.there c.index_mut-recorded.ensures.value))
