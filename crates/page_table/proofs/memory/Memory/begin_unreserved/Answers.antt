use Rattle.page_table.proofs.Base.{◌≡◌, ◌∙◌, sym, arith, part, view_of, refl, true, Tenant}
use Rattle.page_table.proofs.Recording.{records, recorded_is}
use Rattle.page_table.proofs.Pinning.{runs-recorded}
use Rattle.page_table.proofs.memory.Memory.begin_unreserved.Goals as goal

-- what is recorded then
abbrev open_tenant : Tenant
open_tenant = record { reserve = 0; running = true }

pub index_mut-requires : goal.index_mut-requires
index_mut-requires c =
    grind (arith, records c.self.inside.table c.self.inside.shapes.items c.self.inside.tenants.items c.self.inside.pass c.self.inside.reserved c.self.invariant.0 c.args.self.now c.self.view_is c.args.tenant (part c.args.self.now c.args.tenant).reserve open_tenant c.requires.there (omega arith) refl)

pub invariant_of-self : goal.invariant_of-self
unfolding view_of part
invariant_of-self c =
    let none : c.index_mut.result.now.reserve ≡ 0 = recorded_is c.self.inside.table c.self.inside.shapes.items c.self.inside.tenants.items c.self.inside.pass c.self.inside.reserved c.self.invariant.0 c.args.self.now c.self.view_is c.args.tenant c.index_mut.result.now c.requires.there c.index_mut.ensures.value ∙ c.requires.none in
    rw none (grind (arith, records c.self.inside.table c.self.inside.shapes.items c.self.inside.tenants.items c.self.inside.pass c.self.inside.reserved c.self.invariant.0 c.args.self.now c.self.view_is c.args.tenant 0 open_tenant c.requires.there (omega arith) (sym c.requires.none), runs-recorded c.self.inside.tenants.items c.self.inside.pass.pins c.args.tenant open_tenant))

pub returns : goal.returns
returns c =
    let none : c.index_mut.result.now.reserve ≡ 0 = recorded_is c.self.inside.table c.self.inside.shapes.items c.self.inside.tenants.items c.self.inside.pass c.self.inside.reserved c.self.invariant.0 c.args.self.now c.self.view_is c.args.tenant c.index_mut.result.now c.requires.there c.index_mut.ensures.value ∙ c.requires.none in
    rw none (grind (arith, records c.self.inside.table c.self.inside.shapes.items c.self.inside.tenants.items c.self.inside.pass c.self.inside.reserved c.self.invariant.0 c.args.self.now c.self.view_is c.args.tenant 0 open_tenant c.requires.there (omega arith) (sym c.requires.none)))
