use Rattle.page_table.proofs.Base.{◌≡◌, ◌*◌, ◌<◌, false, length, replicate, refl, arith, nat_tests, with_part, frames_free, view_of, PinsFit, OnlyRunsPin, states_of}
use Rattle.page_table.proofs.Recording.{tenant_there}
use Rattle.page_table.proofs.Unpinning.{pins-inside, part-unpinned, others-kept, fit-fewer}
use Rattle.page_table.proofs.Pinning.{runs-fewer}
use Rattle.page_table.proofs.memory.Memory.unpin.Goals as goal

pub release_all-requires : goal.release_all-requires
release_all-requires c = grind (arith, nat_tests, tenant_there, pins-inside)

released : (c : goal.After-release_all) → c.release_all.new.self ≡ with_part c.self.inside.pass.pins (c.args.tenant * 2048) (replicate 2048 false)
released c = grind (arith, nat_tests)

inside : (c : goal.After-release_all) → c.args.tenant < length c.self.inside.tenants.items
inside c = grind (arith, nat_tests, tenant_there)

fits : (c : goal.After-release_all) → PinsFit (states_of c.self.inside.table.entries) (with_part c.self.inside.pass.pins (c.args.tenant * 2048) (replicate 2048 false))
fits c =
    grind (arith, inside c, fit-fewer (states_of c.self.inside.table.entries) c.self.inside.pass.pins (c.args.tenant * 2048) 2048, pins-inside c.self.inside.table c.self.inside.shapes.items c.self.inside.tenants.items c.self.inside.pass c.self.inside.reserved c.self.invariant.0)

only : (c : goal.After-release_all) → OnlyRunsPin c.self.inside.tenants.items (with_part c.self.inside.pass.pins (c.args.tenant * 2048) (replicate 2048 false))
only c =
    runs-fewer c.self.inside.tenants.items c.self.inside.pass.pins (c.args.tenant * 2048) 2048
    (pins-inside c.self.inside.table c.self.inside.shapes.items c.self.inside.tenants.items c.self.inside.pass c.self.inside.reserved c.self.invariant.0 c.self.invariant.1.pins c.args.tenant (inside c)) c.self.invariant.3

pub invariant_of-self : goal.invariant_of-self
invariant_of-self c = grind (arith, nat_tests, released c, fits c, only c)

pub returns-clause-part : goal.returns-clause-part
returns-clause-part c = rw (← c.self.view_is, released c) (part-unpinned c.self.inside.table c.self.inside.shapes.items c.self.inside.tenants.items c.self.inside.pass c.self.inside.reserved c.self.invariant.0 c.self.invariant.1.pins c.args.tenant (inside c))

pub returns-clause-others : goal.returns-clause-others
returns-clause-others c = rw (← c.self.view_is, released c) (others-kept c.self.inside.table c.self.inside.shapes.items c.self.inside.tenants.items c.self.inside.pass c.self.inside.reserved c.self.invariant.0 c.self.invariant.1.pins c.args.tenant (inside c))

pub returns-clause-have : goal.returns-clause-have
unfolding view_of frames_free
returns-clause-have c = rw (← c.self.view_is) refl

pub returns-clause-all : goal.returns-clause-all
unfolding view_of
returns-clause-all c = grind (arith, nat_tests, released)
