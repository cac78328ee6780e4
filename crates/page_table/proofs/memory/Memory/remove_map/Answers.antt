use Rattle.page_table.proofs.Base.{◌≡◌, ◌+◌, ◌*◌, [], None, replicate, slice_set, arith, nat_tests, with_part, map_index_of, ended_at, page_count, contents_of, sharing_of, view_of, IsPass, IsMemory, OnlyRunsPin}
use Rattle.page_table.proofs.Dropping.{Drops, left_outside, pass-outside, index_inside, page_indices_inside, pages_there, few, map_pins, long_new, memory_dropped, drops}
use Rattle.page_table.proofs.Pinning.{runs-fewer, pins-ended}
use Rattle.page_table.proofs.memory.Memory.remove_map.Goals as goal

pub remove_all-requires : goal.remove_all-requires
remove_all-requires c = grind (arith, nat_tests, page_indices_inside, pages_there)

pub release-requires : goal.release-requires
release-requires c = grind (arith, nat_tests, map_pins, few, index_inside)

pub index_mut-requires : goal.index_mut-requires
index_mut-requires c = grind (arith, nat_tests, index_inside)

pub end_if_done-requires-clause-maps : goal.end_if_done-requires-clause-maps
end_if_done-requires-clause-maps c = grind (arith, nat_tests, memory_dropped c.self.inside.table c.self.inside.shapes.items c.self.inside.tenants.items c.self.inside.pass c.self.inside.reserved c.args.tenant c.args.map c.args.shape c.args.self.now c.self.view_is c.self.invariant.0 c.requires.tenant c.requires.there c.remove_all.new.self)

contents : (c : goal.After-end_if_done) → contents_of c.remove_all.new.self ≡ with_part (contents_of c.self.inside.table) (map_index_of c.args.tenant c.args.map * 256) (replicate (page_count c.args.shape) [])
contents c = rw (c.map_index-index.ensures, c.pages-count.ensures) at c.remove_all.ensures.contents

ended : (c : goal.After-end_if_done) → sharing_of c.remove_all.new.self c.end_if_done.new.pass
    ≡ ended_at (sharing_of c.remove_all.new.self (left_outside (map_index_of c.args.tenant c.args.map * 256) (map_index_of c.args.tenant c.args.map * 256 + page_count c.args.shape) c.self.inside.pass)) c.self.inside.pass.cursor
ended c = rw (c.forget_all.ensures, c.release.ensures, c.map_index-index.ensures, c.pages-count.ensures) at c.end_if_done.ensures.ended

kept : (c : goal.After-end_if_done) → IsPass c.remove_all.new.self (left_outside (c.map_index-index.result * 256) (c.map_index-index.result * 256 + c.pages-count.result) c.self.inside.pass)
kept c =
    grind (arith, nat_tests, pass-outside c.self.inside.table c.remove_all.new.self c.self.inside.pass, long_new c.self.inside.table c.self.inside.shapes.items c.self.inside.tenants.items c.self.inside.pass c.self.inside.reserved c.args.tenant c.args.map c.args.shape c.args.self.now c.self.view_is c.self.invariant.0 c.requires.tenant c.requires.there c.remove_all.new.self, few c.self.inside.table c.self.inside.shapes.items c.self.inside.tenants.items c.self.inside.pass, map_pins c.self.inside.table c.self.inside.shapes.items c.self.inside.tenants.items c.self.inside.pass)

memory : (c : goal.After-end_if_done) → IsMemory c.remove_all.new.self (slice_set c.self.inside.shapes.items c.map_index-index.result None) c.self.inside.tenants.items c.self.inside.reserved
memory c =
    grind (arith, nat_tests, memory_dropped c.self.inside.table c.self.inside.shapes.items c.self.inside.tenants.items c.self.inside.pass c.self.inside.reserved c.args.tenant c.args.map c.args.shape c.args.self.now c.self.view_is c.self.invariant.0 c.requires.tenant c.requires.there c.remove_all.new.self)

only : (c : goal.After-end_if_done) → OnlyRunsPin c.self.inside.tenants.items c.end_if_done.new.pass.pins
only c =
    rw (pins-ended c.remove_all.new.self (left_outside (map_index_of c.args.tenant c.args.map * 256) (map_index_of c.args.tenant c.args.map * 256 + page_count c.args.shape) c.self.inside.pass) c.end_if_done.new.pass c.self.inside.pass.cursor (ended c))
    (runs-fewer c.self.inside.tenants.items c.self.inside.pass.pins (map_index_of c.args.tenant c.args.map * 256) 256
    (map_pins c.self.inside.table c.self.inside.shapes.items c.self.inside.tenants.items c.self.inside.pass c.self.inside.reserved c.args.tenant c.args.map c.args.shape c.args.self.now c.self.view_is c.self.invariant.0 c.requires.tenant c.requires.there c.self.invariant.1.pins) c.self.invariant.3)

pub invariant_of-self : goal.invariant_of-self
invariant_of-self c = (memory c, c.end_if_done.ensures.kept (rw (c.forget_all.ensures, c.release.ensures) (kept c)), c.end_if_done.ensures.ahead, only c)

answer : (c : goal.After-end_if_done) → Drops (view_of c.self.inside.table c.self.inside.shapes.items c.self.inside.tenants.items c.self.inside.pass) (view_of c.remove_all.new.self (slice_set c.self.inside.shapes.items (map_index_of c.args.tenant c.args.map) None) c.self.inside.tenants.items c.end_if_done.new.pass) c.args.tenant c.args.map c.args.shape
answer c = grind (arith, nat_tests, drops c.self.inside.table c.self.inside.shapes.items c.self.inside.tenants.items c.self.inside.pass c.self.inside.reserved c.args.tenant c.args.map c.args.shape c.args.self.now c.self.view_is c.self.invariant.0 c.requires.tenant c.requires.there c.remove_all.new.self, contents c, ended c)

pub returns : goal.returns
returns c = rw (← c.self.view_is, c.map_index-index.ensures) (assumption (answer c))
