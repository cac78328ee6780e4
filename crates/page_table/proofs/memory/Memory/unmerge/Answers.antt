use Rattle.page_table.proofs.Base.{◌≤◌, ◌+◌, length, arith, nat_tests, unmerge_need, used_by, sharing_of, view_of}
use Rattle.page_table.proofs.Merging.{moves}
use Rattle.page_table.proofs.Unmerging.{need_reserved, need_fits, unmerged_is}
use Rattle.page_table.proofs.Waiters.{pass-kept, entries-long}
use Rattle.page_table.proofs.Partners.{ahead-answer, stay-pages_broken}
use Rattle.page_table.proofs.memory.Memory.unmerge.Goals as goal

pub take_out_all-requires : goal.take_out_all-requires
take_out_all-requires c = grind (arith, nat_tests, need_fits)

room : (c : goal.After-set) → c.self.inside.reserved + used_by c.take_out_all.new.self ≤ length c.self.inside.table.arena
unfolding view_of
room c =
    grind (arith, need_reserved c.self.inside.table c.self.inside.shapes.items c.self.inside.tenants.items c.self.inside.pass c.self.inside.reserved c.self.invariant.0, c.take_out_all.ensures.used c.self.inside.pass)

pub invariant_of-self : goal.invariant_of-self
invariant_of-self c =
    grind (arith, nat_tests, room c, pass-kept c.self.inside.table c.take_out_all.new.self c.self.inside.pass c.self.invariant.1 c.take_out_all.ensures.kept c.take_out_all.ensures.arena (entries-long c.self.inside.table c.take_out_all.new.self c.take_out_all.ensures.contents), entries-long c.self.inside.table c.take_out_all.new.self c.take_out_all.ensures.contents, ahead-answer c.self.inside.table c.take_out_all.new.self c.self.inside.pass, stay-pages_broken (sharing_of c.self.inside.table c.self.inside.pass) 0)

pub returns : goal.returns
unfolding view_of
returns c =
    grind (arith, nat_tests, moves c.self.inside.table c.take_out_all.new.self c.self.inside.shapes.items c.self.inside.tenants.items c.self.inside.pass c.set.new.self c.take_out_all.ensures.contents c.take_out_all.ensures.arena c.args.self.now c.self.view_is (unmerge_need (sharing_of c.self.inside.table c.self.inside.pass)) 0 c.self.inside.reserved c.self.invariant.0 (room c), c.take_out_all.ensures.used c.self.inside.pass, unmerged_is c.self.inside.table c.take_out_all.new.self c.self.inside.pass c.set.new.self c.set.ensures c.take_out_all.ensures.sharing)
