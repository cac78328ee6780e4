use Rattle.page_table.proofs.Base.{◌≡◌, ◌≤◌, ◌+◌, ◌&&◌, length, arith, nat_tests, get_or_past, length-map, page_index_of, broken_for_run, state_at, is_shared_page, break_cost, Sharing, MemoryState, part, used_by, sharing_of, view_of, IsPass, OnlyRunsPin}
use Rattle.page_table.proofs.Creating.{length-contents}
use Rattle.page_table.proofs.Merging.{parts_but, part_pinned, map_small, number_small, cost_reported, cost_reserved, own_reported, moves}
use Rattle.page_table.proofs.Unpinning.{pinned-others}
use Rattle.page_table.proofs.Pinning.{tenant-page_index, runs-more}
use Rattle.page_table.proofs.Waiters.{pass-kept, entries-long, pinned_if, sharing-taken, pins-taken}
use Rattle.page_table.proofs.Partners.{sees, ahead-answer, stay-broken}
use Rattle.page_table.proofs.memory.Memory.take_out_as.Goals as goal

pub pin_if-requires : goal.pin_if-requires
pin_if-requires c =
    grind (arith, sees c.self.inside.table c.self.inside.shapes.items c.self.inside.tenants.items c.self.inside.pass c.self.inside.reserved c.self.invariant.0 c.args.self.now c.self.view_is c.args.page c.index_of_page-page_index.result c.index_of_page-page_index.ensures, length-map, length-contents, get_or_past)

pub take_out-requires : goal.take_out-requires
take_out-requires c =
    grind (arith, nat_tests, sees c.self.inside.table c.self.inside.shapes.items c.self.inside.tenants.items c.self.inside.pass c.self.inside.reserved c.self.invariant.0 c.args.self.now c.self.view_is c.args.page c.index_of_page-page_index.result c.index_of_page-page_index.ensures, cost_reserved c.self.inside.table c.self.inside.shapes.items c.self.inside.tenants.items c.self.inside.pass c.costs_are_reported.ensures c.self.inside.reserved (page_index_of c.args.page) c.self.invariant.0)

abbrev before : goal.After-pin_if → MemoryState
before c = view_of c.self.inside.table c.self.inside.shapes.items c.self.inside.tenants.items c.self.inside.pass

room : (c : goal.After-pin_if) → c.self.inside.reserved + used_by c.take_out.new.self ≤ length c.self.inside.table.arena
room c = grind (arith, nat_tests, cost_reserved, cost_reported)

pinned : (c : goal.After-pin_if) → c.pin_if.new.self ≡ pinned_if c.pins-pins.result (page_index_of c.args.page) c.self.inside.pass.pins
pinned c = grind arith

pins : (c : goal.After-pin_if) → c.pins-pins.result ≡ (c.args.is_pinned && is_shared_page (state_at (sharing_of c.self.inside.table c.self.inside.pass) (page_index_of c.args.page)))
unfolding view_of
pins c = rw (← c.self.view_is) at c.pins-pins.ensures

pass : (c : goal.After-pin_if) → IsPass c.take_out.new.self (record c.self.inside.pass { pins = c.pin_if.new.self })
pass c =
    grind (arith, nat_tests, pinned c, pass-kept c.self.inside.table c.take_out.new.self c.self.inside.pass c.self.invariant.1, entries-long c.self.inside.table c.take_out.new.self c.take_out.ensures.contents, pins-taken c.self.inside.table c.take_out.new.self c.self.inside.pass (page_index_of c.args.page) c.args.is_pinned c.pins-pins.result (pins c) (rw c.index_of_page-page_index.ensures at c.take_out.ensures.sharing c.self.inside.pass) c.self.invariant.1.pins)

only : (c : goal.After-pin_if) → OnlyRunsPin c.self.inside.tenants.items c.pin_if.new.self
unfolding view_of part
only c =
    rw (pinned c)
    (runs-more c.self.inside.tenants.items c.self.inside.pass.pins c.pins-pins.result (page_index_of c.args.page)
    (λ is. grind (arith, nat_tests, pins c, tenant-page_index c.args.page, map_small c.self.inside.table c.self.inside.shapes.items c.self.inside.tenants.items c.self.inside.pass c.self.inside.reserved c.self.invariant.0 c.args.page, number_small c.self.inside.table c.self.inside.shapes.items c.self.inside.tenants.items c.self.inside.pass c.self.inside.reserved c.self.invariant.0 c.args.page)) c.self.invariant.3)

pub invariant_of-self : goal.invariant_of-self
invariant_of-self c =
    grind (arith, nat_tests, room c, pass c, only c, ahead-answer c.self.inside.table c.take_out.new.self c.self.inside.pass, stay-broken (sharing_of c.self.inside.table c.self.inside.pass))

frames : (c : goal.After-pin_if) → break_cost c.args.self.now.sharing (page_index_of c.args.page) ≡ 0
    → (view_of c.take_out.new.self c.self.inside.shapes.items c.self.inside.tenants.items (record c.self.inside.pass { pins = c.pin_if.new.self })).frames ≡ c.args.self.now.frames
unfolding view_of
frames c none = grind (arith, nat_tests, cost_reported)

pub returns : goal.returns
returns c =
    let moved = moves c.self.inside.table c.take_out.new.self c.self.inside.shapes.items c.self.inside.tenants.items c.self.inside.pass
    (record c.self.inside.pass { pins = c.pin_if.new.self }) c.take_out.ensures.contents c.take_out.ensures.arena c.args.self.now c.self.view_is
    (break_cost c.args.self.now.sharing (page_index_of c.args.page)) 0 c.self.inside.reserved c.self.invariant.0 (room c) (grind (arith, nat_tests, cost_reported)) in
    record {
      frames = frames c;
      maps = moved.maps;
      part = grind (arith, part_pinned c.self.inside.table c.take_out.new.self c.self.inside.shapes.items c.self.inside.tenants.items c.self.inside.pass (record c.self.inside.pass { pins = c.pin_if.new.self }) c.take_out.ensures.contents c.take_out.ensures.arena c.args.page.tenant);
      others = grind (arith, nat_tests, pinned c, parts_but c.self.inside.table c.take_out.new.self c.self.inside.shapes.items c.self.inside.tenants.items c.self.inside.pass (record c.self.inside.pass { pins = c.pin_if.new.self }) c.take_out.ensures.contents c.take_out.ensures.arena c.args.page.tenant, pinned-others, map_small, number_small);
      sharing = moved.sharing (λ (s : Sharing). broken_for_run c.args.is_pinned s (page_index_of c.args.page))
          (rw (pinned c)
          (sharing-taken c.self.inside.table c.take_out.new.self c.self.inside.pass (page_index_of c.args.page) c.args.is_pinned c.pins-pins.result (pins c) (rw c.index_of_page-page_index.ensures at c.take_out.ensures.sharing c.self.inside.pass)));
      own = own_reported c.take_out.new.self c.self.inside.shapes.items c.self.inside.tenants.items (record c.self.inside.pass { pins = c.pin_if.new.self }) c.args.page (rw c.index_of_page-page_index.ensures at c.take_out.ensures.own);
      free = omega (arith, moved.free);
      have = omega (arith, moved.have);
      settings = moved.settings;
    }
