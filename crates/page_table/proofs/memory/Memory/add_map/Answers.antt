use Rattle.page_table.proofs.Base.{◌≡◌, ◌∙◌, ◌+◌, ◌*◌, ℕ, replicate, slice_set, Some, ap, arith, nat_tests, with_part, map_index_of, zero_page, new_page, page_count, contents_of, states_of, used_by, view_of}
use Rattle.page_table.specs.Changes.{HasMap}
use Rattle.page_table.proofs.Creating.{memory_created, creates, index_inside, no_contents, tenant_inside, number_empty, room_inside, length-contents}
use Rattle.page_table.proofs.Waiters.{pass-kept, kept-own}
use Rattle.page_table.proofs.Reading.{few_pages}
use Rattle.page_table.proofs.Partners.{ahead-more}
use Rattle.page_table.proofs.memory.Memory.add_map.Goals as goal

pub add_pages-requires : goal.add_pages-requires
add_pages-requires c = grind (arith, nat_tests, length-contents, few_pages, index_inside, tenant_inside c.self.inside.table c.self.inside.shapes.items c.self.inside.tenants.items c.self.inside.pass c.args.self.now c.self.view_is c.args.tenant c.requires.tenant, number_empty c.self.inside.table c.self.inside.shapes.items c.self.inside.tenants.items c.self.inside.pass c.args.self.now c.self.view_is c.args.tenant c.args.number c.requires.number c.requires.none, no_contents c.self.inside.table c.self.inside.shapes.items c.self.inside.tenants.items c.self.inside.pass c.self.inside.reserved c.args.tenant c.args.number c.args.shape c.self.invariant.0 c.requires.number, room_inside c.self.inside.table c.self.inside.shapes.items c.self.inside.tenants.items c.self.inside.pass c.args.self.now c.self.view_is c.self.inside.reserved)

pub index_mut-requires : goal.index_mut-requires
index_mut-requires c = grind (arith, nat_tests, index_inside, tenant_inside, number_empty)

contents : (c : goal.After-self-1) → contents_of c.add_pages.new.table ≡ with_part (contents_of c.self.inside.table) (map_index_of c.args.tenant c.args.number * 256) (replicate (page_count c.args.shape) zero_page)
contents c = rw (c.map_index-index.ensures, c.pages.ensures) at c.add_pages.ensures.contents

states : (c : goal.After-self-1) → states_of c.add_pages.new.table.entries ≡ with_part (states_of c.self.inside.table.entries) (map_index_of c.args.tenant c.args.number * 256) (replicate (page_count c.args.shape) (Some (new_page c.args.mergeable)))
states c = rw (c.map_index-index.ensures, c.pages.ensures) at c.add_pages.ensures.states

used : (c : goal.After-self-1) → used_by c.add_pages.new.table ≡ used_by c.self.inside.table + page_count c.args.shape
used c = c.add_pages.ensures.used ∙ ap (λ (n : ℕ). used_by c.self.inside.table + n) c.pages.ensures

pub invariant_of-self : goal.invariant_of-self
invariant_of-self c =
    grind (arith, memory_created c.self.inside.table c.add_pages.new.table c.self.inside.shapes.items c.self.inside.tenants.items c.self.inside.pass c.self.inside.reserved c.args.tenant c.args.number c.args.shape c.args.mergeable c.self.invariant.0 c.requires.number (tenant_inside c.self.inside.table c.self.inside.shapes.items c.self.inside.tenants.items c.self.inside.pass c.args.self.now c.self.view_is c.args.tenant c.requires.tenant) (number_empty c.self.inside.table c.self.inside.shapes.items c.self.inside.tenants.items c.self.inside.pass c.args.self.now c.self.view_is c.args.tenant c.args.number c.requires.number c.requires.none) c.requires.shape (contents c) (states c) c.add_pages.ensures.groups (used c) c.add_pages.ensures.arena (room_inside c.self.inside.table c.self.inside.shapes.items c.self.inside.tenants.items c.self.inside.pass c.args.self.now c.self.view_is c.self.inside.reserved (page_count c.args.shape) c.self.invariant.0 c.requires.room), pass-kept c.self.inside.table c.add_pages.new.table c.self.inside.pass c.self.invariant.1 (kept-own c.self.inside.table c.add_pages.new.table c.add_pages.ensures.kept) c.add_pages.ensures.arena c.add_pages.ensures.entries, ahead-more c.self.inside.table c.add_pages.new.table c.self.inside.pass c.self.inside.pass.cursor c.add_pages.ensures.kept c.self.invariant.2)

answer : (c : goal.After-self-1) → HasMap c.args.tenant c.args.number c.args.shape c.args.mergeable (view_of c.self.inside.table c.self.inside.shapes.items c.self.inside.tenants.items c.self.inside.pass) (view_of c.add_pages.new.table (slice_set c.self.inside.shapes.items (map_index_of c.args.tenant c.args.number) (Some c.args.shape)) c.self.inside.tenants.items c.self.inside.pass)
answer c =
    grind (arith, creates c.self.inside.table c.add_pages.new.table c.self.inside.shapes.items c.self.inside.tenants.items c.self.inside.pass c.self.inside.reserved c.args.tenant c.args.number c.args.shape c.args.mergeable c.self.invariant.0 c.requires.number (tenant_inside c.self.inside.table c.self.inside.shapes.items c.self.inside.tenants.items c.self.inside.pass c.args.self.now c.self.view_is c.args.tenant c.requires.tenant) (number_empty c.self.inside.table c.self.inside.shapes.items c.self.inside.tenants.items c.self.inside.pass c.args.self.now c.self.view_is c.args.tenant c.args.number c.requires.number c.requires.none) c.requires.shape (contents c) (states c) c.add_pages.ensures.groups (used c) c.add_pages.ensures.arena (room_inside c.self.inside.table c.self.inside.shapes.items c.self.inside.tenants.items c.self.inside.pass c.args.self.now c.self.view_is c.self.inside.reserved (page_count c.args.shape) c.self.invariant.0 c.requires.room))

pub returns : goal.returns
returns c = rw (← c.self.view_is, c.map_index-index.ensures) (assumption (answer c))
