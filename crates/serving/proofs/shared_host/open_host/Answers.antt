use Rattle.std.proofs.Common.{◌∙◌, All, ap, refl, subst, sym}
use Rattle.page_table.specs.State.{MemoryState, part}
use Rattle.turn.specs.Views.{SeatView}
use Rattle.tenant_workers.proofs.Resting.{new_idle}
use Rattle.serving.specs.Opened.{IsSettable, options_set, with_options}
use Rattle.serving.proofs.AtFirst.{all_at_first}
use Rattle.serving.proofs.Settings.{new-groups, new-set}
use Rattle.serving.proofs.shared_host.open_host.Goals as goal

-- no page of a new memory shares a frame
pub set_all-requires : goal.set_all-requires
set_all-requires c = record { none = new-groups c.args.file.now.frames c.args.file.now.tenants c.args.file.now.options c.in_ok-memory.memory c.in_ok-memory.ensures.ok }

pub invariant_of-result : goal.invariant_of-result
invariant_of-result c =
    let file = c.args.file.now in
    let memory = c.set_all.new.memory in
    let turn = c.in-Ok.turn in
    record {
      first = all_at_first file.frames file.tenants file.options memory (λ t. c.set_all.ensures.kept t ∙ ap (λ (m : MemoryState). part m t) c.in_ok-memory.ensures.ok) turn c.new-3.result c.new-3.ensures c.in-Ok.seats.items c.in-Ok.ensures.count c.in-Ok.ensures.seats;
      scanner_idle = new_idle turn c.new-3.result _ _ memory c.in-Ok.scanner c.new-3.ensures c.in-Ok.ensures.scanner;
    }

-- the scanner's seat knows the memory as it was lent
pub returns-clause-opened : goal.returns-clause-opened
returns-clause-opened c settable =
    let file = c.args.file.now in
    let memory = c.in_ok-memory.memory in
    ap (λ (v : SeatView). v.seen) c.in-Ok.ensures.scanner.1
    ∙ c.set_all.ensures.set (subst (All IsSettable) (sym c.as_slice.ensures) settable)
    ∙ ap (λ commands. with_options memory (options_set memory.sharing.options commands)) c.as_slice.ensures
    ∙ new-set file.frames file.tenants file.options c.in_ok-memory.memory file.commands c.in_ok-memory.ensures.ok
