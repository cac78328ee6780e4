use Rattle.std.proofs.Common.{◌≡◌, ℕ, Bool, true, false, refl, sym, ◌∙◌, arith}
use Rattle.host_types.specs.Pages.{page_index_of}
use Rattle.host_types.specs.Pins.{broken_for_run}
use Rattle.host_types.specs.Sharing.{Sharing, state_at, is_shared_page}
use Rattle.host_types.proofs.Unmerging.{broken-own}
use Rattle.host_types.proofs.Pins.{by-own, break_cost-own}
use Rattle.page_table.specs.State.{MemoryState, part}
use Rattle.write_break.specs.Stores.{with_pins_of}
use Rattle.write_break.proofs.access.take_out_shared.Goals as goal

-- the break of a page that shares no frame changes nothing
own_broken : (running : Bool) (s : Sharing) (i : ℕ) → is_shared_page (state_at s i) ≡ false → broken_for_run running s i ≡ s
unfolding broken_for_run
own_broken false s i own = broken-own s i own
own_broken true s i own = by-own s i own

-- a part has the pins of its pages
pinned_itself : (memory : MemoryState) (t : ℕ) → part memory t ≡ with_pins_of memory.sharing t (part memory t)
unfolding part
pinned_itself memory t = refl

pub returns-else-entry-clause-part : goal.returns-else-entry-clause-part
returns-else-entry-clause-part c = pinned_itself c.args.memory.now c.args.page.tenant

-- a page that isn't protected shares no frame
apart : (c : goal.Else-entry) → is_shared_page (state_at c.args.memory.now.sharing (page_index_of c.args.page)) ≡ false
apart c = rw c.entry.ensures.state (sym c.entry.ensures.protection ∙ c.if-entry.false)

pub returns-else-entry-clause-sharing : goal.returns-else-entry-clause-sharing
returns-else-entry-clause-sharing c = sym (own_broken (part c.args.memory.now c.args.page.tenant).running c.args.memory.now.sharing (page_index_of c.args.page) (apart c))

pub returns-else-entry-clause-have : goal.returns-else-entry-clause-have
returns-else-entry-clause-have c =
    let none = break_cost-own c.args.memory.now.sharing (page_index_of c.args.page) (apart c) in
    omega (arith, none)
