use Rattle.std.proofs.Common.{◌∙◌, ◌≤◌, sym, ap, arith}
use Rattle.host_types.specs.Pages.{page_index_of}
use Rattle.host_types.specs.Sharing.{cost_from}
use Rattle.host_types.proofs.Pins.{cost_from-few}
use Rattle.write_break.specs.Stores.{touched, page_of_byte}
use Rattle.write_break.proofs.Stores.{touched-some, touched-none, touched-within, touched-two}
use Rattle.write_break.proofs.access.needs.Goals as goal

pub returns-then-count-eq0-clause-cost : goal.returns-then-count-eq0-clause-cost
unfolding cost_from
returns-then-count-eq0-clause-cost c = sym (ap (cost_from c.args.memory.now.sharing (page_of_byte c.args.tenant c.args.map c.args.at)) (sym c.touched_pages-count.ensures ∙ c.if-count-eq0.true))

pub break_costs-requires-clause-there : goal.break_costs-requires-clause-there
break_costs-requires-clause-there c =
    let some = touched-none c.args.at c.args.len in
    rw (c.page_of.ensures) (omega (arith, c.requires, some, c.touched_pages-count.ensures))

pub break_costs-requires-clause-pages : goal.break_costs-requires-clause-pages
break_costs-requires-clause-pages c =
    let some = touched-none c.args.at c.args.len in
    let count = touched-some c.args.at c.args.len in
    rw (c.page_of.ensures) (omega (arith, c.requires, some, count, c.touched_pages-count.ensures))

few : (c : goal.After-break_costs) → c.break_costs.result ≤ touched c.args.at c.args.len
few c =
    let each = cost_from-few c.args.memory.now.sharing (page_index_of c.page_of.result) c.touched_pages-count.result in
    omega (arith, each, c.break_costs.ensures, c.touched_pages-count.ensures)

pub returns-clause-few : goal.returns-clause-few
returns-clause-few c = few c

pub returns-clause-one : goal.returns-clause-one
returns-clause-one c within =
    let all = few c in
    let one = touched-within c.args.at c.args.len within in
    omega (arith, all, one)

pub returns-clause-two : goal.returns-clause-two
returns-clause-two c small =
    let all = few c in
    let two = touched-two c.args.at c.args.len small in
    omega (arith, all, two)
