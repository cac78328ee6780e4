use Rattle.page_table.proofs.Base.{◌≡◌, Bool, if◌then◌else◌, arith, nat_tests, part_of, pages_on}
use mir.Val.{bool_byte}
use Rattle.page_table.proofs.Unmerging.{cost-after, cost-after-own, cost-after-none, count-part, entry-at_or_before, pages-before}
use Rattle.page_table.proofs.table.Table.cost_after.Goals as goal
use Rattle.page_table.proofs.table.Table.cost_after.Goals.{In-Some}

as-number : (b : Bool) → bool_byte b ≡ (if b then 1 else 0)
as-number b = grind (arith, nat_tests)

before : (c : In-Some) → pages_on c.in-Some.entry.frame c.split_at-2.result.0.now ≡ pages_on c.in-Some.entry.frame (part_of c.self.inside.entries c.args.first c.args.number)
before c = grind (arith, nat_tests, pages-before)

pub returns-in_default-clause-cost : goal.returns-in_default-clause-cost
returns-in_default-clause-cost c = grind (arith, nat_tests, entry-at_or_before, cost-after-none)

pub returns-then-not-entry-clause-cost : goal.returns-then-not-entry-clause-cost
returns-then-not-entry-clause-cost c = grind (arith, nat_tests, cost-after-own, entry-at_or_before)

pub overflow_sub-left : goal.overflow_sub-left
overflow_sub-left c = grind (arith, nat_tests, count-part, entry-at_or_before, before)

pub returns-clause-cost : goal.returns-clause-cost
returns-clause-cost c = grind (arith, nat_tests, before, as-number, cost-after, entry-at_or_before)
