use Rattle.page_table.proofs.Base.{arith, get_or_default, nat_tests, length-with_part}
use Rattle.page_table.proofs.Unpinning.{pins-cleared, pins-some, written-back}
use Rattle.page_table.proofs.pins.Pins.clear.Goals as goal

pub overflow_sub-self : goal.overflow_sub-self
overflow_sub-self c = grind (arith, nat_tests, get_or_default c.self.inside.numbers.items, pins-some c.self.inside.page_indices.items c.self.inside.numbers.items c.self.inside.total c.self.invariant c.args.index)

pub invariant_of-self : goal.invariant_of-self
invariant_of-self c =
    grind (arith, nat_tests, get_or_default c.self.inside.numbers.items, length-with_part, written-back, pins-cleared c.self.inside.page_indices.items c.self.inside.numbers.items c.self.inside.total c.self.invariant c.args.index)
