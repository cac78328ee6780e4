use Rattle.page_table.proofs.Base.{arith, get_or_default, nat_tests, length-part_of}
use Rattle.page_table.proofs.Unpinning.{pins-more-at, few-pinned}
use Rattle.page_table.proofs.pins.Pins.pin.Goals as goal

pub overflow_add-index_mut : goal.overflow_add-index_mut
overflow_add-index_mut c = grind (arith, nat_tests, get_or_default, few-pinned, length-part_of)

pub overflow_add-self : goal.overflow_add-self
overflow_add-self c =
    let few = few-pinned c.self.inside.page_indices.items in
    omega (arith, few, c.self.invariant.all, c.self.invariant.few)

pub invariant_of-self : goal.invariant_of-self
invariant_of-self c =
    grind (arith, get_or_default c.self.inside.numbers.items, pins-more-at c.self.inside.page_indices.items c.self.inside.numbers.items c.self.inside.total c.self.invariant c.args.page_index c.index_mut-then-not-index.result.now)
