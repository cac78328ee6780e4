use Rattle.page_table.proofs.Base.{◌≡◌, ◌<◌, ◌≤◌, ◌+◌, ◌-◌, ℕ, sum_by, slice_set, Option, option_map, arith, get_or_default, nat_tests, length-map, sum_by-le, get_or-le-sum_by, sum_by-set, map-set, unshared_at, volatile_at, PageState, entry_at, state_of, states_of, shared_at}
use Rattle.std.proofs.Common.{length-set}
use Rattle.page_table.proofs.Entries.{reported_at}
use Rattle.page_table.proofs.page_list.PageList.replace.Goals as goal
use Rattle.page_table.proofs.Counting.{unshared-one, volatile-one, shared-one}
use Rattle.page_table.proofs.page_list.PageList.replace.Goals.{After-of}

-- what stood at the index
was : (c : After-of) → c.index.result.now ≡ entry_at c.self.inside.pages.items c.args.page_index
was c = grind (arith, nat_tests, get_or_default)

-- one of the three numbers: what stood at the index is in it, one more fits, and so it becomes
counts : (c : After-of) (f : Option PageState → ℕ) → ((x : Option PageState) → f x ≤ 1) → (count before after : ℕ) → count ≡ sum_by f (states_of c.self.inside.pages.items)
    → before ≡ f (option_map state_of c.index.result.now) → after ≡ f (option_map state_of c.args.page)
    → (before ≤ count) × (count + after < 4294967296) × (count - before + after ≡ sum_by f (states_of (slice_set c.self.inside.pages.items c.args.page_index c.args.page)))
counts c f h1 count before after h2 h3 h4 = grind (arith, nat_tests, length-map, get_or-le-sum_by, sum_by-set, map-set, reported_at, was c, sum_by-le)

pub moved-self-inside-requires : goal.moved-self-inside-requires
moved-self-inside-requires c =
    grind (arith, counts c unshared_at unshared-one _ _ _ c.self.invariant.1.waiting c.of-before.ensures.unshared c.of.ensures.unshared, counts c volatile_at volatile-one _ _ _ c.self.invariant.1.changed c.of-before.ensures.volatile c.of.ensures.volatile, counts c shared_at shared-one _ _ _ c.self.invariant.1.shared c.of-before.ensures.shared c.of.ensures.shared)

pub invariant_of-self : goal.invariant_of-self
invariant_of-self c = grind (arith, nat_tests, length-set, counts, unshared-one, volatile-one, shared-one)
