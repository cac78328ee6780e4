use Rattle.page_table.proofs.Base.{◌≡◌, ⊎_elim, slice_index_or, None, option_map, arith, length-map, eqb_tells, get_or-map, nat_tests, is_mergeable, state_of, states_of, next-here}
use Rattle.page_table.proofs.table.Table.next_mergeable.Goals as goal
use Rattle.page_table.proofs.Partners.{next-over}
use Rattle.page_table.proofs.table.Table.next_mergeable.Goals.{After-may_merge}

answer : (c : After-may_merge) → is_mergeable (slice_index_or (states_of c.args.self.now.entries) c.loop-page_index.page_index None) ≡ c.may_merge.result
answer c = grind (arith, nat_tests, get_or-map (option_map state_of) c.self.inside.entries c.loop-page_index.page_index None)

pub returns-then-may_merge : goal.returns-then-may_merge
returns-then-may_merge c =
    grind (arith, length-map c.self.inside.entries (option_map state_of), next-over (states_of c.args.self.now.entries) c.args.from c.loop-page_index.page_index c.loop-page_index.auto.page_index c.loop-page_index.invariant, next-here (states_of c.args.self.now.entries) c.loop-page_index.page_index, answer)

pub loop-page_index-preserved : goal.loop-page_index-preserved
loop-page_index-preserved c =
    let d = (goal.at.loop-page_index-preserved c).After-may_merge in
    λ i le less. ⊎_elim (λ same. grind (arith, same, answer d, c.if-may_merge.false)) (λ other. grind (arith, other, c.loop-page_index.invariant)) (eqb_tells i c.loop-page_index.page_index)
