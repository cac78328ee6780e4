use Rattle.page_table.proofs.Base.{◌∙◌, arith, nat_tests}
use Rattle.page_table.proofs.Trees.{tree-length}
use Rattle.page_table.proofs.table.Table.groups.Goals as goal

pub overflow_cast-result : goal.overflow_cast-result
overflow_cast-result c = grind (arith, nat_tests, tree-length)

pub returns : goal.returns
returns c = rw (← c.self.view_is) (c.groups.ensures ∙ tree-length c.self.inside.arena c.self.inside.groups.listed c.self.inside.tree c.self.invariant.2)
