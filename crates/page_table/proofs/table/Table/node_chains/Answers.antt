use Rattle.page_table.proofs.Base.{◌∙◌, sym, arith, nat_tests, chains-few}
use Rattle.page_table.proofs.Trees.{tree-length}
use Rattle.page_table.proofs.Nodes.{tree-nodes}
use Rattle.page_table.proofs.table.Table.node_chains.Goals as goal

pub overflow_cast-result : goal.overflow_cast-result
overflow_cast-result c = grind (arith, nat_tests, chains-few, tree-length)

pub returns : goal.returns
returns c = rw (← c.self.view_is) (c.node_chains.ensures ∙ sym (tree-nodes c.self.inside.arena c.self.inside.groups.listed c.self.inside.tree c.self.invariant.2).0)
