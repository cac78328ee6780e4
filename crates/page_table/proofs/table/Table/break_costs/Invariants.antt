use Rattle.page_table.proofs.Base.{◌≡◌, ◌≤◌, Pass, cost_from, sharing_of}
use Rattle.page_table.proofs.table.Table.break_costs.Given as goal

abbrev pub invariant-loop-number : goal.invariant-loop-number
invariant-loop-number l = record {
  cost : (pass : Pass) → l.cost ≡ cost_from (sharing_of l.self pass) l.first l.number;
  few : l.cost ≤ l.number;
}
