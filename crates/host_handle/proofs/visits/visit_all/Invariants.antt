use Rattle.host_handle.specs.Answered.{Goes, Visits}
use Rattle.host_handle.proofs.visits.visit_all.Given as goal

abbrev pub invariant-loop : goal.invariant-loop
invariant-loop l = Goes (Visits l.counter) l.fn.host l.host
