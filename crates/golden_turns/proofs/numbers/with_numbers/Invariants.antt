use Rattle.std.proofs.Common.{◌<◌, ℕ}
use Rattle.page_table.specs.State.{part}
use Rattle.tenant_workers.specs.Runs.{IsResting}
use Rattle.golden_turns.proofs.numbers.with_numbers.Given as goal

abbrev pub invariant-loop-tenant : goal.invariant-loop-tenant
invariant-loop-tenant l = (t : ℕ) → t < l.tenants → IsResting (part l.memory t)
