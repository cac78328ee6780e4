use Rattle.page_table.proofs.Base.{◌≡◌, ◌*◌, false, replicate, with_part}
use Rattle.page_table.proofs.pins.Pins.release_each.Given as goal

abbrev pub invariant-loop-number : goal.invariant-loop-number
invariant-loop-number l = l.self ≡ with_part l.fn.self (l.first * 256) (replicate (l.number * 256) false)
