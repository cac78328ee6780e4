use Rattle.std.proofs.Common.{◌≡◌, ◌*◌, ◌≤◌, replicate, false}
use Rattle.host_types.specs.Pins.{unpinned_in}
use Rattle.verifier.specs.Writes.{writes_from}
use Rattle.admission.specs.Reserve.{pages_asked}
use Rattle.admission.proofs.need.whole_need.Given as goal

abbrev pub invariant-loop-map : goal.invariant-loop-map
invariant-loop-map l = (l.pages ≡ unpinned_in (writes_from l.program 0) (pages_asked l.program.subject) (replicate 2048 false) 0 l.map) × (l.pages ≤ l.map * 2048)
