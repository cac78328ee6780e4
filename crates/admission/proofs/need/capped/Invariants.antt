use Rattle.std.proofs.Common.{◌≡◌, ◌*◌, ◌<◌, ◌≤◌, ◌⊎◌}
use Rattle.host_types.specs.Pins.{unpinned_in}
use Rattle.page_table.specs.Changes.{pages_of_map}
use Rattle.page_table.specs.State.{part}
use Rattle.verifier.specs.Writes.{writes_from}
use Rattle.admission.proofs.need.capped.Given as goal

abbrev pub invariant-loop-map : goal.invariant-loop-map
invariant-loop-map l = record {
  sum : l.pages ≡ unpinned_in (writes_from l.program l.slot) (pages_of_map (part l.memory l.tenant)) (part l.memory l.tenant).pins 0 l.map;
  few : l.pages ≤ l.map * 2048;
  below : (l.pages ≡ 0) ⊎ (l.pages < l.total);
}
