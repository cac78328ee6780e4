use Rattle.std.proofs.Common.{bytes_eq}
use Rattle.reference_sharing.specs.View.{plain_contents}
use Rattle.reference_sharing.proofs.Counts.{AreCounted}
use Rattle.reference_sharing.proofs.groups.count_alike.Given as goal

abbrev pub invariant-loop-group : goal.invariant-loop-group
invariant-loop-group l = AreCounted (λ other. bytes_eq other l.bytes) (plain_contents l.contents) l.groups l.group-index l.count
