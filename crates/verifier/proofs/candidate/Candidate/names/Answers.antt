use Rattle.std.proofs.Common.{sym}
use Rattle.verifier.proofs.NamedMaps.{none_before, one_more}
use Rattle.verifier.proofs.candidate.Candidate.names.Goals as goal

pub loop-slot-init : goal.loop-slot-init
loop-slot-init c = sym (none_before c.args.self.now.text c.args.map)

pub loop-slot-preserved : goal.loop-slot-preserved
loop-slot-preserved c =
    let here = c.is_map-here.ensures in
    let at = c.named_at.ensures in
    rw (here, at) (one_more c.args.self.now.text c.args.map c.loop-slot.slot c.loop-slot.named c.loop-slot.invariant)
