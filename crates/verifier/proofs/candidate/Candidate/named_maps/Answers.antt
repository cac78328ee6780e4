use Rattle.verifier.proofs.NamedMaps.{flags_none, flags_more}
use Rattle.verifier.proofs.candidate.Candidate.named_maps.Goals as goal

pub loop-slot-init : goal.loop-slot-init
loop-slot-init c = flags_none c.args.self.now.text

pub loop-slot-preserved : goal.loop-slot-preserved
loop-slot-preserved c =
    flags_more c.args.self.now.text c.loop-slot.named c.set_flag.new.flags c.loop-slot.slot c.loop-slot.invariant (rw c.named_at.ensures at c.set_flag.ensures)
