use Rattle.std.proofs.Common.{◌≡◌, None}
use Rattle.bpf_decode.specs.Text.{insn_at, fault_at}
use Rattle.bpf_decode.proofs.Walk.{reached_start, reached_next}
use Rattle.bpf_decode.proofs.text.first_bad_insn.Goals as goal

pub loop-slot-init : goal.loop-slot-init
loop-slot-init c = reached_start _

pub loop-slot-preserved : goal.loop-slot-preserved
unfolding insn_at
loop-slot-preserved c =
    let fine : fault_at c.args.text.now c.loop-slot.slot ≡ None = cc in
    rw (c.slots.ensures, c.read-insn.ensures) (reached_next _ _ c.loop-slot.invariant fine)
