use Rattle.std.proofs.Common.{replicate, arith}
use Rattle.verifier_kinds.proofs.Descriptions.{get_or-one}
use Rattle.verifier.specs.Table.{tight_table}
use Rattle.verifier.specs.Verified.{Accepted}
use Rattle.verifier.proofs.Reserves.{kept_at, kept_instruction}
use Rattle.verifier.proofs.Written.{lasts_none, lasts_more, tight_map}
use Rattle.verifier.proofs.writes.last_writes.Goals as goal

pub loop-slot-init : goal.loop-slot-init
loop-slot-init c =
    let v : Accepted = record { subject = c.args.candidate.now; table = tight_table c.args.candidate.now } in
    lasts_none v (replicate 8 0) (λ m. get_or-one 8 m 0)

pub written_map-written-requires : goal.written_map-written-requires
written_map-written-requires c =
    kept_instruction c.args.candidate.now c.args.kept.now c.loop-slot.slot c.slots-slots.ensures.subject.text c.requires
    (omega (arith, c.slots-slots.ensures.number, c.loop-slot.auto.slot-end, c.loop-slot-test.true))

pub loop-slot-preserved : goal.loop-slot-preserved
loop-slot-preserved c =
    let p = c.args.candidate.now in
    let v : Accepted = record { subject = p; table = tight_table p } in
    let slot = c.loop-slot.slot in
    let written = tight_map p slot c.written_map-written.result (c.written_map-written.ensures (tight_table p) (kept_at p c.args.kept.now slot c.requires)) in
    lasts_more v slot c.loop-slot.lasts c.note.new.lasts c.written_map-written.result written c.loop-slot.invariant c.note.ensures
