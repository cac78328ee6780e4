use Rattle.std.proofs.Common.{◌≡◌, ◌-◌, ◌<◌, ◌≤◌, length, rules, sym, ◌∙◌, arith}
use Rattle.std.proofs.lemmas.List.{length-set}
use Rattle.bpf_decode.specs.Text.{slots_of}
use Rattle.verifier.specs.Table.{tight_table}
use Rattle.verifier.specs.Verified.{Accepted}
use Rattle.verifier.proofs.Reserves.{kept_at, kept_instruction, reserve_before, reserve_end, reserves_none, reserves_set, sum_fits, tight_cost}
use Rattle.verifier.proofs.reserve.reserves.Goals as goal

pub loop-slot-init : goal.loop-slot-init
loop-slot-init c =
    let v : Accepted = record { subject = c.args.candidate.now; table = tight_table c.args.candidate.now } in
    let slots = c.slots-slots.ensures.number in
    let whole : length c.in_ok-reserves.reserves.items ≡ c.slots-slots.result = search rules in
    record {
      whole = whole;
      sum = sym (reserve_end v c.slots-slots.result (omega (arith, slots)));
      summed = reserves_none v c.in_ok-reserves.reserves.items c.slots-slots.result slots whole;
    }

pub cost-reserve-requires : goal.cost-reserve-requires
cost-reserve-requires c =
    kept_instruction c.args.candidate.now c.args.kept.now (c.loop-slot.slot - 1) c.slots-slots.ensures.subject.text c.requires
    (omega (arith, c.slots-slots.ensures.number, c.loop-slot.auto.slot, c.loop-slot-test.true))

pub overflow_add-reserve : goal.overflow_add-reserve
overflow_add-reserve c =
    let p = c.args.candidate.now in
    let v : Accepted = record { subject = p; table = tight_table p } in
    let slot = c.loop-slot.slot in
    let cost = tight_cost p (slot - 1) c.cost-reserve.result (c.cost-reserve.ensures (tight_table p) (kept_at p c.args.kept.now (slot - 1) c.requires)) in
    let fits = sum_fits v slot c.loop-slot.reserve c.cost-reserve.result c.slots-slots.ensures.subject.text c.loop-slot.invariant.sum cost in
    omega (arith, fits)

pub loop-slot-preserved : goal.loop-slot-preserved
loop-slot-preserved c =
    let p = c.args.candidate.now in
    let v : Accepted = record { subject = p; table = tight_table p } in
    let slot = c.loop-slot.slot in
    let some : 0 < slot = omega (arith, c.loop-slot-test.true) in
    let within : slot ≤ slots_of p.text = omega (arith, c.slots-slots.ensures.number, c.loop-slot.auto.slot) in
    let whole = c.loop-slot.invariant.whole in
    let most : slot ≤ length c.loop-slot.reserves.items = omega (arith, whole, c.loop-slot.auto.slot) in
    let cost = tight_cost p (slot - 1) c.cost-reserve.result (c.cost-reserve.ensures (tight_table p) (kept_at p c.args.kept.now (slot - 1) c.requires)) in
    let sum = reserve_before v slot c.loop-slot.reserve c.cost-reserve.result some within c.loop-slot.invariant.sum cost in
    record {
      whole = length-set c.loop-slot.reserves.items _ _ ∙ whole;
      sum = sum;
      summed = reserves_set v c.loop-slot.reserves.items slot _ some most sum c.loop-slot.invariant.summed;
    }
