use Rattle.page_table.proofs.Base.{◌≡◌, ◌<◌, ℕ, length, slice_index_or}
use Rattle.page_table.proofs.order.number_all.Given as goal

-- the slots before are noted
abbrev pub invariant-loop-slot : goal.invariant-loop-slot
invariant-loop-slot l = record {
  numbered : (i : ℕ) → i < l.slot → slice_index_or l.slot_of (slice_index_or l.slots i 0) 0 ≡ i;
  frames : length l.slot_of ≡ length l.fn.slot_of;
}
