use Rattle.std.proofs.Common.{◌≡◌, length}
use Rattle.listing.proofs.shown.Listing.slots_listed.Given as goal

abbrev pub invariant-loop-slot : goal.invariant-loop-slot
invariant-loop-slot l = length l.slots.items ≡ l.slot
