use Rattle.std.proofs.Common.{◌≡◌, find, drop}
use Rattle.host_types.specs.Visits.{is_partner}
use Rattle.reference_sharing.specs.View.{plain_contents}
use Rattle.reference_sharing.proofs.waiting.find_partner.Given as goal

-- the earliest partner is among the entries that are left
abbrev pub invariant-loop-entry : goal.invariant-loop-entry
invariant-loop-entry l =
    find (is_partner (plain_contents l.contents) l.fingerprint l.bytes) (drop l.entry-index l.waiting)
    ≡ find (is_partner (plain_contents l.contents) l.fingerprint l.bytes) l.waiting
