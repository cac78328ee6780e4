use Rattle.page_table.proofs.Base.{common_steps, arith}
use Rattle.page_table.proofs.Moving.{contents-entry, sharing-marked, used-marked, sound-marked}
use Rattle.page_table.proofs.Entries.{own_seen}
use Rattle.page_table.proofs.table.Table.mark.Goals as goal

pub invariant_of-self : goal.invariant_of-self
invariant_of-self c =
    let seen = own_seen _ c.args.self.now c.self.view_is c.args.page_index c.page-entry.result c.page-entry.ensures c.requires.own in
    grind (arith, sound-marked _ c.args.page_index c.page-entry.result c.args.status c.args.last c.self.invariant.0.fits seen.here seen.own c.requires.status)

pub returns : goal.returns
returns c =
    let seen = own_seen _ c.args.self.now c.self.view_is c.args.page_index c.page-entry.result c.page-entry.ensures c.requires.own in
    grind (arith, contents-entry (record { arena = c.self.inside.arena; entries = c.self.inside.entries; groups = c.self.inside.groups.listed }) c.args.page_index c.page-entry.result, sharing-marked _ c.args.page_index c.page-entry.result c.args.status c.args.last c.self.invariant.0.fits seen.here seen.own c.requires.status, used-marked _ c.args.page_index c.page-entry.result c.args.status c.args.last c.self.invariant.0.fits seen.here seen.own c.requires.status, common_steps)
