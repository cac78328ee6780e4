use Rattle.page_table.proofs.Base.{arith, nat_tests, with_part, page_at, length-with_part}
use Rattle.host_types.specs.Bytes.{bytes_of}
use Rattle.host_types.proofs.LittleEndian.{length-bytes_of}
use Rattle.page_table.proofs.Trees.{tree-set}
use Rattle.page_table.proofs.Entries.{own_seen, own_alone, contents-put, sound-put, content_at}
use Rattle.page_table.proofs.table.Table.put_number.Goals as goal

pub invariant_of-self : goal.invariant_of-self
invariant_of-self c =
    let lone = own_alone _ c.args.page_index c.page-entry.result c.self.invariant.0.fits (own_seen _ c.args.self.now c.self.view_is c.args.page_index c.page-entry.result c.page-entry.ensures c.requires.own) in
    let long = length-bytes_of c.args.size c.args.value in
    grind (arith, nat_tests, long, sound-put _ c.args.page_index c.page-entry.result (with_part (page_at c.self.inside.arena c.page-entry.result.frame) c.args.at (bytes_of c.args.size c.args.value)) c.self.invariant.0.fits, lone, length-with_part, tree-set c.self.inside.arena c.self.inside.groups.listed c.self.inside.tree c.page-entry.result.frame (with_part (page_at c.self.inside.arena c.page-entry.result.frame) c.args.at (bytes_of c.args.size c.args.value)))

pub returns-clause-contents : goal.returns-clause-contents
returns-clause-contents c =
    let own = own_seen _ c.args.self.now c.self.view_is c.args.page_index c.page-entry.result c.page-entry.ensures c.requires.own in
    let lone = own_alone _ c.args.page_index c.page-entry.result c.self.invariant.0.fits own in
    let long = length-bytes_of c.args.size c.args.value in
    grind (arith, nat_tests, long, content_at (record { arena = c.self.inside.arena; entries = c.self.inside.entries; groups = c.self.inside.groups.listed }) c.args.page_index c.page-entry.result own.here, contents-put _ c.args.page_index c.page-entry.result (with_part (page_at c.self.inside.arena c.page-entry.result.frame) c.args.at (bytes_of c.args.size c.args.value)) c.self.invariant.0.fits own.here lone, length-with_part)
