use Rattle.std.proofs.Common.{◌≡◌, ◌+◌, ◌*◌, ◌/◌, ◌%◌, length, arith}
use Rattle.write_break.proofs.Stores.{cost-one, stored-once}
use Rattle.write_break.proofs.access.store_in_page.Goals as goal

pub take_out_as-requires-clause-room : goal.take_out_as-requires-clause-room
take_out_as-requires-clause-room c =
    let cost = cost-one c.args.memory.now.sharing c.args.tenant c.args.map c.args.at (length c.args.bytes.now) c.requires.some c.requires.in_page in
    rw (c.page_of-page.ensures) (omega (arith, c.requires.room, cost))

pub returns : goal.returns
returns c =
    let page = c.page_of-page.ensures in
    let offset : c.args.at / 4096 * 4096 + c.args.at % 4096 ≡ c.args.at = omega arith in
    let out = c.take_out_as.ensures in
    let put = c.put.ensures in
    stored-once c.args.is_pinned c.args.memory.now c.take_out_as.new.self c.put.new.self c.args.tenant c.args.map c.args.at c.args.bytes.now c.requires.some c.requires.in_page
    (record {
      owned = rw page at out.part;
      others = rw page at out.others;
      sharing = rw page at out.sharing;
      have = rw page at out.have;
      settings = out.settings;
    })
    (record {
      written = rw (page, offset) at put.written;
      bytes = rw (page, offset) at put.bytes;
      sized = rw page at put.length;
      other_maps = rw page at put.other_maps;
      others = rw page at put.others;
      sharing = put.sharing;
      settings = put.settings;
    })
