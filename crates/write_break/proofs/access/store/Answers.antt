use Rattle.std.proofs.Common.{◌≡◌, ◌+◌, ◌*◌, ◌/◌, ◌%◌, ◌<◌, ◌≤◌, length, arith}
use Rattle.host_types.specs.Bytes.{bytes_of}
use Rattle.host_types.proofs.LittleEndian.{length-bytes_of}
use Rattle.page_table.specs.State.{part}
use Rattle.write_break.proofs.Numbers.{access_in_page, some_size}
use Rattle.write_break.proofs.Stores.{cost-one, stored-once}
use Rattle.write_break.proofs.access.store.Goals as goal

pub take_out_shared-requires-clause-room : goal.take_out_shared-requires-clause-room
take_out_shared-requires-clause-room c =
    let in_page = access_in_page c.args.at c.args.size c.requires.size c.requires.aligned in
    let cost = cost-one c.args.memory.now.sharing c.args.tenant c.args.map c.args.at c.args.size (some_size c.args.size c.requires.size) in_page in
    rw (c.page_of-page.ensures) (omega (arith, c.requires.room, cost))

pub returns : goal.returns
returns c =
    let page = c.page_of-page.ensures in
    let offset : c.args.at / 4096 * 4096 + c.args.at % 4096 ≡ c.args.at = omega arith in
    let long = length-bytes_of c.args.size c.args.value in
    let least = some_size c.args.size c.requires.size in
    let within = access_in_page c.args.at c.args.size c.requires.size c.requires.aligned in
    let some : 0 < length (bytes_of c.args.size c.args.value) = omega (arith, long, least) in
    let in_page : c.args.at % 4096 + length (bytes_of c.args.size c.args.value) ≤ 4096 = omega (arith, long, within) in
    let out = c.take_out_shared.ensures in
    let put = c.put_number.ensures in
    let stored = stored-once (part c.args.memory.now c.args.tenant).running c.args.memory.now c.take_out_shared.new.memory c.put_number.new.self c.args.tenant c.args.map c.args.at (bytes_of c.args.size c.args.value) some in_page
    (record {
      owned = rw page at out.part;
      others = rw page at out.others;
      sharing = rw page at out.sharing;
      have = rw page at out.have;
      settings = out.settings;
    })
    (record {
      written = rw (page, offset) at put.written;
      bytes = rw (page, offset) at put.bytes;
      sized = rw page at put.length;
      other_maps = rw page at put.other_maps;
      others = rw page at put.others;
      sharing = put.sharing;
      settings = put.settings;
    }) in
    record {
      stored = stored.written;
      bytes = stored.bytes;
      length = stored.sized;
      other_maps = stored.other_maps;
      others = stored.others;
      sharing = rw long at stored.sharing;
      have = rw long at stored.have;
      settings = stored.settings;
    }
