use Rattle.tenant_runs.proofs.Storing.{flat_there, room_enough, room_kept}
use Rattle.tenant_runs.proofs.maps.store_number.Goals as goal

pub store-requires-clause-room : goal.store-requires-clause-room
store-requires-clause-room c =
    let flat = flat_there c.args.memory.now c.args.tenant c.args.map c.args.at c.args.size c.facts.ensures c.requires.within c.maps_are_flat.ensures.there c.maps_are_flat.ensures.flat in
    rw c.bytes.ensures (room_enough c.args.memory.now c.args.tenant c.args.map c.args.at c.args.size c.facts.ensures flat c.requires.within c.requires.aligned c.requires.room)

pub returns : goal.returns
returns c =
    let flat = flat_there c.args.memory.now c.args.tenant c.args.map c.args.at c.args.size c.facts.ensures c.requires.within c.maps_are_flat.ensures.there c.maps_are_flat.ensures.flat in
    let owned = rw c.bytes.ensures at c.store.ensures.stored in
    let sharing = rw c.bytes.ensures at c.store.ensures.sharing in
    let have = rw c.bytes.ensures at c.store.ensures.have in
    record {
      owned = owned;
      others = c.store.ensures.others;
      sharing = sharing;
      settings = c.store.ensures.settings;
      have = have;
      room = room_kept c.args.memory.now c.args.tenant c.args.map c.args.at c.args.size c.facts.ensures flat c.requires.within c.requires.aligned c.store.new.memory c.args.value owned sharing have;
      reads = c.facts-2.ensures;
    }
