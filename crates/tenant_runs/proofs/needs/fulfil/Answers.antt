use Rattle.std.proofs.Common.{ap, ◌∙◌, arith}
use Rattle.host_types.specs.Tenant.{TenantPart}
use Rattle.page_table.specs.State.{MemoryState, part}
use Rattle.write_break.specs.Stores.{store_frames}
use Rattle.map_helpers.specs.Updates.{update_frames}
use Rattle.bpf_decode.specs.Opcodes.{byte_count}
use Rattle.tenant_runs.proofs.Pinning.{pinned_itself}
use Rattle.tenant_runs.proofs.Rooms.{update_answered, record_keeps, keeps_after}
use Rattle.tenant_runs.proofs.needs.fulfil.Goals as goal

pub store-requires-clause-room : goal.store-requires-clause-room
store-requires-clause-room c =
    let room = rw c.in-Store.is at c.requires.room in
    let same = ap (λ (memory : MemoryState). store_frames memory.sharing c.args.tenant c.in-Store.map c.in-Store.at (byte_count c.in-Store.size)) c.record.ensures.all in
    rw c.bytes-in-Store.ensures (omega (arith, room, same, c.record.ensures.have))

pub update-requires-clause-room : goal.update-requires-clause-room
update-requires-clause-room c =
    let room = rw c.in-Update.is at c.requires.room in
    let same =
    ap (λ (owned : TenantPart). update_frames owned c.record-in-Update.new.self.sharing c.args.tenant c.in-Update.map c.in-Update.key c.in-Update.flags) c.record-in-Update.ensures.recorded
    ∙ ap (λ (memory : MemoryState). update_frames (part c.args.memory.now c.args.tenant) memory.sharing c.args.tenant c.in-Update.map c.in-Update.key c.in-Update.flags) c.record-in-Update.ensures.all in
    omega (arith, room, same, c.record-in-Update.ensures.have)

pub returns-in-Update-clause-answer : goal.returns-in-Update-clause-answer
returns-in-Update-clause-answer c =
    let owned = part c.args.memory.now c.args.tenant in
    let same = ap (λ (o : TenantPart). o.maps) c.record-in-Update.ensures.recorded in
    let helped = rw same at c.update.ensures.helped in
    rw c.in-Update.is (update_answered owned c.in-Update.map c.in-Update.key c.in-Update.flags c.update.result c.args.value.now _ (rw c.in-Update.is at c.requires.may) helped)

pub returns-in-Store-clause-sizes : goal.returns-in-Store-clause-sizes
returns-in-Store-clause-sizes c = keeps_after c.args.memory.now c.record.new.self c.store.new.memory (record_keeps c.args.memory.now c.record.new.self c.args.tenant 0 c.record.ensures.all) c.store.ensures.settings

pub returns-in-Update-clause-sizes : goal.returns-in-Update-clause-sizes
returns-in-Update-clause-sizes c = keeps_after c.args.memory.now c.record-in-Update.new.self c.update.new.memory (record_keeps c.args.memory.now c.record-in-Update.new.self c.args.tenant 0 c.record-in-Update.ensures.all) c.update.ensures.settings

pub returns-in-Load-clause-part : goal.returns-in-Load-clause-part
returns-in-Load-clause-part c = rw c.in-Load.is (pinned_itself c.args.memory.now c.args.tenant)

pub returns-in-Lookup-clause-part : goal.returns-in-Lookup-clause-part
returns-in-Lookup-clause-part c = rw c.in-Lookup.is (pinned_itself c.args.memory.now c.args.tenant)

pub returns-in-Delete-clause-part : goal.returns-in-Delete-clause-part
returns-in-Delete-clause-part c = rw c.in-Delete.is (pinned_itself c.args.memory.now c.args.tenant)
