use Rattle.std.proofs.Common.{◌≡◌, ◌∙◌, ◌+◌, ◌-◌, ◌%◌, ℕ, List, length, ap, arith}
use Rattle.host_types.specs.Bytes.{part_of}
use Rattle.page_table.specs.State.{part, map_bytes}
use Rattle.host_calls.proofs.Elements.{part-joined}
use Rattle.host_calls.proofs.lookup.load_bytes.Goals as goal

pub returns-else-bytes-room : goal.returns-else-bytes-room
returns-else-bytes-room c =
    let bytes : List ℕ = map_bytes (part c.args.memory.now c.args.tenant) c.args.map in
    let room : ℕ = 4096 - c.args.at % 4096 in
    let parts = c.split_at_mut-first.ensures in
    let first = c.load_in_page-else-bytes-room.ensures ∙ ap (λ (size : ℕ). part_of bytes c.args.at size) parts.front_len in
    let rest : length c.split_at_mut-first.result.1.now ≡ length c.args.bytes.now - room = omega (arith, parts.back_len) in
    let second = c.load_in_page-else-bytes-room-2.ensures ∙ ap (λ (size : ℕ). part_of bytes (c.args.at + room) size) rest in
    let all : room + (length c.args.bytes.now - room) ≡ length c.args.bytes.now = omega (arith, c.if-bytes-room.false) in
    rw (first, second) (part-joined bytes c.args.at room (length c.args.bytes.now - room) ∙ ap (λ (size : ℕ). part_of bytes c.args.at size) all)
