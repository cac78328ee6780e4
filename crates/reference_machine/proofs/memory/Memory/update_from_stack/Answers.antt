use Rattle.std.proofs.Common.{rules, ◌≡◌, ◌∙◌, ap, sym, length, IsSomeAnd, Some}
use Rattle.std.proofs.lemmas.List.{with_items_is}
use Rattle.host_types.specs.Bytes.{part_of}
use Rattle.host_types.specs.Helpers.{update_answer, maps_updated}
use Rattle.host_types.specs.Memory.{FlatMemory, FlatMaps, map_at, all_set}
use Rattle.reference_machine.proofs.Parts.{slice_part_of}
use Rattle.reference_machine.proofs.Updates.{by_stack}
use Rattle.reference_machine.proofs.memory.Memory.update_from_stack.Goals as goal

pub returns-clause-value : goal.returns-clause-value
returns-clause-value c =
    let size = c.value_size-size.result in
    let maps : c.deref_mut.result.now ≡ c.args.self.now.maps = search rules in
    let stack : c.self.inside.stack ≡ c.args.self.now.stack = ap (λ (m : FlatMemory). m.stack) c.self.view_is in
    let answer : IsSomeAnd (map_at c.args.self.now.maps c.args.number) (λ flat. c.update_in.result ≡ update_answer flat.shape c.args.key c.args.flags) = rw maps at c.update_in.ensures.answer in
    let part = slice_part_of c.args.self.now.stack c.args.at size in
    let there = c.if-not-copy_if_set.false in
    let copied : all_set (part_of c.args.self.now.stack c.args.at size) ≡ Some c.copy_if_set.new.values = rw (stack, part, there) at c.copy_if_set.ensures.copied in
    let after : c.update_in.new.maps ≡ maps_updated c.args.self.now.maps c.args.number c.args.key c.copy_if_set.new.values c.args.flags = rw maps at c.update_in.ensures.maps in
    let long : length c.update_in.new.maps ≡ c.self.inside.maps.len = c.update_in.ensures.sized ∙ c.deref_mut.ensures.len in
    by_stack c.args.self.now c.args.number c.args.key c.args.at c.args.flags size c.update_in.result c.copy_if_set.new.values c.update_in.new.maps c.value_size-size.ensures.size c.if-at-size-gt-STACK_SIZE.false copied answer after
    ∙ ap (λ (memory : FlatMemory). Some (c.update_in.result, record memory { maps = c.update_in.new.maps })) (sym c.self.view_is)
    ∙ ap (λ (maps : FlatMaps). Some (c.update_in.result, record { context = c.self.inside.context.items; stack = c.self.inside.stack; maps = maps })) (sym (with_items_is c.self.inside.maps c.update_in.new.maps long))
