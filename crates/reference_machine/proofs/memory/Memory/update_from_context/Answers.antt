use Rattle.std.proofs.Common.{rules, ◌≡◌, ◌∙◌, ap, sym, ◌+◌, ◌≤◌, length, IsSomeAnd, Some, refl}
use Rattle.std.proofs.lemmas.List.{with_items_is}
use Rattle.host_types.specs.Bytes.{part_of}
use Rattle.host_types.specs.Helpers.{update_answer, maps_updated}
use Rattle.host_types.specs.Memory.{FlatMemory, FlatMaps, map_at}
use Rattle.reference_machine.proofs.Parts.{slice_part_of}
use Rattle.reference_machine.proofs.Updates.{by_context}
use Rattle.reference_machine.proofs.memory.Memory.update_from_context.Goals as goal

pub returns-clause-value : goal.returns-clause-value
returns-clause-value c =
    let maps : c.deref_mut.result.now ≡ c.args.self.now.maps = search rules in
    let context : c.deref.result.now ≡ c.args.self.now.context = search rules in
    let within : c.args.at + c.value_size.result ≤ length c.args.self.now.context = search rules in
    let answer : IsSomeAnd (map_at c.args.self.now.maps c.args.number) (λ flat. c.update_in.result ≡ update_answer flat.shape c.args.key c.args.flags) = rw maps at c.update_in.ensures.answer in
    let part = slice_part_of c.args.self.now.context c.args.at c.value_size.result in
    let after : c.update_in.new.maps ≡ maps_updated c.args.self.now.maps c.args.number c.args.key (part_of c.args.self.now.context c.args.at c.value_size.result) c.args.flags =
    rw (maps, context, part) at c.update_in.ensures.maps in
    let long : length c.update_in.new.maps ≡ c.self.inside.maps.len = c.update_in.ensures.sized ∙ c.deref_mut.ensures.len in
    by_context c.args.self.now c.args.number c.args.key c.args.at c.args.flags c.value_size.result c.update_in.result _ c.update_in.new.maps c.value_size.ensures.size within refl answer after
    ∙ ap (λ (memory : FlatMemory). Some (c.update_in.result, record memory { maps = c.update_in.new.maps })) (sym c.self.view_is)
    ∙ ap (λ (maps : FlatMaps). Some (c.update_in.result, record { context = c.self.inside.context.items; stack = c.self.inside.stack; maps = maps })) (sym (with_items_is c.self.inside.maps c.update_in.new.maps long))
