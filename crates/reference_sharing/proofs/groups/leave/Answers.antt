use Rattle.std.proofs.Common.{nat_lt, length, map, filter, drop, ap, ◌∙◌, rules}
use Rattle.std.proofs.lemmas.Fn.{filter_same}
use Rattle.std.proofs.lemmas.List.{take_at}
use Rattle.host_types.specs.Sharing.{without}
use Rattle.reference_sharing.specs.View.{indices_in}
use Rattle.reference_sharing.proofs.Lists.{filter-map}
use Rattle.reference_sharing.proofs.groups.leave.Goals as goal

pub returns : goal.returns
returns c =
    let kept = filter_same _ (λ group. nat_lt 0 (length group.items)) _ (λ x b f' k. search rules) _ _ c.retain.ensures.filtered in
    let each = c.take_from_each.new.groups in
    let whole = take_at each (drop (length each) c.args.groups.now.items) c.args.groups.now.len (c.take_from_each.auto.groups ∙ c.deref_mut.ensures.len) in
    ap indices_in kept
    ∙ ap (λ groups. indices_in (filter (λ group. nat_lt 0 (length group.items)) groups)) whole
    ∙ filter-map (λ group. nat_lt 0 (length group)) (λ group. group.items) each
    ∙ ap (filter (λ group. nat_lt 0 (length group))) (c.take_from_each.ensures ∙ ap (λ groups. map (without c.args.page_index) (indices_in groups)) c.deref_mut.ensures.value)
