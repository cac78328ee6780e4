use Rattle.std.proofs.Common.{◌≡◌, ◌&&◌, nat_lt, true, false, length, refl, sym, ap, ◌∙◌}
use Rattle.std.specs.List.{list_any}
use Rattle.std.proofs.lemmas.List.{take_all}
use Rattle.std.proofs.lemmas.List.Folds.{list_any_more, list_any_at}
use Rattle.host_types.specs.Sharing.{is_among}
use Rattle.reference_sharing.proofs.Lists.{list_any-map}
use Rattle.reference_sharing.proofs.groups.in_company.Goals as goal

pub returns : goal.returns
returns c =
    let all = take_all c.loop-group.group-index c.args.groups.now c.loop-group-test.false in
    sym (list_any-map (λ group. is_among c.args.page_index group && nat_lt 1 (length group)) (λ group. group.items) c.args.groups.now
    ∙ ap (list_any (λ group. is_among c.args.page_index group.items && nat_lt 1 (length group.items))) (sym all)
    ∙ c.loop-group.invariant)

pub returns-then-has_company : goal.returns-then-has_company
returns-then-has_company c =
    let here : (is_among c.args.page_index c.group-item.result.items && nat_lt 1 (length c.group-item.result.items)) ≡ true = rw (← c.deref.ensures.value) (sym c.if-has_company.ensures) in
    sym (list_any-map (λ group. is_among c.args.page_index group && nat_lt 1 (length group)) (λ group. group.items) c.args.groups.now
    ∙ list_any_at (λ group. is_among c.args.page_index group.items && nat_lt 1 (length group.items)) c.args.groups.now c.loop-group.group-index c.group-item.result c.loop-group-test.true
    (rw (← c.group-item.is) here))

pub loop-group-preserved : goal.loop-group-preserved
loop-group-preserved c =
    let here : (is_among c.args.page_index c.group-item.result.items && nat_lt 1 (length c.group-item.result.items)) ≡ false = rw (← c.deref.ensures.value) (sym c.if-has_company.ensures) in
    list_any_more (λ group. is_among c.args.page_index group.items && nat_lt 1 (length group.items)) c.args.groups.now c.loop-group.group-index c.group-item.result c.loop-group-test.true
    ∙ rw (c.loop-group.invariant, ← c.group-item.is, here) refl
