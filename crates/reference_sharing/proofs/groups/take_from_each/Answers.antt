use Rattle.std.proofs.Common.{◌≡◌, ◌≤◌, ◌+◌, suc, length, ap, sym, refl, ◌∙◌, arith}
use Rattle.std.proofs.lemmas.List.{take_all, drop_all, append-nil, length-map, map-set}
use Rattle.std.proofs.Math.ListN.{get_or-map}
use Rattle.host_types.specs.Sharing.{without}
use Rattle.reference_sharing.specs.View.{indices_in}
use Rattle.reference_sharing.proofs.Lists.{changed_more}
use Rattle.reference_sharing.proofs.groups.take_from_each.Goals as goal

pub loop-group-init : goal.loop-group-init
loop-group-init c = refl

pub returns : goal.returns
returns c =
    let long = length-map c.args.groups.now (λ group. group.items) in
    let end : length (indices_in c.args.groups.now) ≤ c.loop-group.group-index = omega (arith, long, c.loop-group-test.false) in
    let front = take_all c.loop-group.group-index (indices_in c.args.groups.now) end in
    let back = drop_all c.loop-group.group-index (indices_in c.args.groups.now) end in
    c.loop-group.invariant ∙ rw (front, back) (append-nil _)

pub loop-group-preserved : goal.loop-group-preserved
loop-group-preserved c =
    let long = length-map c.args.groups.now (λ group. group.items) in
    let one : c.loop-group.group-index + 1 ≡ suc c.loop-group.group-index = omega arith in
    let mapped = map-set (λ group. group.items) c.loop-group.groups c.loop-group.group-index c.take_out.new.group in
    let here = c.take_out.ensures ∙ ap (without c.args.page_index) (sym (get_or-map (λ group. group.items) c.loop-group.groups c.loop-group.group-index c.group-item.result)) in
    mapped
    ∙ rw one (changed_more (without c.args.page_index) (indices_in c.loop-group.groups) (indices_in c.args.groups.now) c.loop-group.group-index c.take_out.new.group.items c.group-item.result.items
    c.loop-group.invariant (omega (arith, long, c.loop-group-test.true)) here)
