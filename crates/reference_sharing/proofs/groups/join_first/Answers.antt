use Rattle.std.proofs.Common.{◌≡◌, ◌∙◌, ℕ, ◌+◌, ◌<◌, Bool, true, false, ◌||◌, List, Vec, length, take, slice_index_or, slice_set, sym, ap, arith}
use Rattle.std.specs.declared.alloc.Global.{Global}
use Rattle.std.specs.List.{list_any}
use Rattle.std.proofs.lemmas.List.{take_all, map-set, length-map}
use Rattle.std.proofs.lemmas.List.Folds.{list_any_more, list_any_at}
use Rattle.std.proofs.Math.ListN.{get_or-map}
use Rattle.host_types.specs.Sharing.{joined_by}
use Rattle.reference_sharing.specs.View.{indices_in, plain_contents, is_open_below}
use Rattle.reference_sharing.proofs.Joins.{first_joined, none_joined, set_again}
use Rattle.reference_sharing.proofs.groups.join_first.Goals as goal
use Rattle.reference_sharing.proofs.groups.join_first.Goals.{In_ok-join}

abbrev items : Vec ℕ Global → List ℕ
items group = group.items

module _ (c : In_ok-join) where
  abbrev test : List ℕ → Bool
  test = is_open_below c.args.limit (plain_contents c.args.contents.now) (plain_contents c.args.contents.now c.args.page_index)

  inside : c.loop-group.group-index < length (indices_in c.args.groups.now)
  inside = let long = length-map c.args.groups.now items in omega (arith, long, c.loop-group-test.true)

  answered : items (slice_index_or c.loop-group.groups c.loop-group.group-index c.group-item.result) ≡ slice_index_or (indices_in c.args.groups.now) c.loop-group.group-index c.group-item.result.items
  answered = ap (λ (groups : List (Vec ℕ Global)). items (slice_index_or groups c.loop-group.group-index c.group-item.result)) c.loop-group.invariant.same
      ∙ sym (get_or-map items c.args.groups.now c.loop-group.group-index c.group-item.result)

  passes : test (slice_index_or (indices_in c.args.groups.now) c.loop-group.group-index c.group-item.result.items) ≡ true
  passes = ap test (sym (c.deref.ensures.value ∙ answered)) ∙ sym c.is_open.ensures ∙ c.if-is_open.true

  before : list_any test (take c.loop-group.group-index (indices_in c.args.groups.now)) ≡ false
  before = ap (λ groups. list_any test (take c.loop-group.group-index (indices_in groups))) (sym c.loop-group.invariant.same) ∙ c.loop-group.invariant.before

pub returns-then-is_open-clause-answered : goal.returns-then-is_open-clause-answered
returns-then-is_open-clause-answered c =
    let d = (goal.at.returns-then-is_open-clause-answered c).In_ok-join in
    sym (list_any_at (test d) (indices_in c.args.groups.now) c.loop-group.group-index c.group-item.result.items (inside d) (passes d))

pub returns-then-is_open-clause-joined : goal.returns-then-is_open-clause-joined
returns-then-is_open-clause-joined c =
    let d = (goal.at.returns-then-is_open-clause-joined c).In_ok-join in
    map-set items c.loop-group.groups c.loop-group.group-index c.join.new.group
    ∙ ap (λ groups. slice_set (indices_in groups) c.loop-group.group-index c.join.new.group.items) c.loop-group.invariant.same
    ∙ ap (slice_set (indices_in c.args.groups.now) c.loop-group.group-index) (c.in_ok-join.ensures ∙ ap (joined_by c.args.page_index) (answered d))
    ∙ sym (first_joined (test d) c.args.page_index (indices_in c.args.groups.now) c.loop-group.group-index c.group-item.result.items (inside d) (passes d) (before d))

pub loop-group-preserved : goal.loop-group-preserved
loop-group-preserved c =
    let again = set_again c.loop-group.groups c.loop-group.group-index c.group-item.result ∙ c.loop-group.invariant.same in
    let long = length-map c.args.groups.now items in
    let open_here : List ℕ → Bool = is_open_below c.args.limit (plain_contents c.args.contents.now) (plain_contents c.args.contents.now c.args.page_index) in
    let here = ap (λ (groups : List (Vec ℕ Global)). items (slice_index_or groups c.loop-group.group-index c.group-item.result)) c.loop-group.invariant.same
    ∙ sym (get_or-map items c.args.groups.now c.loop-group.group-index c.group-item.result) in
    let apart = ap open_here (sym (c.deref.ensures.value ∙ here)) ∙ sym c.is_open.ensures ∙ c.if-is_open.false in
    let earlier = ap (λ groups. list_any open_here (take c.loop-group.group-index (indices_in groups))) (sym c.loop-group.invariant.same) ∙ c.loop-group.invariant.before in
    record {
      same = again;
      before = ap (λ groups. list_any open_here (take (c.loop-group.group-index + 1) (indices_in groups))) again
          ∙ list_any_more open_here (indices_in c.args.groups.now) c.loop-group.group-index c.group-item.result.items (omega (arith, long, c.loop-group-test.true))
          ∙ ap (λ (b : Bool). b || open_here (slice_index_or (indices_in c.args.groups.now) c.loop-group.group-index c.group-item.result.items)) earlier
          ∙ apart;
    }

pub returns-clause-joined : goal.returns-clause-joined
returns-clause-joined c =
    let long = length-map c.args.groups.now items in
    let open_here : List ℕ → Bool = is_open_below c.args.limit (plain_contents c.args.contents.now) (plain_contents c.args.contents.now c.args.page_index) in
    let all = take_all c.loop-group.group-index (indices_in c.args.groups.now) (omega (arith, long, c.loop-group-test.false)) in
    let earlier = ap (λ groups. list_any open_here (take c.loop-group.group-index (indices_in groups))) (sym c.loop-group.invariant.same) ∙ c.loop-group.invariant.before in
    ap indices_in c.loop-group.invariant.same ∙ sym (none_joined open_here c.args.page_index (indices_in c.args.groups.now) (ap (list_any open_here) (sym all) ∙ earlier))
