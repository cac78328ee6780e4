use Rattle.std.proofs.Common.{◌≡◌, ◌∙◌, ℕ, List, length, slice_index_or, Vec, refl, ap, arith}
use Rattle.std.specs.declared.alloc.Global.{Global}
use Rattle.std.proofs.lemmas.List.{take_all, length-map}
use Rattle.std.proofs.lemmas.List.Sums.{sum_by_more}
use Rattle.std.proofs.Math.ListN.{get_or-map}
use Rattle.std.proofs.Common.{sum_by}
use Rattle.reference_sharing.specs.View.{indices_in}
use Rattle.reference_sharing.proofs.groups.members.Goals as goal

pub returns-clause-sum : goal.returns-clause-sum
returns-clause-sum c =
    let long = length-map c.args.groups.now (λ (group : Vec ℕ Global). group.items) in
    c.loop-group.invariant.sum ∙ ap (sum_by (λ (group : List ℕ). length group)) (take_all c.loop-group.group-index (indices_in c.args.groups.now) (omega (arith, long, c.loop-group-test.false)))

pub loop-group-preserved : goal.loop-group-preserved
loop-group-preserved c =
    let long = length-map c.args.groups.now (λ (group : Vec ℕ Global). group.items) in
    let size : c.size-members.result ≡ length c.group-item.result.items = rw (← c.deref.ensures.value) c.size-members.ensures.value in
    let item : slice_index_or c.args.groups.now c.loop-group.group-index c.group-item.result ≡ c.group-item.result = rw (← c.group-item.is) refl in
    let here = ap (λ (group : List ℕ). length group) (get_or-map (λ (group : Vec ℕ Global). group.items) c.args.groups.now c.loop-group.group-index c.group-item.result) in
    let answered = ap (λ (group : Vec ℕ Global). length group.items) item in
    let more = sum_by_more (λ (group : List ℕ). length group) (indices_in c.args.groups.now) c.loop-group.group-index c.group-item.result.items (omega (arith, long, c.loop-group-test.true)) in
    record {
      sum = omega (arith, more, here, answered, size, c.loop-group.invariant.sum);
      small = omega (arith, c.loop-group.invariant.small, c.size-members.ensures.small);
    }
