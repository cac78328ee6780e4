use Rattle.std.proofs.Common.{◌==◌, not, refl, rules}
use Rattle.std.proofs.lemmas.Fn.{filter_same}
use Rattle.unstable_tree.specs.declared.tree.Waiter.{Waiter}
use Rattle.unstable_tree.proofs.Skipping.{all_kept}
use Rattle.unstable_tree.proofs.tree.UnstableTree.forget.Goals as goal

pub returns-then-waits : goal.returns-then-waits
returns-then-waits c =
    let kept = filter_same _ (λ (w : Waiter). not (w.page_index == c.args.page_index)) _ (λ x b f' k. search rules) _ _ c.retain.ensures.filtered in
    rw (← c.self.view_is, kept) refl

pub returns-else-waits : goal.returns-else-waits
returns-else-waits c =
    let all = rw c.deref.ensures.value at (all_kept c.args.page_index c.deref.result.now (c.waits.ensures c.if-waits.false)) in
    rw (← c.self.view_is, all) refl
