use Rattle.std.proofs.Common.{◌&&◌, nat_le, nat_lt, not, refl, rules}
use Rattle.std.proofs.lemmas.Fn.{filter_same}
use Rattle.unstable_tree.specs.declared.tree.Waiter.{Waiter}
use Rattle.unstable_tree.proofs.tree.UnstableTree.forget_all.Goals as goal

pub returns : goal.returns
returns c =
    let kept = filter_same _ (λ (w : Waiter). not (nat_le c.args.first w.page_index && nat_lt w.page_index c.args.end)) _ (λ x b f' k. search rules) _ _ c.retain.ensures.filtered in
    rw (← c.self.view_is, kept) refl
