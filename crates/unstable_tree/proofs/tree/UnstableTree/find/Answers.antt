use Rattle.std.proofs.Common.{◌∙◌, bytes_eq, find, ap}
use Rattle.std.proofs.lemmas.List.{take_rest}
use Rattle.frame_arena.specs.Pages.{page_at}
use Rattle.unstable_tree.specs.declared.tree.Waiter.{Waiter}
use Rattle.unstable_tree.specs.WaitingList.{is_match}
use Rattle.unstable_tree.proofs.Skipping.{skipped}
use Rattle.unstable_tree.proofs.tree.UnstableTree.find.Goals as goal

pub returns : goal.returns
returns c =
    let is_left = ap (find (is_match c.args.arena.now c.args.fingerprint (page_at c.args.arena.now c.args.frame))) (take_rest c.as_slice-waiters.result.now c.without-first.result) in
    let skips = skipped c.args.fingerprint (λ (w : Waiter). bytes_eq (page_at c.args.arena.now w.frame) (page_at c.args.arena.now c.args.frame)) c.without-first.result c.as_slice-waiters.result.now c.without-first.ensures.others in
    let all = ap (find (is_match c.args.arena.now c.args.fingerprint (page_at c.args.arena.now c.args.frame))) c.as_slice-waiters.ensures.value in
    rw (← c.self.view_is) (c.first_match.ensures ∙ is_left ∙ skips ∙ all)
