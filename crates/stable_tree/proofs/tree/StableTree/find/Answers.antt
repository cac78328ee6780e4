use Rattle.std.proofs.Common.{sym, ◌∙◌}
use Rattle.frame_arena.specs.Pages.{page_at}
use Rattle.stable_tree.specs.Slots.{chains_in}
use Rattle.stable_tree.proofs.Sorting.{filter-there, filter-not_there}
use Rattle.stable_tree.proofs.tree.StableTree.find.Goals as goal

pub returns-in_err-slot-clause-found : goal.returns-in_err-slot-clause-found
returns-in_err-slot-clause-found c =
    let sorted = rw (← c.self.view_is) at c.requires.sorted in
    let answered = c.in_err-slot.ensures.found in
    let none = filter-not_there c.args.arena.now.pages (page_at c.args.arena.now.pages c.args.frame) (chains_in c.self.inside.store) answered.k sorted answered.cut answered.absent in
    rw (← c.self.view_is, c.from_residual.ensures) (sym none)

pub returns-clause-found : goal.returns-clause-found
returns-clause-found c =
    let sorted = rw (← c.self.view_is) at c.requires.sorted in
    let answered = c.in_ok-slot.ensures.found in
    let is = sym (filter-there c.args.arena.now.pages (page_at c.args.arena.now.pages c.args.frame) (chains_in c.self.inside.store) answered.k sorted answered.cut answered.there ∙ answered.chain) in
    rw (← c.self.view_is) (c.at.ensures ∙ is)
