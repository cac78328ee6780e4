use Rattle.std.proofs.Common.{◌≡◌, ◌∙◌, ℕ, List, true, refl, sym, ap}
use Rattle.std.specs.Ordering.{is_eq, nat_cmp}
use Rattle.std.specs.Cmp.Lexicographic.{slice_cmp}
use Rattle.std.specs.declared.cmp.Ordering.{Ordering}
use Rattle.std.specs.declared.cmp.Ordering.TheVariants.{Less, Equal, Greater}
use Rattle.std.proofs.lemmas.Map.Text.{is_eq-slice_cmp}
use Rattle.std.proofs.lemmas.Slice.Eq.{bytes_eq-Decides}
use Rattle.frame_arena.specs.Pages.{page_at}
use Rattle.tree_shape.proofs.search.order_at.Goals as goal

equal : (o : Ordering) → is_eq o ≡ true → Equal ≡ o
equal Less e = absurd (cc)
equal Equal e = refl
equal Greater e = absurd (cc)

-- a page is equal to itself
itself : (page : List ℕ) → Equal ≡ slice_cmp nat_cmp page page
itself page = equal (slice_cmp nat_cmp page page) (is_eq-slice_cmp page page ∙ (bytes_eq-Decides page page).1 refl)

pub returns-then-other-frame-clause-answered : goal.returns-then-other-frame-clause-answered
returns-then-other-frame-clause-answered c =
    itself (page_at c.args.arena.now.pages c.args.frame)
    ∙ ap (λ (n : ℕ). slice_cmp nat_cmp (page_at c.args.arena.now.pages n) (page_at c.args.arena.now.pages c.args.frame)) (sym c.if-other-frame.true)
