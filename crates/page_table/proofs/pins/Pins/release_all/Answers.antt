use Rattle.page_table.proofs.Base.{◌≡◌, ◌*◌, arith, subst, sym, pinned_among}
use Rattle.page_table.proofs.Unpinning.{none-released}
use Rattle.page_table.proofs.pins.Pins.release_all.Goals as goal

pub returns-else-self-gt0 : goal.returns-else-self-gt0
returns-else-self-gt0 c =
    let total = c.self.invariant.all in
    let none : pinned_among c.args.self.now ≡ 0 = subst (λ pins. pinned_among pins ≡ 0) c.self.view_is (omega (arith, total, c.if-self-gt0.false)) in
    sym (none-released c.args.self.now (c.args.first * 256) 2048 none c.requires.maps)
