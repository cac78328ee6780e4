use Rattle.page_table.proofs.Base.{◌≡◌, ◌∙◌, ◌*◌, ℕ, false, replicate, ap, arith, length-replicate, nat_tests, with_part, length-with_part}
use Rattle.page_table.proofs.Creating.{with_part-none}
use Rattle.page_table.proofs.Unpinning.{filled-more}
use Rattle.page_table.proofs.pins.Pins.release_each.Goals as goal

pub loop-number-init : goal.loop-number-init
loop-number-init c = with_part-none c.args.self.now (c.args.first * 256)

pub overflow_add-first : goal.overflow_add-first
overflow_add-first c = omega (arith, c.requires.few, c.loop-number-test.true)

pub release-requires-clause-map : goal.release-requires-clause-map
release-requires-clause-map c = grind (arith, nat_tests, length-replicate, length-with_part)

pub loop-number-preserved : goal.loop-number-preserved
loop-number-preserved c = grind (arith, nat_tests, filled-more)

pub returns : goal.returns
returns c =
    let all : c.loop-number.number * 256 ≡ 2048 = omega (arith, c.loop-number.auto.number-end, c.loop-number-test.false) in
    c.loop-number.invariant ∙ ap (λ (n : ℕ). with_part c.args.self.now (c.args.first * 256) (replicate n false)) all
