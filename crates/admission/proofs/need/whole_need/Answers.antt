use Rattle.std.proofs.Common.{◌≡◌, ℕ, min, replicate, false, ap, ◌∙◌, arith}
use Rattle.host_types.specs.Pins.{unpinned_in, capped}
use Rattle.verifier.specs.Reserve.{reserve_from}
use Rattle.verifier.specs.Writes.{writes_from}
use Rattle.admission.specs.Reserve.{pages_asked}
use Rattle.admission.proofs.Counting.{unpinned_none, unpinned_next}
use Rattle.admission.proofs.need.whole_need.Goals as goal

pub loop-map-init : goal.loop-map-init
loop-map-init c = (unpinned_none (writes_from c.args.program.now 0) (pages_asked c.args.program.now.subject) (replicate 2048 false), omega arith)

pub overflow_add-pages : goal.overflow_add-pages
overflow_add-pages c = omega (arith, c.loop-map.invariant.1, c.may_write-pages.ensures.few, c.loop-map-test.true)

pub loop-map-preserved : goal.loop-map-preserved
loop-map-preserved c =
    let v = c.args.program.now in
    let (sum, few) = c.loop-map.invariant in
    (unpinned_next (writes_from v 0) (pages_asked v.subject) (replicate 2048 false) c.loop-map.map c.loop-map.pages c.may_write-pages.result sum c.may_write-pages.ensures.number, omega (arith, few, c.may_write-pages.ensures.few))

pub returns : goal.returns
returns c =
    let v = c.args.program.now in
    let (sum, few) = c.loop-map.invariant in
    let all : c.loop-map.map ≡ 8 = omega (arith, c.loop-map-test.false, c.loop-map.auto.map-end) in
    let pages = sum ∙ ap (unpinned_in (writes_from v 0) (pages_asked v.subject) (replicate 2048 false) 0) all in
    c.min.ensures ∙ ap (λ (total : ℕ). min total c.loop-map.pages) c.reserve.ensures ∙ ap (capped (reserve_from v 0)) pages
