use Rattle.std.proofs.Common.{◌≡◌, ◌≤◌, length, refl, ◌∙◌, sym, arith}
use Rattle.std.proofs.lemmas.Result.{err_from_is_err_and}
use Rattle.host_core.proofs.WholeRuns.{later_same}
use Rattle.host_core.proofs.host.Host.run_many.Goals as goal

pub loop-done-init : goal.loop-done-init
loop-done-init c = record { within = omega arith; long = refl; others = refl; runs = λ x stands. (x, stands, refl) }

pub run_from-requires-clause-sized : goal.run_from-requires-clause-sized
run_from-requires-clause-sized c = rw c.loop-done.invariant.long c.requires

pub loop-done-smaller : goal.loop-done-smaller
loop-done-smaller c =
    let made = c.in_ok-done.ensures in
    let (is, further, most) = made.ends in
    omega (arith, is, further, most, c.loop-done.invariant.long, c.loop-done-test.true)

pub loop-done-preserved : goal.loop-done-preserved
loop-done-preserved c =
    let made = c.in_ok-done.ensures in
    let (is, further, most) = made.ends in
    let long = c.loop-done.invariant.long in
    let up : c.loop-done.done ≤ made.n = omega (arith, further) in
    record {
      within = omega (arith, is, most, long);
      long = made.long ∙ long;
      others = rw (sym is) (made.others ∙ later_same c.loop-done.rets c.args.rets.now c.loop-done.done made.n up c.loop-done.invariant.others);
      runs = λ x stands.
          let (between, there, first) = c.loop-done.invariant.runs x stands in
          let (next, stands', happen) = made.runs between there in
          let (mid, several, same) = happen x first in
          (next, stands', rw (sym is, same) several);
    }

pub returns : goal.returns
returns c =
    let all : c.loop-done.done ≡ length c.args.rets.now = omega (arith, c.loop-done.invariant.within, c.loop-done.invariant.long, c.loop-done-test.false) in
    rw (← all)
    (record {
      made = all;
      long = c.loop-done.invariant.long;
      others = c.loop-done.invariant.others;
      runs = λ x stands.
          let (between, there, first) = c.loop-done.invariant.runs x stands in
          (between, there, (between, first, refl));
    })

pub returns-in_err-done : goal.returns-in_err-done
returns-in_err-done c =
    let made = c.in_err-done.ensures in
    let long = c.loop-done.invariant.long in
    let (is, further, less) = made.ends in
    let (stopped, at, same) = err_from_is_err_and c.from_residual.result c.from_residual.ensures.1 in
    rw (at, same, ← is)
    (record {
      made = omega (arith, less, long);
      long = made.long ∙ long;
      others = made.others ∙ later_same c.loop-done.rets c.args.rets.now c.loop-done.done made.n further c.loop-done.invariant.others;
      runs = λ x stands.
          let (between, there, first) = c.loop-done.invariant.runs x stands in
          let (next, stands', happen) = made.runs between there in
          (next, stands', happen x first);
    })
