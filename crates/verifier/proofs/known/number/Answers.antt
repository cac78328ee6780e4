use Rattle.std.proofs.Common.{◌≡◌, ◌≢◌, ℕ, ◌<◌, None, length, ap, ◌∙◌, arith, rules, below_more}
use Rattle.std.specs.Prelude.{slice_index, slice_index_or}
use Rattle.verifier.proofs.Numbers.{numbered_by_index}
use Rattle.verifier.proofs.known.number.Goals as goal

pub loop-register-preserved : goal.loop-register-preserved
loop-register-preserved c =
    let register = c.loop-register.register in
    let before = c.loop-register.row in
    let after = c.number_one.new.kinds.items in
    let row = c.number_one.new.row in
    let registers = c.args.registers.now in
    let one = c.in_ok-number_one.ensures in
    let invariant = c.loop-register.invariant in
    let end = c.loop-register.auto.register-end in
    let earlier : (r : ℕ) → r < register → slice_index_or after (slice_index row r) None ≡ slice_index_or registers r None
    = λ r less.
    let other : r ≢ register = λ same. absurd (omega (arith, less, same)) in
    let known = invariant.numbers r 0 (omega (arith, invariant.long, less, end, c.loop-register-test.true)) in
    ap (λ number. slice_index_or after number None) (one.others r other) ∙ one.kept.same (slice_index before r) known ∙ invariant.numbered r less in
    record {
      long = c.number_one.array_long;
      numbers = one.numbers;
      kept = record {
        longer = omega (arith, invariant.kept.longer, one.kept.longer);
        few = omega (arith, invariant.kept.few, one.kept.few);
        same = λ number less. one.kept.same number (omega (arith, less, invariant.kept.longer)) ∙ invariant.kept.same number less;
      };
      numbered = below_more (λ r. slice_index_or after (slice_index row r) None ≡ slice_index_or registers r None) register earlier one.numbered;
    }

pub returns-clause-numbered : goal.returns-clause-numbered
returns-clause-numbered c =
    let long : length c.args.registers.now ≡ 11 = search rules in
    let row = c.loop-register.invariant.long in
    numbered_by_index c.loop-register.kinds.items c.loop-register.row c.args.registers.now (omega (arith, row, long))
    (λ r less. c.loop-register.invariant.numbered r (omega (arith, less, long, c.loop-register.auto.register-end, c.loop-register-test.false)))
