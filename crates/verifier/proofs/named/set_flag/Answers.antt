use Rattle.std.proofs.Common.{◌≡◌, ◌==◌, false, refl, arith}
use Rattle.std.proofs.lemmas.Bool.Decides.{nat_tests}
use Rattle.verifier.proofs.NamedMaps.{flag_set, flag_kept}
use Rattle.verifier.proofs.named.set_flag.Goals as goal

pub returns-in_default : goal.returns-in_default
returns-in_default c = λ m less. let none = c.in_default.is in flag_kept c.args.flags.now c.args.named m (rw none refl)

pub returns-then-map-lt-MAX_MAPS : goal.returns-then-map-lt-MAX_MAPS
returns-then-map-lt-MAX_MAPS c = λ m less.
    let some = c.in-Some.is in
    let long = c.told-flags in
    rw some (flag_set c.args.flags.now c.in-Some.map m (omega (arith, long, c.if-map-lt-MAX_MAPS.true)))

pub returns-else-map-lt-MAX_MAPS : goal.returns-else-map-lt-MAX_MAPS
returns-else-map-lt-MAX_MAPS c = λ m less.
    let some = c.in-Some.is in
    let past = c.if-map-lt-MAX_MAPS.false in
    let other : (c.in-Some.map == m) ≡ false = grind (arith, nat_tests, less, past) in
    flag_kept c.args.flags.now c.args.named m (rw some other)
