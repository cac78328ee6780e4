use Rattle.std.proofs.Common.{◌≡◌, ◌==◌, false, refl, arith}
use Rattle.std.proofs.lemmas.Bool.Decides.{nat_tests}
use Rattle.verifier.proofs.Written.{last_set, last_kept}
use Rattle.verifier.proofs.writes.note.Goals as goal

pub returns-in_default : goal.returns-in_default
returns-in_default c = λ m less. let none = c.in_default.is in last_kept c.args.lasts.now c.args.written c.args.end m (rw none refl)

pub returns-then-map-lt-MAX_MAPS : goal.returns-then-map-lt-MAX_MAPS
returns-then-map-lt-MAX_MAPS c = λ m less.
    let some = c.in-Some.is in
    let long = c.told-lasts in
    rw some (last_set c.args.lasts.now c.in-Some.map c.args.end m (omega (arith, long, c.if-map-lt-MAX_MAPS.true)))

pub returns-else-map-lt-MAX_MAPS : goal.returns-else-map-lt-MAX_MAPS
returns-else-map-lt-MAX_MAPS c = λ m less.
    let some = c.in-Some.is in
    let past = c.if-map-lt-MAX_MAPS.false in
    let other : (c.in-Some.map == m) ≡ false = grind (arith, nat_tests, less, past) in
    last_kept c.args.lasts.now c.args.written c.args.end m (rw some other)
