use Rattle.std.proofs.Common.{rules, refl, arith}
use Rattle.turn.proofs.Keeps.{split_keeps}
use Rattle.turn.proofs.turn.Turn.cut_tenant.Goals as goal

pub split_seat-requires : goal.split_seat-requires
split_seat-requires c =
    let idle = c.requires.idle in
    let some = c.requires.some in
    let first = c.requires.first in
    (search rules, search rules, split_keeps _ _ _ _ refl refl idle idle idle (λ t has. (omega arith, omega arith)) (λ t has. (omega arith, omega arith)) (λ t has has'. omega arith))
