use Rattle.std.proofs.Common.{rules, refl, arith}
use Rattle.turn.proofs.Keeps.{split_keeps}
use Rattle.turn.proofs.turn.Turn.cut_scanner.Goals as goal

pub split_seat-requires : goal.split_seat-requires
split_seat-requires c =
    let idle = c.requires.idle in
    (search rules, search rules, split_keeps _ _ _ _ refl refl idle idle idle (λ t has. has) (λ t has. absurd (omega arith)) (λ t has has'. omega arith))
