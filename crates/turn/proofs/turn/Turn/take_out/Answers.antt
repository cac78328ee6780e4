use Rattle.std.proofs.Common.{rules, Some}
use Rattle.turn.proofs.Keeps.{take_keeps}
use Rattle.turn.proofs.turn.Turn.take_out.Goals as goal

pub compare_exchange-found-requires : goal.compare_exchange-found-requires
compare_exchange-found-requires c = (search rules, search rules, take_keeps _ _ _ _ _ (search rules) (search rules))

pub exchange-requires : goal.exchange-requires
exchange-requires c =
    let won = c.compare_exchange-found.ensures.2.0 c.if-found-ne-HOME.false in
    (search rules, (Some won.0, search rules))
