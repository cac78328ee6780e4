use Rattle.std.proofs.Common.{rules}
use Rattle.turn.proofs.Keeps.{give_keeps}
use Rattle.turn.proofs.turn.Turn.put_back.Goals as goal

pub store-requires : goal.store-requires
store-requires c =
    (search rules, search rules, give_keeps _ _ _ _ c.args.memory.value (search rules) (search rules) (search rules) (search rules))
