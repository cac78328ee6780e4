use denote.RattleType.{RattleType}
use denote.Param.Send.{IsSync}
use Rattle.frame_arena.proofs.Crosses.{Cells-sync}
use Rattle.frame_arena.specs.contracts.memory.Cells.{the_row}

pub sync : (R : RattleType) → IsSync R → IsSync (the_row R)
sync = Cells-sync
