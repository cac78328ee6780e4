use denote.RattleType.{RattleType}
use denote.Param.Send.{IsSend}
use Rattle.frame_arena.proofs.Crosses.{Cells-send}
use Rattle.frame_arena.specs.contracts.memory.Cells.{the_row}

pub send : (R : RattleType) → IsSend R → IsSend (the_row R)
send = Cells-send
