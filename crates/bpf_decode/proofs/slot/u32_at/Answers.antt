use Rattle.std.proofs.Common.{◌∙◌}
use Rattle.bpf_decode.proofs.Numbers.{little_number-part}
use Rattle.bpf_decode.proofs.slot.u32_at.Goals as goal

pub returns : goal.returns
returns c = c.read_u32.ensures ∙ little_number-part 4 _ _
