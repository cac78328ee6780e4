use Rattle.std.proofs.Common.{◌∙◌, ap, rules}
use Rattle.std.proofs.lemmas.Int.{to_z-of_z}
use Rattle.std.specs.Int.{cast_signed, w32}
use mir.Val.{SFits}
use Rattle.bpf_decode.proofs.Numbers.{little_number-part}
use Rattle.bpf_decode.proofs.slot.i32_at.Goals as goal

pub returns : goal.returns
returns c =
    let fits : SFits w32 c.read_i32.result = search rules in
    to_z-of_z w32 c.read_i32.result fits ∙ c.read_i32.ensures ∙ ap (cast_signed w32) (little_number-part 4 _ _)
