use Rattle.std.proofs.Common.{◌∙◌, ap, rules}
use Rattle.std.proofs.lemmas.Int.{to_z-of_z}
use Rattle.std.specs.Int.{cast_signed, w16}
use mir.Val.{SFits}
use Rattle.bpf_decode.proofs.Numbers.{little_number-part}
use Rattle.bpf_decode.proofs.slot.i16_at.Goals as goal

pub returns : goal.returns
returns c =
    let fits : SFits w16 c.read_i16.result = search rules in
    to_z-of_z w16 c.read_i16.result fits ∙ c.read_i16.ensures ∙ ap (cast_signed w16) (little_number-part 2 _ _)
