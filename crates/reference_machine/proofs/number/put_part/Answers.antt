use Rattle.std.proofs.Common.{◌∙◌, ap, length}
use Rattle.host_types.specs.Bytes.{with_part}
use Rattle.reference_machine.proofs.Parts.{put_mid-with_part}
use Rattle.reference_machine.proofs.number.put_part.Goals as goal

pub returns : goal.returns
returns g c =
    let written = c.copy_from_slice.ensures.after in
    put_mid-with_part c.args.items.now c.copy_from_slice.new.self c.args.at (length c.args.part.now) (ap length written)
    ∙ ap (with_part c.args.items.now c.args.at) written
