use Rattle.std.proofs.Common.{◌+◌, ◌-◌, false, arith}
use Rattle.reference_sharing.proofs.Lists.{filled}
use Rattle.reference_sharing.proofs.sharing.end_pins.Goals as goal

pub returns : goal.returns
returns c =
    rw (c.fill.ensures.after (λ y e. e))
    (filled false c.args.pins.now c.args.first c.args.count (c.args.first + c.args.count - c.args.first) c.requires (omega arith))
