use Rattle.std.proofs.Common.{arith}
use Rattle.reference_machine.proofs.Powers.{one_more_byte}
use Rattle.reference_machine.proofs.number.with_low_byte.Goals as goal

pub overflow_mul-result : goal.overflow_mul-result
overflow_mul-result c =
    let fits = (one_more_byte c.args.byte c.args.number c.args.n (omega arith) c.requires.few c.requires.fits).1 in
    omega (arith, fits)

pub overflow_add-result : goal.overflow_add-result
overflow_add-result c =
    let fits = (one_more_byte c.args.byte c.args.number c.args.n (omega arith) c.requires.few c.requires.fits).1 in
    omega (arith, fits)
