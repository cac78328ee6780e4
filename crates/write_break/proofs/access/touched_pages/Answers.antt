use Rattle.std.proofs.Common.{sym, ap, arith}
use Rattle.write_break.specs.Stores.{touched}
use Rattle.write_break.proofs.Stores.{touched-some}
use Rattle.write_break.proofs.access.touched_pages.Goals as goal

pub returns-then-len-eq0 : goal.returns-then-len-eq0
unfolding touched
returns-then-len-eq0 c = sym (ap (touched c.args.at) c.if-len-eq0.true)

pub returns : goal.returns
returns c =
    let some = touched-some c.args.at c.args.len (omega arith) in
    rw (c.from.ensures, c.from-2.ensures, c.from-3.ensures) (omega (arith, some))
