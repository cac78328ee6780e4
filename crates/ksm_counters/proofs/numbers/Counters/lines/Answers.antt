use Rattle.std.proofs.Common.{refl}
use Rattle.ksm_counters.specs.Lines.{lines_text}
use Rattle.ksm_counters.proofs.numbers.Counters.lines.Goals as goal

pub returns : goal.returns
unfolding lines_text
returns c = rw c.of.ensures.name (rw c.of.ensures.value (rw c.of-2.ensures.name (rw c.of-2.ensures.value (rw c.of-3.ensures.name (rw c.of-3.ensures.value (rw c.of-4.ensures.name (rw c.of-4.ensures.value (rw c.of-5.ensures.name (rw c.of-5.ensures.value (rw c.of-6.ensures.name (rw c.of-6.ensures.value (rw c.of-7.ensures.name (rw c.of-7.ensures.value (rw c.of-8.ensures.name (rw c.of-8.ensures.value (refl))))))))))))))))
