use Rattle.engines.proofs.Words.{more_shape_words, no_shape_words}
use Rattle.engines.proofs.check.request.shapes_of.Goals as goal

-- the word gives no shape
pub returns-in_default-clause-usage : goal.returns-in_default-clause-usage
returns-in_default-clause-usage c usage = no_shape_words _ _ _ c.loop-word-test.true c.in_default.ensures.none

pub loop-word-preserved : goal.loop-word-preserved
loop-word-preserved c =
    more_shape_words _ _ _ _ _ _ c.loop-word-test.true c.loop-word.invariant c.in-Some.ensures.some c.in-Ok.ensures.items
