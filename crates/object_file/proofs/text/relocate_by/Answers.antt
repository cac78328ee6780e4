use Rattle.object_file.proofs.text.relocate_by.Goals as goal

pub loop-number-preserved : goal.loop-number-preserved
loop-number-preserved c = λ file stands. c.in_ok-relocate.ensures.kept file (c.loop-number.invariant file stands)

pub returns-in_err-relocate : goal.returns-in_err-relocate
returns-in_err-relocate c = record { kept = λ file stands. c.in_err-relocate.ensures.kept file (c.loop-number.invariant file stands) }
