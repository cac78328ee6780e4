use Rattle.std.proofs.lemmas.List.Elements.{All-push}
use Rattle.object_file.specs.Programs.{IsTextOf}
use Rattle.object_file.proofs.program.texts_of.Goals as goal

pub loop-number-preserved : goal.loop-number-preserved
loop-number-preserved c =
    rw c.in_ok-push-2.ensures.items (All-push (IsTextOf c.args.tables.now.object.bytes.now) _ _ c.loop-number.invariant c.in_ok-text.ensures)
