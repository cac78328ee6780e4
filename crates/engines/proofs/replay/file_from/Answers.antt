use Rattle.std.proofs.Common.{◌∙◌}
use Rattle.engines.proofs.Input.{called-bad}
use Rattle.engines.proofs.replay.file_from.Goals as goal

pub returns-in-Ok-clause-bad : goal.returns-in-Ok-clause-bad
returns-in-Ok-clause-bad g c =
    called-bad (g.R.Read.remaining c.args.reader.now) c.in_ok-bytes.bytes.items c.in-Ok.text.now c.read_file.result
    c.in_ok-bytes.ensures.read (c.in-Ok.ensures.cases.0 ∙ c.as_slice.ensures.value) c.read_file.ensures.bad
