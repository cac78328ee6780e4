use Rattle.engines.proofs.Noting.{replayed-read}
use Rattle.engines.proofs.replay.replay.Goals as goal

pub returns-clause-replayed : goal.returns-clause-replayed
returns-clause-replayed g c =
    let was = g.W.Write.contents c.args.writer.now in
    let half = g.W.Write.contents c.replay_file-status.new.writer in
    let is = g.W.Write.contents c.flush-flushed.new.self in
    replayed-read (g.R.Read.remaining c.args.reader.now) c.in_ok-file.file was half is c.in_ok-status.status
    c.in_ok-file.ensures.read c.flush-flushed.ensures.bytes c.in_ok-status.ensures.replayed
