use Rattle.serving.proofs.Served.{served-read}
use Rattle.serving.proofs.file.serve_file.Goals as goal

pub returns-clause-served : goal.returns-clause-served
returns-clause-served g c =
    served-read (g.R.Read.remaining c.args.reader.now) c.in_ok-file.file (g.W.Write.contents c.args.writer.now) (g.W.Write.contents c.serve_document-status.new.writer)
    (g.W.Write.contents c.flush-flushed.new.self) c.in_ok-status.status c.in_ok-file.ensures.read c.in_ok-require_served.ensures.served c.flush-flushed.ensures.bytes c.in_ok-status.ensures.served
