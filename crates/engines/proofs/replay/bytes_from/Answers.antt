use Rattle.std.proofs.Common.{arith}
use Rattle.host_file.specs.HostFile.{max_bytes}
use Rattle.engines.proofs.Noting.{read-all}
use Rattle.engines.proofs.replay.bytes_from.Goals as goal

pub returns-clause-read : goal.returns-clause-read
returns-clause-read g c =
    let limited = rw c.take-front.ensures.limit at c.in_default.ensures.bytes in
    let from_reader = rw c.take-front.ensures.inner at limited in
    let front = rw c.new-bytes.ensures.items at from_reader in
    read-all (g.R.Read.remaining c.args.reader.now) max_bytes c.read_to_end.new.buf.items front (omega (arith, c.if-len-gt-MAX_BYTES.false, c.len.ensures))
