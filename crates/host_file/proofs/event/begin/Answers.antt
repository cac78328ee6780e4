use Rattle.std.proofs.Common.{rules}
use Rattle.host_file.specs.declared.key.Key.TheVariants as key
use Rattle.host_file.specs.HostFile.{HasHex}
use Rattle.host_file.specs.Kinds.{IsComplete, begin}
use Rattle.host_file.specs.Section.{members_of}
use Rattle.host_file.proofs.Refuted.{lacks}
use Rattle.host_file.proofs.event.begin.Goals as goal

pub returns-in_err-bytes-clause-bad : goal.returns-in_err-bytes-clause-bad
returns-in_err-bytes-clause-bad c =
    let ms = members_of c.args.event.now in
    let bad = lacks (HasHex ms key.Context) (IsComplete ms begin) _ c.in_err-bytes.ensures.bad (λ whole. whole.3) in
    search rules
