use Rattle.std.proofs.Common.{refl}
use Rattle.host_calls.specs.Programs.{subject_for}
use Rattle.host_calls.proofs.Faults.{verdict_undecoded}
use Rattle.host_calls.proofs.load.decode_and_verify.Goals as goal

pub returns-in-Err-clause-refused : goal.returns-in-Err-clause-refused
returns-in-Err-clause-refused c =
    verdict_undecoded (subject_for c.args.shapes.now c.args.text.now c.args.ctx_size) c.args.text.now c.in-Err.refused c.fault.result refl c.fault.ensures c.in-Err.ensures.refused
    (λ other fails. let same = c.in-Err.ensures.verdict other fails in cc)
