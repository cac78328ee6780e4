use Rattle.bpf_decode.proofs.Accepted.{accepted_operation}
use Rattle.verifier.proofs.Registers.{accepted_small}
use Rattle.verifier.proofs.candidate.Candidate.insn.Goals as goal

pub returns-clause-dst : goal.returns-clause-dst
returns-clause-dst c = (accepted_small c.insn.result c.insn.ensures.accepted).dst

pub returns-clause-src : goal.returns-clause-src
returns-clause-src c = (accepted_small c.insn.result c.insn.ensures.accepted).src

pub returns-clause-operation : goal.returns-clause-operation
returns-clause-operation c = accepted_operation c.insn.result c.insn.ensures.accepted
