use Rattle.verifier.proofs.Successors.{check_described, fork_described}
use Rattle.verifier.proofs.candidate.Candidate.branches.Goals as goal

pub returns-in-Numbers-clause-described : goal.returns-in-Numbers-clause-described
returns-in-Numbers-clause-described c =
    fork_described (record { dst = c.args.insn.now.dst; next = c.in_ok-compared.next; fallen = c.refined.result; jump = c.in_ok-compared.jump; jumped = c.refined-in-Numbers.result }) c.args.d.now c.requires.dst c.requires.description c.refined.ensures.normal c.refined-in-Numbers.ensures.normal

pub returns-in-Answer-clause-described : goal.returns-in-Answer-clause-described
returns-in-Answer-clause-described c = check_described _ c.args.d.now c.requires.description
