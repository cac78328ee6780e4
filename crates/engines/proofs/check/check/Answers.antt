use Rattle.engines.proofs.check.check.Goals as goal

pub returns-clause-verdict : goal.returns-clause-verdict
returns-clause-verdict g c = (c.in_ok-asked.asked, c.in_ok-asked.ensures.asked, c.in_ok-status.ensures.verdict)
