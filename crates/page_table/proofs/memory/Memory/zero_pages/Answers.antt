use Rattle.page_table.proofs.Base.{◌∙◌, view_of}
use Rattle.page_table.proofs.Unmerging.{zeros-answer}
use Rattle.page_table.proofs.memory.Memory.zero_pages.Goals as goal

pub returns : goal.returns
unfolding view_of
returns c = rw (← c.self.view_is) (c.zero_pages.ensures.pages ∙ zeros-answer c.self.inside.table c.facts.ensures.1.fits c.self.inside.pass)
