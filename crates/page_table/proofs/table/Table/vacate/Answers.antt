use Rattle.page_table.proofs.Base.{arith, get_or-set_other, nat_tests, map-set, contents_of}
use Rattle.page_table.proofs.Vacating.{sharing-vacated, used-vacated, sound-vacated}
use Rattle.page_table.proofs.table.Table.vacate.Goals as goal

pub invariant_of-self : goal.invariant_of-self
invariant_of-self c =
    grind (arith, sound-vacated _ c.args.page_index c.args.entry c.self.invariant.0.fits (rw (← c.self.view_is) at c.requires.there) (rw (← c.self.view_is) at c.requires.company) c.self.inside.counts c.release.new.self)

pub returns : goal.returns
unfolding contents_of
returns c =
    grind (arith, nat_tests, map-set, sharing-vacated _ c.args.page_index c.args.entry c.self.invariant.0.fits, used-vacated _ c.args.page_index c.args.entry c.self.invariant.0.fits, get_or-set_other)
