use Rattle.std.proofs.Common.{◌∙◌, option_map, sym, ap}
use Rattle.host_types.specs.Visits.{decided}
use Rattle.reference_sharing.specs.View.{page_of, plain_contents}
use Rattle.host_types.proofs.Visits.{decided-already, decided-own}
use Rattle.reference_sharing.proofs.Visits.{decided-none}
use Rattle.reference_sharing.proofs.sharing.PlainSharing.decide.Goals as goal

pub returns-in_default : goal.returns-in_default
returns-in_default c =
    ap (decided (plain_contents c.args.contents.now) c.args.self.now c.args.page_index) (sym c.page.ensures ∙ ap (option_map page_of) c.in_default.is)
    ∙ decided-none (plain_contents c.args.contents.now) c.args.self.now c.args.page_index

pub returns-then-stays : goal.returns-then-stays
returns-then-stays c =
    ap (decided (plain_contents c.args.contents.now) c.args.self.now c.args.page_index) (sym c.page.ensures ∙ ap (option_map page_of) c.in-Some.is)
    ∙ decided-already (plain_contents c.args.contents.now) c.args.self.now c.args.page_index (page_of c.in-Some.page) (sym c.stays.ensures ∙ c.if-stays.true)

pub returns : goal.returns
returns c =
    ap (decided (plain_contents c.args.contents.now) c.args.self.now c.args.page_index) (sym c.page.ensures ∙ ap (option_map page_of) c.in-Some.is)
    ∙ decided-own (plain_contents c.args.contents.now) c.args.self.now c.args.page_index (page_of c.in-Some.page) (sym c.stays.ensures ∙ c.if-stays.false)
    ∙ c.in_ok-visited.ensures
