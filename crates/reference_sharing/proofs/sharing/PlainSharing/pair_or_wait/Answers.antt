use Rattle.std.proofs.Common.{◌∙◌, sym, ap}
use Rattle.host_types.specs.declared.visited.Visited.TheVariants as visited
use Rattle.host_types.specs.Visits.{find_partner}
use Rattle.reference_sharing.specs.View.{plain_contents}
use Rattle.host_types.proofs.Visits.{paired_or_waiting-partner, paired_or_waiting-none}
use Rattle.reference_sharing.proofs.sharing.PlainSharing.pair_or_wait.Goals as goal

pub returns-in_ok-pair-in-Some : goal.returns-in_ok-pair-in-Some
returns-in_ok-pair-in-Some c =
    paired_or_waiting-partner c.args.self.now c.args.page_index c.in-Some.other c.args.fingerprint
    (find_partner (plain_contents c.args.contents.now) c.args.self.now c.args.page_index c.args.fingerprint) (sym c.in-Some.is ∙ c.partner.ensures)
    ∙ ap (λ s. (visited.Paired, s)) (sym c.in_ok-pair-in-Some.ensures.paired)

pub returns-in_ok-wait-in-None : goal.returns-in_ok-wait-in-None
returns-in_ok-wait-in-None c =
    paired_or_waiting-none c.args.self.now c.args.page_index c.args.fingerprint
    (find_partner (plain_contents c.args.contents.now) c.args.self.now c.args.page_index c.args.fingerprint) (sym c.in-None.is ∙ c.partner.ensures)
    ∙ ap (λ s. (visited.Waiting, s)) (sym c.in_ok-wait-in-None.ensures)
