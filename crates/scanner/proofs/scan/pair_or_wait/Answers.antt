use Rattle.std.proofs.Common.{◌∙◌, sym, ap, option_map}
use Rattle.host_types.specs.declared.visited.Visited.TheVariants as visited
use Rattle.host_types.specs.Pages.{page_index_of}
use Rattle.host_types.specs.Visits.{find_partner}
use Rattle.page_table.specs.Changes.{contents_now}
use Rattle.host_types.proofs.Visits.{paired_or_waiting-partner, paired_or_waiting-none}
use Rattle.scanner.proofs.scan.pair_or_wait.Goals as goal

pub returns-in-Some-clause-paired_or_waiting : goal.returns-in-Some-clause-paired_or_waiting
returns-in-Some-clause-paired_or_waiting c =
    paired_or_waiting-partner c.args.memory.now.sharing (page_index_of c.args.page) (page_index_of c.in-Some.other) c.args.fingerprint
    (find_partner (contents_now c.args.memory.now) c.args.memory.now.sharing (page_index_of c.args.page) c.args.fingerprint) (sym (ap (option_map page_index_of) c.in-Some.is) ∙ c.partner.ensures.found)
    ∙ ap (λ s. (visited.Paired, s)) (sym c.pair.ensures.sharing)

pub returns-in-None-clause-paired_or_waiting : goal.returns-in-None-clause-paired_or_waiting
returns-in-None-clause-paired_or_waiting c =
    paired_or_waiting-none c.args.memory.now.sharing (page_index_of c.args.page) c.args.fingerprint
    (find_partner (contents_now c.args.memory.now) c.args.memory.now.sharing (page_index_of c.args.page) c.args.fingerprint) (sym (ap (option_map page_index_of) c.in-None.is) ∙ c.partner.ensures.found)
    ∙ ap (λ s. (visited.Waiting, s)) (sym c.wait.ensures.sharing)
