use Rattle.std.proofs.Common.{◌∙◌, ◌==◌, ℕ, sym, ap}
use Rattle.host_types.specs.declared.options.Options.{Options}
use Rattle.host_types.specs.Sharing.{Sharing, state_at}
use Rattle.host_types.specs.Visits.{decided}
use Rattle.reference_sharing.specs.View.{plain_contents}
use Rattle.host_types.proofs.Visits.{visit-stopped, visit-none, is-same, is-other}
use Rattle.reference_sharing.proofs.Visits.{visit-page}
use Rattle.reference_sharing.proofs.sharing.PlainSharing.visit.Goals as goal

pub returns-then-options-ne-RUN : goal.returns-then-options-ne-RUN
returns-then-options-ne-RUN c =
    visit-stopped (plain_contents c.args.contents.now) c.args.self.now (ap (λ (o : Options). o.run == 1) (sym c.options.ensures) ∙ is-other c.options.result.run 1 c.if-options-ne-RUN.true)

pub returns-in_default : goal.returns-in_default
returns-in_default c =
    visit-none (plain_contents c.args.contents.now) c.args.self.now (ap (λ (o : Options). o.run == 1) (sym c.options.ensures) ∙ is-same c.options.result.run 1 c.if-options-ne-RUN.false)
    (sym c.page_to_visit.ensures ∙ c.in_default.is)

pub returns : goal.returns
returns c =
    let i : ℕ = c.in-Some.page_index in
    visit-page (plain_contents c.args.contents.now) c.args.self.now i (ap (λ (o : Options). o.run == 1) (sym c.options.ensures) ∙ is-same c.options.result.run 1 c.if-options-ne-RUN.false)
    (sym c.page_to_visit.ensures ∙ c.in-Some.is)
    ∙ ap (λ (s : Sharing). decided (plain_contents c.args.contents.now) s i (state_at s i)) (sym c.begin.ensures)
    ∙ c.in_ok-visited.ensures
