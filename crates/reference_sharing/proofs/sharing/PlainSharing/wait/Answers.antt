use Rattle.std.proofs.Common.{◌∙◌, ℕ, List, length, drop, Option, None, option_map, slice_index_or, slice_set, ap}
use Rattle.std.proofs.lemmas.List.{take_at}
use Rattle.host_types.specs.declared.status.Status.TheVariants.{Waiting}
use Rattle.host_types.specs.Sharing.{Sharing, PageState, with_status}
use Rattle.host_types.specs.Visits.{waits}
use Rattle.reference_sharing.specs.View.{page_states, indices_in}
use Rattle.reference_sharing.specs.declared.sharing.PlainPage.{PlainPage}
use Rattle.reference_sharing.proofs.Visits.{state}
use Rattle.reference_sharing.proofs.sharing.PlainSharing.wait.Goals as goal

pub returns : goal.returns
unfolding waits
returns c =
    let changed : List (Option PlainPage) → List (Option PageState) = λ pages. slice_set (page_states pages) c.args.page_index (option_map (with_status Waiting) (slice_index_or (page_states pages) c.args.page_index None)) in
    let whole = take_at c.set_status.new.pages (drop (length c.set_status.new.pages) c.self.inside.pages.items) c.self.inside.pages.len (c.set_status.auto.pages ∙ c.deref_mut.ensures.len) in
    ap (λ (pages : List (Option PageState)). state pages (indices_in c.self.inside.groups.items) c.insert.new.waiting.items c.self.inside.cursor c.self.inside.options c.self.inside.full_scans c.self.inside.pins.items) (ap page_states whole ∙ c.set_status.ensures ∙ ap changed c.deref_mut.ensures.value)
    ∙ ap (λ (waiting : List (ℕ × ℕ)). state (changed c.self.inside.pages.items) (indices_in c.self.inside.groups.items) waiting c.self.inside.cursor c.self.inside.options c.self.inside.full_scans c.self.inside.pins.items) c.in_ok-insert.ensures
    ∙ ap (λ (s : Sharing). waits s c.args.page_index c.args.fingerprint) c.self.view_is
