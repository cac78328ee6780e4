use Rattle.std.proofs.Common.{◌≡◌, option_map, None, slice_index_or, slice_set, refl, sym, ap, ◌∙◌}
use Rattle.std.proofs.Math.ListN.{get_or-map}
use Rattle.host_types.specs.Sharing.{with_status}
use Rattle.reference_sharing.specs.View.{page_of, page_states}
use Rattle.reference_sharing.proofs.pages.set_status.Goals as goal
use Rattle.reference_sharing.proofs.pages.set_status.Goals.{in-Some, in-None}

pub returns : goal.returns
returns c =
    let read = sym c.at.ensures in
    let same : option_map page_of c.match-at.page ≡ option_map (with_status c.args.status) (option_map page_of (slice_index_or c.args.pages.now c.args.page_index None)) =
    elim c.match-at.branch [ in-Some w ↦ rw (read, w.page-is, w.in-Some.is) refl | in-None w ↦ rw (read, w.page-is, w.in-None.is) refl ] in
    c.put.ensures
    ∙ ap (slice_set (page_states c.args.pages.now) c.args.page_index) (same ∙ ap (option_map (with_status c.args.status)) (sym (get_or-map (option_map page_of) c.args.pages.now c.args.page_index None)))
