use Rattle.std.proofs.Common.{◌∙◌, ℕ, Bool, if◌then◌else◌, List, ◌++◌, length, take, drop, Option, None, Vec, option_map, slice_index_or, slice_set, sym, ap}
use Rattle.std.specs.declared.alloc.Global.{Global}
use Rattle.std.proofs.lemmas.List.{take_at}
use Rattle.host_types.specs.declared.status.Status.TheVariants.{Grouped}
use Rattle.host_types.specs.Sharing.{Sharing, PageState, with_status}
use Rattle.host_types.specs.Visits.{has_open, joined, join_first}
use Rattle.reference_sharing.specs.View.{page_states, indices_in, plain_contents, is_open_below}
use Rattle.reference_sharing.specs.declared.sharing.PlainPage.{PlainPage}
use Rattle.reference_sharing.proofs.Joins.{none_joined}
use Rattle.reference_sharing.proofs.Visits.{state}
use Rattle.reference_sharing.proofs.sharing.PlainSharing.join.Goals as goal

pub returns-then-is_joined-clause-answered : goal.returns-then-is_joined-clause-answered
unfolding has_open
returns-then-is_joined-clause-answered c = rw (← c.self.view_is, ← c.deref_mut.ensures.value) c.in_ok-is_joined.ensures.answered

pub returns-then-is_joined-clause-joined : goal.returns-then-is_joined-clause-joined
unfolding joined
returns-then-is_joined-clause-joined c =
    let changed : List (Option PlainPage) → List (Option PageState) = λ pages. slice_set (page_states pages) c.args.page_index (option_map (with_status Grouped) (slice_index_or (page_states pages) c.args.page_index None)) in
    let grown : List (Vec ℕ Global) → List (List ℕ) =
    λ groups. join_first (is_open_below c.self.inside.options.max_page_sharing (plain_contents c.args.contents.now) (plain_contents c.args.contents.now c.args.page_index)) c.args.page_index (indices_in groups) in
    let whole_pages = take_at c.set_status.new.pages (drop (length c.set_status.new.pages) c.self.inside.pages.items) c.self.inside.pages.len (c.set_status.auto.pages ∙ c.deref_mut-then-is_joined.ensures.len) in
    let whole_groups = take_at c.join_first.new.groups (drop (length c.join_first.new.groups) c.self.inside.groups.items) c.self.inside.groups.len (c.join_first.auto.groups ∙ c.deref_mut.ensures.len) in
    let all_groups = take c.self.inside.groups.len (c.join_first.new.groups ++ drop (length c.join_first.new.groups) c.self.inside.groups.items) in
    ap (λ (pages : List (Option PageState)). state pages (indices_in all_groups) c.self.inside.waiting.items c.self.inside.cursor c.self.inside.options c.self.inside.full_scans c.self.inside.pins.items)
    (ap page_states whole_pages ∙ c.set_status.ensures ∙ ap changed c.deref_mut-then-is_joined.ensures.value)
    ∙ ap (λ (groups : List (List ℕ)). state (changed c.self.inside.pages.items) groups c.self.inside.waiting.items c.self.inside.cursor c.self.inside.options c.self.inside.full_scans c.self.inside.pins.items)
    (ap indices_in whole_groups ∙ c.in_ok-is_joined.ensures.joined ∙ ap grown c.deref_mut.ensures.value)
    ∙ ap (λ (s : Sharing). joined (plain_contents c.args.contents.now) s c.args.page_index) c.self.view_is
    ∙ sym (ap (λ (b : Bool). if b then joined (plain_contents c.args.contents.now) c.args.self.now c.args.page_index else c.args.self.now) c.if-is_joined.true)

pub returns-else-is_joined-clause-answered : goal.returns-else-is_joined-clause-answered
unfolding has_open
returns-else-is_joined-clause-answered c = rw (← c.self.view_is, ← c.deref_mut.ensures.value) c.in_ok-is_joined.ensures.answered

pub returns-else-is_joined-clause-joined : goal.returns-else-is_joined-clause-joined
returns-else-is_joined-clause-joined c =
    let kept = c.in_ok-is_joined.ensures.joined ∙ none_joined _ c.args.page_index _ (sym c.in_ok-is_joined.ensures.answered ∙ c.if-is_joined.false) in
    let whole = take_at c.join_first.new.groups (drop (length c.join_first.new.groups) c.self.inside.groups.items) c.self.inside.groups.len (c.join_first.auto.groups ∙ c.deref_mut.ensures.len) in
    ap (λ (groups : List (List ℕ)). state (page_states c.self.inside.pages.items) groups c.self.inside.waiting.items c.self.inside.cursor c.self.inside.options c.self.inside.full_scans c.self.inside.pins.items) (ap indices_in whole ∙ kept ∙ ap indices_in c.deref_mut.ensures.value)
    ∙ c.self.view_is
    ∙ sym (ap (λ (b : Bool). if b then joined (plain_contents c.args.contents.now) c.args.self.now c.args.page_index else c.args.self.now) c.if-is_joined.false)
