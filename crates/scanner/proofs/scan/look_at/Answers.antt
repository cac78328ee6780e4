use Rattle.std.proofs.Common.{◌≡◌, ◌∙◌, ◌==◌, ◌&&◌, ◌||◌, bytes_eq, Bool, is_some, sym, ap}
use Rattle.host_types.specs.declared.visited.Visited.TheVariants as visited
use Rattle.host_types.specs.Pages.{page_index_of, fingerprint_of, zero_page}
use Rattle.host_types.specs.Pins.{is_pinned}
use Rattle.host_types.specs.Visits.{had, paired_or_waiting, find_partner, changed}
use Rattle.frame_arena.specs.Pages.{page_at}
use Rattle.page_table.specs.Changes.{contents_now}
use Rattle.page_table.specs.Table.{state_of}
use Rattle.host_types.proofs.Visits.{decided-already}
use Rattle.scanner.proofs.Visits.{looked-joined, looked-changed, looked-zeroed, looked-paired_or_waiting}
use Rattle.scanner.proofs.scan.look_at.Goals as goal

pub returns-then-stays-clause-decided : goal.returns-then-stays-clause-decided
returns-then-stays-clause-decided c =
    rw (c.entry-entry.ensures.state) (decided-already (contents_now c.args.memory.now) c.args.memory.now.sharing (page_index_of c.args.page) (state_of c.entry-entry.result) (ap (λ (b : Bool). b || is_pinned c.args.memory.now.sharing.pins (page_index_of c.args.page)) (sym c.entry-entry.ensures.protection) ∙ sym c.stays.ensures ∙ c.if-stays.true))

pub returns-in-Some-clause-decided : goal.returns-in-Some-clause-decided
returns-in-Some-clause-decided c =
    rw (c.entry-entry.ensures.state) (looked-joined (contents_now c.args.memory.now) c.args.memory.now.sharing (page_index_of c.args.page) (state_of c.entry-entry.result) (ap (λ (b : Bool). b || is_pinned c.args.memory.now.sharing.pins (page_index_of c.args.page)) (sym c.entry-entry.ensures.protection) ∙ sym c.stays.ensures ∙ c.if-stays.false) (sym c.open_group.ensures.answer ∙ ap is_some c.in-Some.is)
    ∙ ap (λ s. (visited.Joined, s)) (sym c.join_group.ensures.sharing))

pub returns-then-not-had-clause-decided : goal.returns-then-not-had-clause-decided
returns-then-not-had-clause-decided c =
    let fingerprint : c.fingerprint-fingerprint.result ≡ fingerprint_of (contents_now c.args.memory.now (page_index_of c.args.page)) =
    c.fingerprint-fingerprint.ensures ∙ ap (λ a. fingerprint_of (page_at a c.entry-entry.result.frame)) c.arena.ensures ∙ ap fingerprint_of c.entry-entry.ensures.bytes in
    rw (c.entry-entry.ensures.state) (looked-changed (contents_now c.args.memory.now) c.args.memory.now.sharing (page_index_of c.args.page) (state_of c.entry-entry.result) (ap (λ (b : Bool). b || is_pinned c.args.memory.now.sharing.pins (page_index_of c.args.page)) (sym c.entry-entry.ensures.protection) ∙ sym c.stays.ensures ∙ c.if-stays.false) (sym c.open_group.ensures.answer ∙ ap is_some c.in_default.is) (ap (had c.entry-entry.result.last) (sym fingerprint) ∙ sym c.had.ensures ∙ c.if-not-had.true)
    ∙ ap (λ f. (visited.Changed, changed c.args.memory.now.sharing (page_index_of c.args.page) f)) (sym fingerprint)
    ∙ ap (λ s. (visited.Changed, s)) (sym c.change.ensures.sharing))

pub returns-then-is_zeros-clause-decided : goal.returns-then-is_zeros-clause-decided
returns-then-is_zeros-clause-decided c =
    let fingerprint : c.fingerprint-fingerprint.result ≡ fingerprint_of (contents_now c.args.memory.now (page_index_of c.args.page)) =
    c.fingerprint-fingerprint.ensures ∙ ap (λ a. fingerprint_of (page_at a c.entry-entry.result.frame)) c.arena.ensures ∙ ap fingerprint_of c.entry-entry.ensures.bytes in
    rw (c.entry-entry.ensures.state) (looked-zeroed (contents_now c.args.memory.now) c.args.memory.now.sharing (page_index_of c.args.page) (state_of c.entry-entry.result) (ap (λ (b : Bool). b || is_pinned c.args.memory.now.sharing.pins (page_index_of c.args.page)) (sym c.entry-entry.ensures.protection) ∙ sym c.stays.ensures ∙ c.if-stays.false) (sym c.open_group.ensures.answer ∙ ap is_some c.in_default.is) (ap (had c.entry-entry.result.last) (sym fingerprint) ∙ sym c.had.ensures ∙ c.if-not-had.false) (ap (λ l. (c.args.memory.now.sharing.options.use_zero_pages == 1) && bytes_eq l zero_page) (sym c.entry-entry.ensures.bytes) ∙ sym c.is_zeros.ensures ∙ c.if-is_zeros.true)
    ∙ ap (λ s. (visited.Zeroed, s)) (sym c.zero.ensures.sharing))

pub returns-clause-decided : goal.returns-clause-decided
returns-clause-decided c =
    let fingerprint : c.fingerprint-fingerprint.result ≡ fingerprint_of (contents_now c.args.memory.now (page_index_of c.args.page)) =
    c.fingerprint-fingerprint.ensures ∙ ap (λ a. fingerprint_of (page_at a c.entry-entry.result.frame)) c.arena.ensures ∙ ap fingerprint_of c.entry-entry.ensures.bytes in
    rw (c.entry-entry.ensures.state) (looked-paired_or_waiting (contents_now c.args.memory.now) c.args.memory.now.sharing (page_index_of c.args.page) (state_of c.entry-entry.result) (ap (λ (b : Bool). b || is_pinned c.args.memory.now.sharing.pins (page_index_of c.args.page)) (sym c.entry-entry.ensures.protection) ∙ sym c.stays.ensures ∙ c.if-stays.false) (sym c.open_group.ensures.answer ∙ ap is_some c.in_default.is) (ap (had c.entry-entry.result.last) (sym fingerprint) ∙ sym c.had.ensures ∙ c.if-not-had.false) (ap (λ l. (c.args.memory.now.sharing.options.use_zero_pages == 1) && bytes_eq l zero_page) (sym c.entry-entry.ensures.bytes) ∙ sym c.is_zeros.ensures ∙ c.if-is_zeros.false)
    ∙ ap (λ f. paired_or_waiting c.args.memory.now.sharing (page_index_of c.args.page) f (find_partner (contents_now c.args.memory.now) c.args.memory.now.sharing (page_index_of c.args.page) f)) (sym fingerprint)
    ∙ c.pair_or_wait.ensures.paired_or_waiting)
