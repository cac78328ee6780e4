use Rattle.std.proofs.Common.{◌≡◌, ◌∙◌, ◌*◌, ◌==◌, ℕ, Bool, List, IfSome, ◌≤◌, option_map, refl, sym, ap, subst}
use Rattle.host_types.specs.declared.options.Options.{Options}
use Rattle.host_types.specs.Bytes.{part_of}
use Rattle.host_types.specs.Pages.{page_index_of}
use Rattle.host_types.specs.Sharing.{state_at}
use Rattle.host_types.specs.Visits.{begun, decided, is_mergeable, contents_in}
use Rattle.page_table.specs.State.{MemoryState, part}
use Rattle.page_table.specs.Changes.{IsPageOf}
use Rattle.host_types.proofs.Visits.{visit-stopped, visit-none, visit-page, begun-pages, is-same, is-other}
use Rattle.scanner.proofs.Visits.{moved-at_or_before, begun-pins}
use Rattle.scanner.proofs.Idle.{idle-law}
use Rattle.scanner.proofs.scan.visit.Goals as goal
use Rattle.scanner.proofs.scan.visit.Goals.{After-advance}

-- the memory in which the page is looked at
begun_is : (c : After-advance) → c.advance.new.self ≡ record c.args.memory.now { sharing = begun c.args.memory.now.sharing (page_index_of c.in-Some.page) }
unfolding begun
begun_is c = rw (c.advance.ensures.moved, c.begin_pass.ensures) refl

pub returns-then-options-ne-RUN-clause-visited : goal.returns-then-options-ne-RUN-clause-visited
returns-then-options-ne-RUN-clause-visited c =
    visit-stopped (contents_in c.args.memory.now.maps) c.args.memory.now.sharing (ap (λ (o : Options). o.run == 1) (sym c.options.ensures) ∙ is-other c.options.result.run 1 c.if-options-ne-RUN.true)

pub returns-in_default-clause-visited : goal.returns-in_default-clause-visited
returns-in_default-clause-visited c =
    visit-none (contents_in c.args.memory.now.maps) c.args.memory.now.sharing (ap (λ (o : Options). o.run == 1) (sym c.options.ensures) ∙ is-same c.options.result.run 1 c.if-options-ne-RUN.false)
    (sym c.next_page.ensures.page_index ∙ ap (option_map page_index_of) c.in_default.is)

pub returns-then-options-ne-RUN-clause-idle : goal.returns-then-options-ne-RUN-clause-idle
returns-then-options-ne-RUN-clause-idle c = idle-law (contents_in c.args.memory.now.maps) c.args.memory.now.sharing _ _ c.facts.ensures.ahead (returns-then-options-ne-RUN-clause-visited c)

pub returns-in_default-clause-idle : goal.returns-in_default-clause-idle
returns-in_default-clause-idle c = idle-law (contents_in c.args.memory.now.maps) c.args.memory.now.sharing _ _ c.facts.ensures.ahead (returns-in_default-clause-visited c)

pub look_at-requires-clause-there : goal.look_at-requires-clause-there
unfolding part
look_at-requires-clause-there c =
    subst (λ (memory : MemoryState). IsPageOf memory c.in-Some.page) (sym (begun_is (goal.at.look_at-requires-clause-there c).After-advance)) c.in-Some.ensures.there

pub look_at-requires-clause-mergeable : goal.look_at-requires-clause-mergeable
look_at-requires-clause-mergeable c =
    ap (λ (memory : MemoryState). is_mergeable (state_at memory.sharing (page_index_of c.in-Some.page))) (begun_is (goal.at.look_at-requires-clause-mergeable c).After-advance)
    ∙ ap is_mergeable (begun-pages c.args.memory.now.sharing (page_index_of c.in-Some.page) (page_index_of c.in-Some.page)) ∙ c.in-Some.ensures.mergeable

pub look_at-requires-clause-at_or_before : goal.look_at-requires-clause-at_or_before
look_at-requires-clause-at_or_before c =
    subst (λ (memory : MemoryState). IfSome memory.sharing.cursor (λ n. page_index_of c.in-Some.page ≤ n)) (sym c.advance.ensures.moved) (moved-at_or_before _ (page_index_of c.in-Some.page))

pub returns-clause-visited : goal.returns-clause-visited
returns-clause-visited c =
    let begun_here = begun_is (goal.at.returns-clause-visited c).After-advance in
    let i : ℕ = page_index_of c.in-Some.page in
    visit-page (contents_in c.args.memory.now.maps) c.args.memory.now.sharing i (ap (λ (o : Options). o.run == 1) (sym c.options.ensures) ∙ is-same c.options.result.run 1 c.if-options-ne-RUN.false)
    (sym c.next_page.ensures.page_index ∙ ap (option_map page_index_of) c.in-Some.is)
    ∙ ap (decided (contents_in c.args.memory.now.maps) (begun c.args.memory.now.sharing i) i) (sym (begun-pages c.args.memory.now.sharing i i))
    ∙ ap (λ (memory : MemoryState). decided (contents_in memory.maps) memory.sharing i (state_at memory.sharing i)) (sym begun_here)
    ∙ c.look_at.ensures.decided

pub returns-clause-idle : goal.returns-clause-idle
returns-clause-idle c = idle-law (contents_in c.args.memory.now.maps) c.args.memory.now.sharing _ _ c.facts.ensures.ahead (returns-clause-visited c)

pub returns-clause-kept : goal.returns-clause-kept
unfolding part
returns-clause-kept c t =
    c.look_at.ensures.kept t ∙ ap (λ (memory : MemoryState). part memory t) (begun_is (goal.at.returns-clause-kept c).After-advance)
    ∙ ap (λ (pins : List Bool). record (part c.args.memory.now t) { pins = part_of pins (t * 2048) 2048 }) (begun-pins c.args.memory.now.sharing (page_index_of c.in-Some.page))
