use Rattle.std.proofs.Common.{◌≡◌, ◌∙◌, ◌+◌, ◌==◌, ◌≤◌, ℕ, true, false, Some, is_none, length, sym, ap, subst, arith}
use Rattle.host_types.specs.Helpers.{element_at, update_answer, maps_updated}
use Rattle.host_types.specs.Memory.{FlatMaps, map_at}
use Rattle.host_types.specs.Tenant.{TenantPart}
use Rattle.page_table.specs.State.{part, have_of}
use Rattle.page_table.specs.Changes.{part_written}
use Rattle.write_break.specs.Stores.{with_pins_of, stored_sharing, store_frames}
use Rattle.map_helpers.specs.Answers.{refusal_answer}
use Rattle.map_helpers.specs.Updates.{update_frames, part_updated}
use Rattle.map_helpers.proofs.Updates.{shape_in, helped, maps-refused, maps-written, cost-refused, cost-written, sharing-refused, sharing-written, value-sized}
use Rattle.map_helpers.proofs.helpers.update_as.Goals as goal
use Rattle.map_helpers.proofs.helpers.update_as.Goals.{After-element_at}

-- an update that is refused leaves everything
module _ (c : goal.After-answer) where
  there : shape_in (map_at (part c.args.memory.now c.args.tenant).maps c.args.map) ≡ Some c.in-Some.shape
  there = sym c.shape.ensures.shape ∙ c.in-Some.is

  refused : (update_answer c.in-Some.shape c.args.key c.args.flags == 0) ≡ false
  refused = c.update_error.ensures.refused ∙ ap is_none c.in-Some-update_error.is

  kept : (part c.args.memory.now c.args.tenant).maps ≡ maps_updated (part c.args.memory.now c.args.tenant).maps c.args.map c.args.key c.args.value.now c.args.flags
  kept = sym (maps-refused c.in-Some.shape c.args.key c.args.value.now c.args.flags (part c.args.memory.now c.args.tenant).maps c.args.map there refused)

pub returns-in-Some-update_error-clause-helped : goal.returns-in-Some-update_error-clause-helped
returns-in-Some-update_error-clause-helped c =
    let answer : update_answer c.in-Some.shape c.args.key c.args.flags ≡ c.answer.result =
    sym c.update_error.ensures.answer ∙ ap refusal_answer c.in-Some-update_error.is ∙ sym c.answer.ensures in
    helped c.in-Some.shape c.args.key c.args.value.now c.args.flags (part c.args.memory.now c.args.tenant).maps c.args.map (there c)
    ∙ ap (λ (n : ℕ). Some (n, maps_updated (part c.args.memory.now c.args.tenant).maps c.args.map c.args.key c.args.value.now c.args.flags)) answer
    ∙ ap (λ (maps : FlatMaps). Some (c.answer.result, maps)) (sym (kept c))

pub returns-in-Some-update_error-clause-part : goal.returns-in-Some-update_error-clause-part
unfolding part
returns-in-Some-update_error-clause-part c = ap (λ (maps : FlatMaps). record (part c.args.memory.now c.args.tenant) { maps = maps }) (kept c)

pub returns-in-Some-update_error-clause-sharing : goal.returns-in-Some-update_error-clause-sharing
returns-in-Some-update_error-clause-sharing c =
    sym (sharing-refused c.in-Some.shape c.args.is_pinned c.args.memory.now.sharing c.args.tenant c.args.map c.args.key c.args.flags (map_at (part c.args.memory.now c.args.tenant).maps c.args.map) (there c) (refused c))

pub returns-in-Some-update_error-clause-have : goal.returns-in-Some-update_error-clause-have
returns-in-Some-update_error-clause-have c =
    let none = cost-refused c.in-Some.shape c.args.memory.now.sharing c.args.tenant c.args.map c.args.key c.args.flags (map_at (part c.args.memory.now c.args.tenant).maps c.args.map) (there c) (refused c) in
    omega (arith, none)

-- an update that isn't refused is the store of the value
module _ (c : After-element_at) where
  found : shape_in (map_at (part c.args.memory.now c.args.tenant).maps c.args.map) ≡ Some c.in-Some.shape
  found = sym c.shape.ensures.shape ∙ c.in-Some.is

  answered : (update_answer c.in-Some.shape c.args.key c.args.flags == 0) ≡ true
  answered = c.update_error.ensures.refused ∙ ap is_none c.in_default-update_error.is

  sized : c.in-Some.shape.value_size ≡ length c.args.value.now
  sized = value-sized c.in-Some.shape (length c.args.value.now) (map_at (part c.args.memory.now c.args.tenant).maps c.args.map) found c.requires.value

  cost : update_frames (part c.args.memory.now c.args.tenant) c.args.memory.now.sharing c.args.tenant c.args.map c.args.key c.args.flags
      ≡ store_frames c.args.memory.now.sharing c.args.tenant c.args.map c.element_at.result (length c.args.value.now)
  cost =
      cost-written c.in-Some.shape c.args.memory.now.sharing c.args.tenant c.args.map c.args.key c.args.flags (map_at (part c.args.memory.now c.args.tenant).maps c.args.map) found answered
      ∙ ap (store_frames c.args.memory.now.sharing c.args.tenant c.args.map (element_at c.in-Some.shape c.args.key)) sized
      ∙ ap (λ (at : ℕ). store_frames c.args.memory.now.sharing c.args.tenant c.args.map at (length c.args.value.now)) (sym c.element_at.ensures.offset)

pub store_bytes_as-requires-clause-room : goal.store_bytes_as-requires-clause-room
store_bytes_as-requires-clause-room c = subst (λ (n : ℕ). n ≤ have_of c.args.memory.now) (cost c) c.requires.room

-- the part after the store
written : (c : goal.After-store_bytes_as) → part c.store_bytes_as.new.memory c.args.tenant
    ≡ with_pins_of c.store_bytes_as.new.memory.sharing c.args.tenant (part_updated (part c.args.memory.now c.args.tenant) c.args.map c.args.key c.args.value.now c.args.flags)
written c =
    let here = (goal.at.returns-clause-part c).After-element_at in
    c.store_bytes_as.ensures.written
    ∙ ap (λ (at : ℕ). with_pins_of c.store_bytes_as.new.memory.sharing c.args.tenant (part_written (part c.args.memory.now c.args.tenant) c.args.map at c.args.value.now)) c.element_at.ensures.offset
    ∙ ap (λ (maps : FlatMaps). with_pins_of c.store_bytes_as.new.memory.sharing c.args.tenant (record (part c.args.memory.now c.args.tenant) { maps = maps }))
    (maps-written c.in-Some.shape c.args.key c.args.value.now c.args.flags (part c.args.memory.now c.args.tenant).maps c.args.map (found here) (answered here))

pub returns-clause-helped : goal.returns-clause-helped
returns-clause-helped c =
    let here = (goal.at.returns-clause-helped c).After-element_at in
    let answer : update_answer c.in-Some.shape c.args.key c.args.flags ≡ 0 =
    sym c.update_error.ensures.answer ∙ ap refusal_answer c.in_default-update_error.is in
    helped c.in-Some.shape c.args.key c.args.value.now c.args.flags (part c.args.memory.now c.args.tenant).maps c.args.map (found here)
    ∙ ap (λ (n : ℕ). Some (n, maps_updated (part c.args.memory.now c.args.tenant).maps c.args.map c.args.key c.args.value.now c.args.flags)) answer
    ∙ ap (λ (owned : TenantPart). Some (0, owned.maps)) (sym (written c))

pub returns-clause-part : goal.returns-clause-part
returns-clause-part c = written c

pub returns-clause-sharing : goal.returns-clause-sharing
returns-clause-sharing c =
    let here = (goal.at.returns-clause-sharing c).After-element_at in
    c.store_bytes_as.ensures.sharing
    ∙ ap (stored_sharing c.args.is_pinned c.args.memory.now.sharing c.args.tenant c.args.map c.element_at.result) (sym (sized here))
    ∙ ap (λ (at : ℕ). stored_sharing c.args.is_pinned c.args.memory.now.sharing c.args.tenant c.args.map at c.in-Some.shape.value_size) c.element_at.ensures.offset
    ∙ sym (sharing-written c.in-Some.shape c.args.is_pinned c.args.memory.now.sharing c.args.tenant c.args.map c.args.key c.args.flags (map_at (part c.args.memory.now c.args.tenant).maps c.args.map) (found here) (answered here))

pub returns-clause-have : goal.returns-clause-have
returns-clause-have c =
    let here = (goal.at.returns-clause-have c).After-element_at in
    ap (λ (n : ℕ). have_of c.store_bytes_as.new.memory + n) (cost here) ∙ c.store_bytes_as.ensures.have
