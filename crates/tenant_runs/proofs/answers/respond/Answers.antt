use Rattle.std.proofs.Common.{◌≡◌, ◌≤◌, ◌+◌, ◌*◌, ℕ, [], Some, option_map, unwrap_or, refl, sym, ap, subst, ◌∙◌, arith}
use Rattle.host_types.specs.Memory.{map_at}
use Rattle.host_types.specs.Bytes.{part_of}
use Rattle.host_types.specs.Sharing.{Sharing}
use Rattle.host_types.specs.Tenant.{TenantPart}
use Rattle.page_table.specs.Changes.{pages_of_map}
use Rattle.page_table.specs.State.{part, have_of}
use Rattle.interp.specs.Needs.{map_of, answer_of, maps_after}
use Rattle.interp.specs.StandsFor.{Running, StandsFor, answered, value_of}
use Rattle.admission.specs.Reserve.{needed_from}
use Rattle.tenant_runs.specs.UnderWay.{part_with_have}
use Rattle.tenant_runs.proofs.Pinning.{fulfilled_pays, fulfilled_room, pages_after}
use Rattle.tenant_runs.proofs.Roomy.{answered_slot, unvalued}
use Rattle.tenant_runs.proofs.answers.respond.Goals as goal
use Rattle.tenant_runs.proofs.answers.respond.Goals.{in-Update, in_default}

pub fulfil-number-requires-clause-room : goal.fulfil-number-requires-clause-room
fulfil-number-requires-clause-room c =
    let (v, s, asking) = c.requires.asks in
    let flat = c.maps_are_flat.ensures.flat c.args.tenant asking.eight in
    fulfilled_room v s c.args.need c.args.run.now c.args.memory.now c.args.tenant [] c.facts.ensures flat asking

pub returns-clause-slot : goal.returns-clause-slot
returns-clause-slot c = ap (λ (one : Running). one.slot) c.answer.ensures ∙ answered_slot c.args.run.now.awaited c.args.run.now c.fulfil-number.result

pub returns-clause-goes_on : goal.returns-clause-goes_on
returns-clause-goes_on c v s asking =
    let need = c.args.need in
    let run = c.args.run.now in
    let t = c.args.tenant in
    let old = c.args.memory.now in
    let owned = part old t in
    let later = part c.fulfil-number.new.memory t in
    let asks = asking.asks in
    let found : map_at owned.maps (map_of need) ≡ Some asks.flat = ap (λ maps. map_at maps (map_of need)) asking.maps ∙ asks.there in
    let number : c.fulfil-number.result ≡ answer_of need asks.flat = c.fulfil-number.ensures.answer ∙ ap (λ flat. unwrap_or (option_map (answer_of need) flat) 0) found in
    let valued : maps_after need c.match-need.value.now owned.maps ≡ maps_after need (value_of run) owned.maps = elim c.match-need.branch [
      | in-Update w ↦ rw (w.value-is, w.value-value.ensures) refl
      | in_default w ↦ unvalued need c.match-need.value.now (value_of run) owned.maps w.in_default.not-Update
    ] in
    let maps : later.maps ≡ asks.next.memory.maps =
    ap (λ (one : TenantPart). one.maps) c.fulfil-number.ensures.part ∙ valued ∙ ap (maps_after need (value_of run)) asking.maps ∙ sym asks.maps in
    let slot : c.answer.new.self.slot ≡ run.slot = ap (λ (one : Running). one.slot) c.answer.ensures ∙ answered_slot run.awaited run c.fulfil-number.result in
    let flat = c.maps_are_flat.ensures.flat t asking.eight in
    let pins = ap (λ (one : TenantPart). one.pins) c.fulfil-number.ensures.part ∙ ap (λ (sharing : Sharing). part_of sharing.pins (t * 2048) 2048) c.fulfil-number.ensures.sharing in
    let pages : (k : ℕ) → pages_of_map later k ≡ pages_of_map owned k =
    λ k. ap (λ (one : TenantPart). pages_of_map one k) c.fulfil-number.ensures.part ∙ pages_after need c.match-need.value.now owned.maps k in
    let pays = fulfilled_pays v s need run old t later c.facts.ensures flat asking pins pages in
    let enough : needed_from v owned s.slot ≤ have_of old + owned.reserve = asking.reserve in
    let have = c.fulfil-number.ensures.have in
    let left : needed_from v later run.slot ≤ have_of c.fulfil-number.new.memory + later.reserve = omega (arith, pays, enough, have) in (
      asks.next,
      asks.makes,
      record {
        stands = subst (λ one. StandsFor v one asks.next) (sym (c.answer.ensures ∙ ap (answered run) number)) asks.stands;
        maps = maps;
        running = ap (λ (one : TenantPart). one.running) c.fulfil-number.ensures.part ∙ asking.running;
        reserve = subst (λ k. needed_from v (part_with_have c.fulfil-number.new.memory t) k ≤ have_of c.fulfil-number.new.memory + later.reserve) (sym slot) left;
      },
    )

pub returns-clause-less : goal.returns-clause-less
returns-clause-less c v s asking =
    let run = c.args.run.now in
    let t = c.args.tenant in
    let old = c.args.memory.now in
    let owned = part old t in
    let later = part c.fulfil-number.new.memory t in
    let flat = c.maps_are_flat.ensures.flat t asking.eight in
    let pins = ap (λ (one : TenantPart). one.pins) c.fulfil-number.ensures.part ∙ ap (λ (sharing : Sharing). part_of sharing.pins (t * 2048) 2048) c.fulfil-number.ensures.sharing in
    let pages : (k : ℕ) → pages_of_map later k ≡ pages_of_map owned k =
    λ k. ap (λ (one : TenantPart). pages_of_map one k) c.fulfil-number.ensures.part ∙ pages_after c.args.need c.match-need.value.now owned.maps k in
    let pays = fulfilled_pays v s c.args.need run old t later c.facts.ensures flat asking pins pages in
    let slot : c.answer.new.self.slot ≡ run.slot = ap (λ (one : Running). one.slot) c.answer.ensures ∙ answered_slot run.awaited run c.fulfil-number.result in
    subst (λ k. needed_from v later k ≤ needed_from v owned s.slot) (sym slot) (omega (arith, pays))
