use Rattle.std.proofs.Common.{◌≡◌, not, is_some, true, false, ◌∙◌, sym, ap, subst}
use Rattle.std.specs.List.{list_any}
use Rattle.host_types.specs.declared.fault.Fault.TheVariants.{InUse}
use Rattle.host_types.specs.Memory.{map_at}
use Rattle.page_table.specs.State.{part}
use Rattle.host_types.specs.declared.event.Event.TheVariants.{DropMap}
use Rattle.host_core.specs.declared.reply.Reply.TheVariants.{Done, Refused}
use Rattle.host_core.specs.HostView.{TenantView, IsServed, names_in}
use Rattle.host_core.proofs.Serving.{run_is, passed_on, has_kept}
use Rattle.host_core.proofs.Leaving.{drop-busy, drop-missing, drop-in_use, drop-not_there, drop-done, kept-inside, shape-found, lent-used}
use Rattle.host_core.proofs.tenant.Tenant.drop_map.Goals as goal

pub returns-then-is_open : goal.returns-then-is_open
returns-then-is_open c =
    let busy = run_is c.args.self.now c.self.inside.programs c.self.inside.run c.is_open.result true c.self.view_is c.is_open.ensures c.if-is_open.true in
    drop-busy c.args.number c.args.map c.args.self.now c.args.memory.now busy

pub returns-then-is_none : goal.returns-then-is_none
returns-then-is_none c =
    let idle = run_is c.args.self.now c.self.inside.programs c.self.inside.run c.is_open.result false c.self.view_is c.is_open.ensures c.if-is_open.false in
    let found = map_at (part c.args.memory.now c.args.number).maps c.args.map in
    let missing : is_some found ≡ false = sym (shape-found found) ∙ ap is_some (sym c.shape.ensures.shape) ∙ c.is_none.ensures ∙ ap not c.if-is_none.true in
    drop-missing c.args.number c.args.map c.args.self.now c.args.memory.now idle missing

pub returns-then-is_used : goal.returns-then-is_used
returns-then-is_used c =
    let kept : TenantView = record { programs = c.self.inside.programs; run = c.self.inside.run } in
    let idle : is_some c.self.inside.run ≡ false = sym c.is_open.ensures ∙ c.if-is_open.false in
    let found = map_at (part c.args.memory.now c.args.number).maps c.args.map in
    let there : is_some found ≡ true = sym (shape-found found) ∙ ap is_some (sym c.shape.ensures.shape) ∙ c.is_none.ensures ∙ ap not c.if-is_none.false in
    let used : list_any (names_in c.args.map) kept.programs ≡ true = lent-used kept c.as_slice.result.now c.args.map c.as_slice.ensures c.is_used.ensures ∙ c.if-is_used.true in
    subst (λ seen. IsServed c.args.number seen c.args.memory.now (DropMap c.args.number c.args.map) (Refused InUse) seen c.args.memory.now) c.self.view_is
    (drop-in_use c.args.number c.args.map kept c.args.memory.now idle there used)

pub returns-in_err-drop_map : goal.returns-in_err-drop_map
returns-in_err-drop_map c =
    let idle = run_is c.args.self.now c.self.inside.programs c.self.inside.run c.is_open.result false c.self.view_is c.is_open.ensures c.if-is_open.false in
    let event = DropMap c.args.number c.args.map in
    let call = c.in_err-drop_map.ensures in
    let inside = kept-inside c.args.number c.args.self.now c.args.memory.now c.requires.kept in
    passed_on c.args.number c.args.self.now c.args.memory.now c.drop_map.new.self event c.in_err-drop_map.field-0.0 c.from_residual.result c.from_residual.ensures.1 call.unchanged
    (drop-not_there c.args.number c.args.map c.args.self.now c.args.memory.now idle c.in_err-drop_map.field-0.0 inside call.err)

pub returns : goal.returns
returns c =
    let kept : TenantView = record { programs = c.self.inside.programs; run = c.self.inside.run } in
    let idle : is_some c.self.inside.run ≡ false = sym c.is_open.ensures ∙ c.if-is_open.false in
    let unused : list_any (names_in c.args.map) kept.programs ≡ false = lent-used kept c.as_slice.result.now c.args.map c.as_slice.ensures c.is_used.ensures ∙ c.if-is_used.false in
    let call = c.in_ok-drop_map.ensures in
    let served = drop-done c.args.number kept c.args.memory.now c.drop_map.new.self c.args.map idle unused (record {
      there = call.there;
      taken = call.dropped;
      sharing = call.sharing;
      kept = has_kept c.args.number c.args.memory.now c.drop_map.new.self c.args.map call.other_maps call.others call.settings c.facts.ensures (c.maps_are_flat.ensures.flat c.args.number);
    }) in
    subst (λ seen. IsServed c.args.number seen c.args.memory.now (DropMap c.args.number c.args.map) Done seen c.drop_map.new.self) c.self.view_is served
