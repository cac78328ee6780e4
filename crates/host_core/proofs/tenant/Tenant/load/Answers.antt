use Rattle.std.proofs.Common.{◌≡◌, List, set, Option, Some, None, is_some, true, false, ◌∙◌, sym, ap, subst}
use Rattle.std.proofs.lemmas.Result.{err_from_is_err_and}
use Rattle.host_types.specs.declared.fault.Fault.TheVariants.{TooManyPrograms, BadContext}
use Rattle.page_table.specs.State.{part}
use Rattle.verifier.specs.Subject.{IsContextSize}
use Rattle.verifier.specs.Verified.{Accepted}
use Rattle.host_calls.specs.Programs.{IsVerdict, subject_of, subject_for}
use Rattle.host_types.specs.declared.event.Event.TheVariants.{Load}
use Rattle.host_core.specs.declared.reply.Reply.TheVariants.{Program, Refused}
use Rattle.host_core.specs.HostView.{TenantView, IsServed}
use Rattle.host_core.proofs.Serving.{kept-there}
use Rattle.host_core.proofs.Loading.{first_free_of, lent-free, load-busy, load-full, load-size, load-verdict, load-accepted}
use Rattle.host_core.proofs.tenant.Tenant.load.Goals as goal

pub returns-then-is_open : goal.returns-then-is_open
returns-then-is_open c =
    let busy : is_some c.args.self.now.run ≡ true = sym (ap (λ (kept : TenantView). is_some kept.run) c.self.view_is) ∙ sym c.is_open.ensures ∙ c.if-is_open.true in
    load-busy c.args.number c.args.self.now c.args.memory.now c.args.text.now c.args.context_size busy

pub returns-in_default : goal.returns-in_default
returns-in_default c =
    let kept : TenantView = record { programs = c.self.inside.programs; run = c.self.inside.run } in
    let idle : is_some c.self.inside.run ≡ false = sym c.is_open.ensures ∙ c.if-is_open.false in
    let full : first_free_of kept ≡ None = lent-free kept c.as_slice.result.now c.first_free.result c.as_slice.ensures c.first_free.ensures.first ∙ c.in_default.is in
    subst (λ seen. IsServed c.args.number seen c.args.memory.now (Load c.args.number c.args.text.now c.args.context_size) (Refused TooManyPrograms) seen c.args.memory.now) c.self.view_is
    (load-full c.args.number kept c.args.memory.now c.args.text.now c.args.context_size idle full)

pub returns-then-not-is_context_size : goal.returns-then-not-is_context_size
returns-then-not-is_context_size c =
    let kept : TenantView = record { programs = c.self.inside.programs; run = c.self.inside.run } in
    let idle : is_some c.self.inside.run ≡ false = sym c.is_open.ensures ∙ c.if-is_open.false in
    let room : first_free_of kept ≡ Some c.in-Some.index = lent-free kept c.as_slice.result.now c.first_free.result c.as_slice.ensures c.first_free.ensures.first ∙ c.in-Some.is in
    let odd : IsContextSize c.args.context_size → ⊥ = λ fits. let yes = c.is_context_size.ensures.1 fits in cc in
    subst (λ seen. IsServed c.args.number seen c.args.memory.now (Load c.args.number c.args.text.now c.args.context_size) (Refused BadContext) seen c.args.memory.now) c.self.view_is
    (load-size c.args.number kept c.args.memory.now c.args.text.now c.args.context_size idle c.in-Some.index room odd)

pub host_shapes-shapes-requires : goal.host_shapes-shapes-requires
host_shapes-shapes-requires c = kept-there c.args.number c.args.self.now c.args.memory.now c.requires.kept

pub returns-in_err-program : goal.returns-in_err-program
returns-in_err-program c =
    let kept : TenantView = record { programs = c.self.inside.programs; run = c.self.inside.run } in
    let idle : is_some c.self.inside.run ≡ false = sym c.is_open.ensures ∙ c.if-is_open.false in
    let room : first_free_of kept ≡ Some c.in-Some.index = lent-free kept c.as_slice.result.now c.first_free.result c.as_slice.ensures c.first_free.ensures.first ∙ c.in-Some.is in
    let fits : IsContextSize c.args.context_size = c.is_context_size.ensures.0 (c.if-not-is_context_size.false) in
    let shapes = c.as_slice-2.ensures ∙ c.host_shapes-shapes.ensures.shapes in
    let verdict : IsVerdict (subject_of (part c.args.memory.now c.args.number) c.args.text.now c.args.context_size) c.in_err-program.field-0.0 =
    subst (λ listed. IsVerdict (subject_for listed c.args.text.now c.args.context_size) c.in_err-program.field-0.0) shapes c.in_err-program.ensures.refused in
    let served = load-verdict c.args.number kept c.args.memory.now c.args.text.now c.args.context_size idle c.in-Some.index room fits c.in_err-program.field-0.0 verdict in
    let refused = subst (λ seen. IsServed c.args.number seen c.args.memory.now (Load c.args.number c.args.text.now c.args.context_size) (Refused c.in_err-program.field-0.0) seen c.args.memory.now) c.self.view_is served in
    let p = err_from_is_err_and c.from_residual.result c.from_residual.ensures.1 in
    rw (p.1, p.2) refused

pub returns : goal.returns
returns c =
    let with : List (Option Accepted) → TenantView = λ programs. record { programs = programs; run = c.self.inside.run } in
    let kept : TenantView = with c.self.inside.programs in
    let idle : is_some c.self.inside.run ≡ false = sym c.is_open.ensures ∙ c.if-is_open.false in
    let room : first_free_of kept ≡ Some c.in-Some.index = lent-free kept c.as_slice.result.now c.first_free.result c.as_slice.ensures c.first_free.ensures.first ∙ c.in-Some.is in
    let fits : IsContextSize c.args.context_size = c.is_context_size.ensures.0 (c.if-not-is_context_size.false) in
    let event = Load c.args.number c.args.text.now c.args.context_size in
    let shapes = c.as_slice-2.ensures ∙ c.host_shapes-shapes.ensures.shapes in
    let v = c.in_ok-program.program in
    let is : v.subject ≡ subject_of (part c.args.memory.now c.args.number) c.args.text.now c.args.context_size =
    c.in_ok-program.ensures.subject ∙ ap (λ listed. subject_for listed c.args.text.now c.args.context_size) shapes in
    let served = load-accepted c.args.number kept c.args.memory.now c.args.text.now c.args.context_size idle c.in-Some.index room fits v is c.in_ok-program.ensures.well_formed c.in_ok-program.ensures.verified c.facts.ensures in
    subst (λ seen. IsServed c.args.number seen c.args.memory.now event (Program c.in-Some.index) (with (set kept.programs c.in-Some.index (Some v))) c.args.memory.now) c.self.view_is served
