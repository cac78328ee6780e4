use Rattle.std.proofs.Common.{◌≡◌, inr, ℕ, Bool, Option, Some, sym, subst}
use Rattle.host_core.specs.declared.reply.Reply.{Reply}
use Rattle.host_core.specs.HostView.{HostView}
use Rattle.host_handle.specs.declared.answer.Answer.TheVariants.{Replied}
use Rattle.host_handle.specs.declared.object.BpfHostObject.{BpfHostObject}
use Rattle.host_handle.specs.declared.structs.BpfHostRefused.{BpfHostRefused}
use Rattle.host_handle.specs.Codes.{call_code, new_program_number, refused_written}
use Rattle.host_handle.specs.Loading.{AnswersLoading, HasAnyMap, HasRightLengths, LoadsObject}
use Rattle.bpf_host_c.proofs.loading.bpf_host_load_object.Goals as goal

-- what happened to the host that was taken out of the handle and put back
answers : (t : ℕ) (mergeable : Bool) (object : BpfHostObject) (code program number : ℕ) (refused shown : BpfHostRefused) (last : Reply) {o n : Option HostView} {had old new : HostView} → o ≡ Some had → old ≡ had → n ≡ Some new
    → code ≡ call_code (Replied last) → number ≡ new_program_number (Replied last) program → shown ≡ refused_written (Replied last) refused → HasRightLengths object → ¬ (HasAnyMap t old) → LoadsObject t mergeable object last old new
    → AnswersLoading t mergeable object code program number refused shown o n
answers t mergeable object code program number refused shown last {o = o} {n = n} {had = had} {old = old} {new = new} is_had is_old is_new coded numbered written right none loads =
    subst (λ (before : Option HostView). AnswersLoading t mergeable object code program number refused shown before n) (sym is_had)
    (subst (λ (after : Option HostView). AnswersLoading t mergeable object code program number refused shown (Some had) after) (sym is_new)
    (inr (last, coded, numbered, written, right, subst (λ host. ¬ (HasAnyMap t host)) is_old none, subst (λ host. LoadsObject t mergeable object last host new) is_old loads)))

pub returns-in-Ok : goal.returns-in-Ok
returns-in-Ok c =
    answers c.args.tenant c.args.mergeable c.args.object.now c.code.result c.args.program.now c.write_program.new.program c.args.refused.now c.write_refused.new.refused c.in-Ok.last c.in-Some.ensures.host c.deref_mut.ensures.value c.put.ensures
    c.code.ensures c.write_program.ensures c.write_refused.ensures c.in-Ok.ensures.right c.in-Ok.ensures.none c.in-Ok.ensures.loads
