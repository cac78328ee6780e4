use Rattle.std.proofs.Common.{◌∙◌, length, ℕ, List, ap, arith}
use Rattle.std.proofs.Math.ListN.{length-set}
use Rattle.std.proofs.lemmas.List.{length-map}
use Rattle.tenant_workers.proofs.Driven.{same_on}
use Rattle.tenant_workers.proofs.Answered.{answered-more, answered-as, mapped-at}
use Rattle.tenant_workers.proofs.shared.Shared.run_all.Goals as goal

pub loop-entry_index-preserved : goal.loop-entry_index-preserved
loop-entry_index-preserved g c =
    let kept = c.loop-entry_index.invariant in
    let programs = c.args.plan.now.programs.items in
    let context = c.index.result.now.1.items in
    let run : ℕ × List ℕ = (c.index.result.now.0, context) in
    let between = c.loop-entry_index.plan.seat in
    let new = c.run_numbered-reply.new.seat in
    let reply = c.run_numbered-reply.result in
    let one = answered-as programs c.deref.result.now run.0 context c.deref-in-loop-entry_index.result.now between new reply
    (c.deref.ensures.value ∙ kept.programs) c.deref-in-loop-entry_index.ensures.value c.run_numbered-reply.ensures.reply in
    record {
      shared = kept.shared;
      programs = kept.programs;
      runs = kept.runs;
      same = same_on c.args.plan.now.seat c.loop-entry_index.plan.seat c.run_numbered-reply.new.seat kept.same c.run_numbered-reply.ensures.same;
      count = rw length-set kept.count;
      replies = answered-more programs _ c.loop-entry_index.entry_index run c.args.plan.now.seat between new c.loop-entry_index.plan.replies.items reply
          (simp length-map (omega (arith, ap length kept.runs))) (omega (arith, kept.count, ap length kept.runs))
          (mapped-at (λ run. (run.0, run.1.items)) c.loop-entry_index.plan.runs.items c.args.plan.now.runs.items c.loop-entry_index.entry_index c.index.result.now c.index.ensures kept.runs)
          kept.replies one;
    }
