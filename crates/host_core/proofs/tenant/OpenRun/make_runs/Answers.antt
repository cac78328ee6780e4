use Rattle.std.proofs.Common.{◌≡◌, ℕ, ◌+◌, ◌-◌, ◌*◌, ◌<◌, take, drop, List, Option, None, Some, Result, Ok, Err, length, slice_index_or, refl, sym, ◌∙◌, subst, rules, arith}
use Rattle.std.proofs.lemmas.List.{length-set}
use Rattle.host_types.specs.declared.fault.Fault.{Fault}
use Rattle.verifier.specs.Verified.{Accepted}
use Rattle.host_core.specs.declared.reply.Reply.TheVariants.{Ended}
use Rattle.host_core.specs.Many.{context_at}
use Rattle.host_core.specs.WholeRuns.{IsReady, HasComeTo, idle_tenant}
use Rattle.host_core.proofs.Sequences.{between_ends, later_kept}
use Rattle.host_core.proofs.WholeRuns.{kept-ran, first-none, first-next}
use Rattle.host_core.proofs.tenant.OpenRun.make_runs.Goals as goal
use Rattle.host_core.proofs.tenant.OpenRun.make_runs.Goals.{In-loop-index, After-make_run}

-- the tenant has no open run before the next one
here_rests : (c : In-loop-index) (programs : List (Option Accepted)) → IsReady programs c.args.self.now.program c.args.program.now c.args.number c.args.memory.now
    → IsReady programs c.loop-index.self.program c.args.program.now c.args.number c.loop-index.memory
here_rests c programs rests = record {
  found = subst (λ k. slice_index_or programs k None ≡ Some c.args.program.now) (sym c.loop-index.invariant.program) rests.found;
  kept = c.loop-index.invariant.rests programs rests;
}

-- what the next run came to
came_to : (c : After-make_run) (programs : List (Option Accepted)) → IsReady programs c.args.self.now.program c.args.program.now c.args.number c.args.memory.now
    → (result : Result (Option ℕ) Fault) → c.make_run.result ≡ result
    → HasComeTo programs c.args.number c.args.self.now.program (context_at c.args.contexts.now c.args.size c.loop-index.index) c.loop-index.memory result c.make_run.new.self c.make_run.new.memory
came_to c programs rests result is =
    let at = (goal.at.After-make_run c).In-loop-index in
    let start = c.loop-index.index * c.args.size in
    subst (λ r. HasComeTo programs c.args.number c.args.self.now.program (context_at c.args.contexts.now c.args.size c.loop-index.index) c.loop-index.memory r c.make_run.new.self c.make_run.new.memory) is
    (subst (λ context. HasComeTo programs c.args.number c.args.self.now.program context c.loop-index.memory c.make_run.result c.make_run.new.self c.make_run.new.memory) (between_ends c.args.contexts.now start c.args.size)
    (subst (λ k. HasComeTo programs c.args.number k (take (start + c.args.size - start) (drop start c.args.contexts.now)) c.loop-index.memory c.make_run.result c.make_run.new.self c.make_run.new.memory) c.loop-index.invariant.program
    (c.make_run.ensures.made programs (here_rests at programs rests))))

pub loop-index-init : goal.loop-index-init
loop-index-init c = record {
  program = refl;
  further = omega arith;
  long = refl;
  others = refl;
  rests = λ programs rests. rests.kept;
  runs = λ programs rests. first-none programs c.args.number c.args.self.now.program c.args.contexts.now c.args.size c.args.rets.now c.args.from c.args.memory.now;
}

pub make_run-requires : goal.make_run-requires
make_run-requires c =
    let (programs, rests) = c.requires.rests in
    record { rests = (programs, here_rests (goal.at.make_run-requires c).In-loop-index programs rests) }

pub loop-index-preserved : goal.loop-index-preserved
loop-index-preserved c =
    let at = (goal.at.loop-index-preserved c).After-make_run in
    let written = c.loop-index.rets in
    let within : c.loop-index.index < length written = omega (arith, c.loop-index-test.true, c.loop-index.invariant.long) in
    let k = c.args.self.now.program in
    let is : c.make_run.result ≡ Ok (Some c.in-Ok-Some.ret) = search rules in
    record {
      program = c.make_run.ensures.program ∙ c.loop-index.invariant.program;
      further = omega (arith, c.loop-index.invariant.further);
      long = length-set written c.loop-index.index c.in-Ok-Some.ret ∙ c.loop-index.invariant.long;
      others = later_kept written c.args.rets.now c.loop-index.index c.in-Ok-Some.ret c.loop-index.invariant.others;
      rests = λ programs rests.
          kept-ran c.args.number k (context_at c.args.contexts.now c.args.size c.loop-index.index) (idle_tenant programs) (idle_tenant programs) c.loop-index.memory c.make_run.new.memory (Ended c.in-Ok-Some.ret c.make_run.new.self.run.steps)
          (came_to at programs rests (Ok (Some c.in-Ok-Some.ret)) is) (c.loop-index.invariant.rests programs rests);
      runs = λ programs rests.
          first-next programs c.args.number k c.args.contexts.now c.args.size c.args.rets.now c.args.from c.args.memory.now written c.loop-index.index c.loop-index.memory (c.loop-index.invariant.runs programs rests)
          c.in-Ok-Some.ret c.make_run.new.self.run.steps c.make_run.new.memory within (came_to at programs rests (Ok (Some c.in-Ok-Some.ret)) is);
    }

pub returns : goal.returns
returns c = record {
  made = λ programs rests.
      record {
        n = c.loop-index.index;
        between = c.loop-index.memory;
        further = c.loop-index.invariant.further;
        long = c.loop-index.invariant.long;
        others = c.loop-index.invariant.others;
        runs = c.loop-index.invariant.runs programs rests;
        last = (omega (arith, c.loop-index.auto.index-end, c.loop-index-test.false), refl);
      };
}

pub returns-in-Ok-None : goal.returns-in-Ok-None
returns-in-Ok-None c = record {
  made = λ programs rests.
      let at = (goal.at.returns-in-Ok-None c).After-make_run in
      let is : c.make_run.result ≡ Ok None = search rules in
      record {
        n = c.loop-index.index;
        between = c.loop-index.memory;
        further = c.loop-index.invariant.further;
        long = c.loop-index.invariant.long;
        others = c.loop-index.invariant.others;
        runs = c.loop-index.invariant.runs programs rests;
        last = (refl, c.loop-index-test.true, came_to at programs rests (Ok None) is);
      };
}

pub returns-in-Err : goal.returns-in-Err
returns-in-Err c = record {
  made = λ programs rests.
      let at = (goal.at.returns-in-Err c).After-make_run in
      record {
        n = c.loop-index.index;
        between = c.loop-index.memory;
        further = c.loop-index.invariant.further;
        long = c.loop-index.invariant.long;
        others = c.loop-index.invariant.others;
        runs = c.loop-index.invariant.runs programs rests;
        last = (refl, c.loop-index-test.true, came_to at programs rests (Err c.in-Err.fault) c.in-Err.is);
      };
}
