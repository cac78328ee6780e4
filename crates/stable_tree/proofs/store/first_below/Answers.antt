use Rattle.std.proofs.Common.{length, sym, ◌∙◌, arith}
use Rattle.stable_tree.proofs.Walks.{on-inside, on-within, open-here, open-later, open-none, counted-first, counted-later}
use Rattle.stable_tree.proofs.store.first_below.Goals as goal

pub bounds-frames-slot : goal.bounds-frames-slot
bounds-frames-slot c = on-inside c.args.groups c.loop-passed._passed (length c.args.frames.now) c.args.nexts.now c.loop-passed.slot (omega arith) c.loop-passed.invariant.0

pub bounds-counts-frame : goal.bounds-counts-frame
bounds-counts-frame c = counted-first c.args.groups c.loop-passed._passed (length c.args.counts.now) c.args.nexts.now c.args.frames.now c.loop-passed.slot (omega arith) c.loop-passed.invariant.1

pub returns-then-counts-frame : goal.returns-then-counts-frame
returns-then-counts-frame c =
    sym (open-here c.args.groups c.loop-passed._passed c.args.nexts.now c.args.frames.now c.args.counts.now c.loop-passed.slot c.args.limit (omega arith) c.if-counts-frame.true) ∙ c.loop-passed.invariant.2

pub bounds-nexts-slot : goal.bounds-nexts-slot
bounds-nexts-slot c = rw c.requires.linked (on-inside c.args.groups c.loop-passed._passed (length c.args.frames.now) c.args.nexts.now c.loop-passed.slot (omega arith) c.loop-passed.invariant.0)

pub loop-passed-preserved : goal.loop-passed-preserved
loop-passed-preserved c = (
  on-within c.args.groups c.loop-passed._passed (length c.args.frames.now) c.args.nexts.now c.loop-passed.slot (omega arith) c.loop-passed.invariant.0,
  counted-later c.args.groups c.loop-passed._passed (length c.args.counts.now) c.args.nexts.now c.args.frames.now c.loop-passed.slot (omega arith) c.loop-passed.invariant.1,
  sym (open-later c.args.groups c.loop-passed._passed c.args.nexts.now c.args.frames.now c.args.counts.now c.loop-passed.slot c.args.limit (omega arith) c.if-counts-frame.false) ∙ c.loop-passed.invariant.2,
)

pub returns : goal.returns
returns c =
    sym (open-none c.args.groups c.loop-passed._passed c.args.nexts.now c.args.frames.now c.args.counts.now c.loop-passed.slot c.args.limit (omega arith)) ∙ c.loop-passed.invariant.2
