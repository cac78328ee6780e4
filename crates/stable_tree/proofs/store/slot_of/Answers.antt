use Rattle.std.proofs.Common.{◌≡◌, ℕ, ◌-◌, ◌<◌, ◌≤◌, length, slice_index_or, ⊎_elim, sym, ap, ◌∙◌, arith}
use Rattle.std.proofs.lemmas.Bool.{cases_lt}
use Rattle.std.proofs.lemmas.List.{get_or-map, length-map}
use Rattle.stable_tree.specs.Slots.{walk}
use Rattle.stable_tree.proofs.Walks.{length-walk, on-inside, on-within, ahead-first, ahead-next}
use Rattle.stable_tree.proofs.store.slot_of.Goals as goal

pub bounds-frames-slot : goal.bounds-frames-slot
bounds-frames-slot c = on-inside c.args.groups c.loop-passed.passed (length c.args.frames.now) c.args.nexts.now c.loop-passed.slot (omega arith) c.loop-passed.invariant.0

pub bounds-nexts-slot : goal.bounds-nexts-slot
bounds-nexts-slot c = rw c.requires.linked (on-inside c.args.groups c.loop-passed.passed (length c.args.frames.now) c.args.nexts.now c.loop-passed.slot (omega arith) c.loop-passed.invariant.0)

pub returns-then-frames-slot : goal.returns-then-frames-slot
returns-then-frames-slot c =
    let long = length-walk c.args.groups c.args.nexts.now c.args.at in
    let e : c.args.groups - 1 - (c.args.groups - 1 - c.loop-passed.passed) ≡ c.loop-passed.passed = omega arith in
    record {
      inside = omega (arith, long);
      slot_is = rw (long, e) (sym (ahead-first c.args.groups c.loop-passed.passed c.args.nexts.now c.args.at c.loop-passed.slot (omega arith) c.loop-passed.invariant.1));
      frame_is = c.if-frames-slot.true;
    }

pub loop-passed-preserved : goal.loop-passed-preserved
loop-passed-preserved c =
    let kept = c.loop-passed.invariant in (
      on-within c.args.groups c.loop-passed.passed (length c.args.frames.now) c.args.nexts.now c.loop-passed.slot (omega arith) kept.0,
      ahead-next c.args.groups c.loop-passed.passed c.args.nexts.now c.args.at c.loop-passed.slot (omega arith) kept.1,
      λ i less.
          ⊎_elim
          (λ (before : i < c.loop-passed.passed). kept.2 i before)
          (λ (ge : c.loop-passed.passed ≤ i).
          let same : i ≡ c.loop-passed.passed = omega (arith, less, ge) in
          let here = ahead-first c.args.groups c.loop-passed.passed c.args.nexts.now c.args.at c.loop-passed.slot (omega arith) kept.1 in
          let at : slice_index_or (walk c.args.groups c.args.nexts.now c.args.at) i 0 ≡ c.loop-passed.slot = ap (λ (n : ℕ). slice_index_or (walk c.args.groups c.args.nexts.now c.args.at) n 0) same ∙ here in
          rw at c.if-frames-slot.false)
          (cases_lt i c.loop-passed.passed),
    )

pub returns : goal.returns
returns c i d less =
    let long = length-walk c.args.groups c.args.nexts.now c.args.at in
    let size = length-map (walk c.args.groups c.args.nexts.now c.args.at) (λ (slot : ℕ). slice_index_or c.args.frames.now slot 0) in
    let e = get_or-map (λ (slot : ℕ). slice_index_or c.args.frames.now slot 0) (walk c.args.groups c.args.nexts.now c.args.at) i 0 d (omega (arith, less, size)) in
    rw e (c.loop-passed.invariant.2 i (omega (arith, less, size, long)))
