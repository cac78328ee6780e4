use Rattle.std.proofs.Common.{◌≡◌, ℕ, ◌+◌, ◌-◌, ◌<◌, length, All, refl, sym, subst, ◌∙◌, arith}
use Rattle.stable_tree.specs.Slots.{walk, end}
use Rattle.stable_tree.proofs.Walks.{end-none, end-step, within-first, within-step}
use Rattle.stable_tree.proofs.store.last_of.Goals as goal

pub loop-passed-init : goal.loop-passed-init
loop-passed-init c =
    let e : c.args.groups - 1 + 1 ≡ c.args.groups = omega arith in
    (refl, subst (λ (n : ℕ). All (λ slot. slot < length c.args.nexts.now) (walk n c.args.nexts.now c.args.at)) (sym e) c.requires.within)

pub bounds-nexts-last : goal.bounds-nexts-last
bounds-nexts-last c = within-first (c.args.groups - c.loop-passed._passed) (length c.args.nexts.now) c.args.nexts.now c.loop-passed.last c.loop-passed.invariant.1

pub loop-passed-preserved : goal.loop-passed-preserved
loop-passed-preserved c = (
  sym (end-step c.args.groups c.loop-passed._passed c.args.nexts.now c.loop-passed.last (omega arith)) ∙ c.loop-passed.invariant.0,
  within-step c.args.groups c.loop-passed._passed (length c.args.nexts.now) c.args.nexts.now c.loop-passed.last (omega arith) c.loop-passed.invariant.1,
)

pub returns : goal.returns
returns c =
    let e : c.args.groups - c.loop-passed._passed ≡ 0 = omega arith in
    sym (subst (λ (n : ℕ). end n c.args.nexts.now c.loop-passed.last ≡ c.loop-passed.last) (sym e) (end-none c.args.nexts.now c.loop-passed.last)) ∙ c.loop-passed.invariant.0
