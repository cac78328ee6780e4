use Rattle.std.proofs.Common.{◌≡◌, ◌+◌, ◌*◌, ◌∙◌, ℕ, List, Bool, true, false, if◌then◌else◌, sym, inl, inr, refl, arith}
use Rattle.host_types.specs.Pins.{unpinned_from, unpinned_in}
use Rattle.page_table.specs.Changes.{pages_of_map}
use Rattle.page_table.specs.State.{part}
use Rattle.verifier.specs.Writes.{writes_from}
use Rattle.admission.proofs.Counting.{unpinned_none, unpinned_next, unpinned_grows, unpinned_small}
use Rattle.admission.proofs.need.capped.Goals as goal
use Rattle.admission.proofs.need.capped.Goals.{then-writes+else-pages-total, else-writes}

pub loop-map-init : goal.loop-map-init
loop-map-init c =
    let owned = part c.args.memory.now c.args.tenant in
    record {
      sum = unpinned_none (writes_from c.args.program.now c.args.slot) (pages_of_map owned) owned.pins;
      few = omega arith;
      below = inl refl;
    }

-- a map that may be written adds its pages
added : (writes : ℕ → Bool) (pages : ℕ → ℕ) (pins : List Bool) (m sum here : ℕ) → writes m ≡ true → sum ≡ unpinned_in writes pages pins 0 m → here ≡ unpinned_from pins (m * 256) (pages m)
    → sum + here ≡ unpinned_in writes pages pins 0 (m + 1)
added writes pages pins m sum here is before counted = unpinned_next writes pages pins m sum here before (rw is counted)

-- another adds none
skipped : (writes : ℕ → Bool) (pages : ℕ → ℕ) (pins : List Bool) (m sum : ℕ) → writes m ≡ false → sum ≡ unpinned_in writes pages pins 0 m → sum ≡ unpinned_in writes pages pins 0 (m + 1)
skipped writes pages pins m sum is before =
    let none : 0 ≡ (if writes m then unpinned_from pins (m * 256) (pages m) else 0) = rw is refl in
    let same : sum ≡ sum + 0 = omega arith in
    same ∙ unpinned_next writes pages pins m sum 0 before none

pub overflow_add-pages : goal.overflow_add-pages
overflow_add-pages c =
    let owned = part c.args.memory.now c.args.tenant in
    let small = unpinned_small c.args.memory.now c.args.tenant (c.loop-map.map * 256) (pages_of_map owned c.loop-map.map) in
    omega (arith, small, c.unpinned-pages.ensures, c.loop-map.invariant.few, c.loop-map-test.true)

-- the maps that were looked at have as many pages, so all have
pub returns-then-pages-total : goal.returns-then-pages-total
returns-then-pages-total c =
    let owned = part c.args.memory.now c.args.tenant in
    let writes = writes_from c.args.program.now c.args.slot in
    let sum = added writes (pages_of_map owned) owned.pins c.loop-map.map c.loop-map.pages c.unpinned-pages.result (sym c.writes.ensures ∙ c.if-writes.true) c.loop-map.invariant.sum c.unpinned-pages.ensures in
    let all = unpinned_grows writes (pages_of_map owned) owned.pins (c.loop-map.map + 1) 8 (omega (arith, c.loop-map-test.true)) in
    omega (arith, sum, all, c.if-pages-total.true)

pub loop-map-preserved : goal.loop-map-preserved
loop-map-preserved c =
    let owned = part c.args.memory.now c.args.tenant in
    let writes = writes_from c.args.program.now c.args.slot in
    elim c.if-writes.branch [
      | then-writes+else-pages-total w ↦
          let small = unpinned_small c.args.memory.now c.args.tenant (c.loop-map.map * 256) (pages_of_map owned c.loop-map.map) in
          record {
            sum = w.pages-is ∙ added writes (pages_of_map owned) owned.pins c.loop-map.map c.loop-map.pages w.unpinned-pages.result (sym c.writes.ensures ∙ w.if-writes.true) c.loop-map.invariant.sum w.unpinned-pages.ensures;
            few = omega (arith, w.pages-is, small, w.unpinned-pages.ensures, c.loop-map.invariant.few);
            below = inr (omega (arith, w.pages-is, w.if-pages-total.false));
          }
      | else-writes w ↦
          record {
            sum = w.pages-is ∙ skipped writes (pages_of_map owned) owned.pins c.loop-map.map c.loop-map.pages (sym c.writes.ensures ∙ w.if-writes.false) c.loop-map.invariant.sum;
            few = omega (arith, w.pages-is, c.loop-map.invariant.few);
            below = rw w.pages-is c.loop-map.invariant.below;
          }
    ]
