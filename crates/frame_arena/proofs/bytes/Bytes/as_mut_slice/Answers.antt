use Rattle.std.proofs.Common.{refl, sym, ◌∙◌}
use Rattle.frame_arena.specs.Offsets.{somes}
use Rattle.frame_arena.proofs.Filling.{same-values, whole-run, rewritten}
use Rattle.frame_arena.proofs.bytes.Bytes.as_mut_slice.Goals as goal

pub invariant_of-self-lent : goal.invariant_of-self-lent
invariant_of-self-lent c = λ ws.
    let old = c.self.invariant in
    let new = rewritten c.self.inside.cells.slots c.self.inside.len ws old.filled old.sized in
    record { filled = new.filled; sized = new.sized; here = old.here; freed = old.freed; whole = old.whole; owner = old.owner }

pub returns : goal.returns
returns c =
    let slots = c.self.inside.cells.slots in
    let old = c.self.invariant in
    rw (← c.self.view_is) (
      (refl, λ ws. (rewritten slots c.self.inside.len ws old.filled old.sized).values),
      record {
        writes_back = tt;
        value = same-values c.slice_mut.result.now (somes slots) (sym c.slice_mut.ensures.value ∙ whole-run slots c.self.inside.len old.filled old.sized);
      },
    )
