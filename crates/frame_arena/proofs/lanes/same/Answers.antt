use Rattle.std.proofs.lemmas.Slice.Eq.{slice_eq-Decides}
use Rattle.std.proofs.lemmas.Bool.Decides.{Decides-eqb}
use Rattle.frame_arena.proofs.Vectors.{same_by_rest}
use Rattle.frame_arena.proofs.lanes.same.Goals as goal

pub returns : goal.returns
returns c =
    let rest = slice_eq-Decides Decides-eqb _ _ _ c.eq.ensures in
    let whole = same_by_rest c.args.a.now c.args.b.now c.alike-at.result c.alike-at.ensures.alike in
    (λ t. whole.0 (rest.0 t), λ e. rest.1 (whole.1 e))
