use Rattle.frame_arena.proofs.Vectors.{by_vectors}
use Rattle.frame_arena.proofs.lanes.is_same_at.Goals as goal

pub returns : goal.returns
returns c =
    let parts = by_vectors c.args.a.now c.args.b.now c.args.at c.args.at in
    let first = c.apart.ensures in
    let second = c.apart-2.ensures in
    let third = c.apart-3.ensures in
    let fourth = c.apart-4.ensures in (
      λ t. let none = c.are_zeros.ensures.0 t in parts.1 (first.0 none.0, second.0 none.1, third.0 none.2, fourth.0 none.3),
      λ e. let same = parts.0 e in c.are_zeros.ensures.1 (first.1 same.0, second.1 same.1, third.1 same.2, fourth.1 same.3),
    )
