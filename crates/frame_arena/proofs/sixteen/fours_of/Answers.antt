use Rattle.std.proofs.Common.{[], ◌∷◌}
use Rattle.std.proofs.lemmas.Simd.{dot4_Fits}
use Rattle.frame_arena.proofs.Fingerprints.{lanes-digit_pairs}
use Rattle.frame_arena.proofs.sixteen.fours_of.Goals as goal

pub dot4-high : goal.dot4-high
dot4-high c = (dot4_Fits c.args.bytes (31 ∷ 1 ∷ 0 ∷ 0 ∷ 31 ∷ 1 ∷ 0 ∷ 0 ∷ 31 ∷ 1 ∷ 0 ∷ 0 ∷ 31 ∷ 1 ∷ 0 ∷ 0 ∷ []) c.fits-bytes.1 tt, tt)

pub dot4-low : goal.dot4-low
dot4-low c = (dot4_Fits c.args.bytes (0 ∷ 0 ∷ 31 ∷ 1 ∷ 0 ∷ 0 ∷ 31 ∷ 1 ∷ 0 ∷ 0 ∷ 31 ∷ 1 ∷ 0 ∷ 0 ∷ 31 ∷ 1 ∷ []) c.fits-bytes.1 tt, tt)

pub returns : goal.returns
returns c = lanes-digit_pairs 4 c.args.bytes c.fits-bytes.0 c.fits-bytes.1
