use Rattle.std.proofs.Common.{◌++◌, drop, length, replicate, None, subst, sym}
use Rattle.verifier.specs.Verified.{HasShapes}
use Rattle.verifier.proofs.Shapes.{padded_shapes, written_over}
use Rattle.verifier.proofs.candidate.Candidate.new.Goals as goal

pub invariant_of-result : goal.invariant_of-result
invariant_of-result c =
    let given = c.args.shapes.now in
    let padded : HasShapes (given ++ drop (length given) (replicate 8 None)) = subst HasShapes (sym (written_over given)) (padded_shapes given c.requires.shapes) in
    record {
      text = c.slots-well_formed.ensures.well_formed;
      shapes = subst (λ part. HasShapes (part ++ drop (length given) (replicate 8 None))) (sym c.copy_from_slice.ensures.after) padded;
      context = c.requires.context;
    }
