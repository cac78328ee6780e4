use Rattle.std.proofs.Common.{◌≡◌, ◌∙◌, sym, List, ℕ, length, bit_or}
use Rattle.std.proofs.lemmas.Simd.{length-zip2}
use lib.Lanes.{zip2}
use Rattle.frame_arena.proofs.Vectors.{zeros-or_four, zeros-mask}
use Rattle.frame_arena.proofs.lanes.are_zeros.Goals as goal

pub returns : goal.returns
returns c =
    let left : List ℕ = zip2 bit_or c.args.first c.args.second in
    let right : List ℕ = zip2 bit_or c.args.third c.args.fourth in
    let left_long : length left ≡ 64 = length-zip2 bit_or c.args.first c.args.second (c.fits-first.0 ∙ sym c.fits-second.0) ∙ c.fits-first.0 in
    let right_long : length right ≡ 64 = length-zip2 bit_or c.args.third c.args.fourth (c.fits-third.0 ∙ sym c.fits-fourth.0) ∙ c.fits-third.0 in
    let any = zeros-mask (zip2 bit_or left right) (length-zip2 bit_or left right (left_long ∙ sym right_long) ∙ left_long) in
    let four = zeros-or_four 64 c.args.first c.args.second c.args.third c.args.fourth c.fits-first.0 c.fits-second.0 c.fits-third.0 c.fits-fourth.0 in
    (λ t. four.0 (any.0 t), λ e. any.1 (four.1 e))
