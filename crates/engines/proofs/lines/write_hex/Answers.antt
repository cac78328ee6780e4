use Rattle.std.proofs.Common.{◌≡◌, ◌/◌, ◌%◌, ℕ, slice_index, List, [], ◌∷◌, ◌++◌, take, get_or, ap, refl, ◌∙◌, sym, subst}
use Rattle.std.proofs.lemmas.List.{take_more, take_all}
use Rattle.std.specs.Io.KnownBytes.{Appends}
use Rattle.hex.specs.Hex.{encode_lower, encode_with, lower_digits}
use Rattle.engines.proofs.Noting.{Appends-none, Appends-join}
use Rattle.engines.proofs.lines.write_hex.Goals as goal

-- no bytes have no digits
encode-none : (t : List ℕ) → encode_with t [] ≡ []
unfolding encode_with
encode-none t = refl

-- the digits of two lists
encode-append : (t xs ys : List ℕ) → encode_with t (xs ++ ys) ≡ encode_with t xs ++ encode_with t ys
unfolding encode_with
encode-append t [] ys = refl
encode-append t (x ∷ xs) ys = ap (λ zs. slice_index t (x / 16) ∷ slice_index t (x % 16) ∷ zs) (encode-append t xs ys)

pub loop-byte-init : goal.loop-byte-init
loop-byte-init g c =
    let was = g.W.Write.contents c.args.writer.now in
    subst (Appends was was) (sym (encode-none lower_digits)) (Appends-none was)

pub loop-byte-preserved : goal.loop-byte-preserved
loop-byte-preserved g c =
    let bytes = c.args.bytes.now in
    let so_far = take c.loop-byte.byte-index bytes in
    let byte = get_or bytes c.loop-byte.byte-index 0 in
    let was = g.W.Write.contents c.args.writer.now in
    let half = g.W.Write.contents c.loop-byte.writer in
    let is = g.W.Write.contents c.write_byte.new.writer in
    subst (Appends was is)
    (sym (ap encode_lower (take_more bytes c.loop-byte.byte-index 0 c.loop-byte-test.true) ∙ encode-append lower_digits so_far (byte ∷ [])))
    (Appends-join was half is (encode_lower so_far) (encode_lower (byte ∷ [])) c.loop-byte.invariant c.in_ok-write_byte.ensures.digits)

pub returns-clause-digits : goal.returns-clause-digits
returns-clause-digits g c =
    let was = g.W.Write.contents c.args.writer.now in
    let is = g.W.Write.contents c.loop-byte.writer in
    subst (λ all. Appends was is (encode_lower all)) (take_all c.loop-byte.byte-index c.args.bytes.now c.loop-byte-test.false) c.loop-byte.invariant
