-- How many pages a value of a map touches, and how many frames its store takes.
use Rattle.std.proofs.Common.{◌≡◌, ◌∙◌, ℕ, zero, suc, ◌+◌, ◌*◌, ◌/◌, ◌%◌, ◌<◌, ◌≤◌, ◌==◌, true, false, Bool, refl, sym, ap, arith}
use Rattle.std.proofs.lemmas.Bool.Decides.{nat_tests}
use Rattle.std.proofs.lemmas.Nat.Gcd.{dvd_of_mod-eq-zero}
use Rattle.std.proofs.Math.Arith.{mod-mul}
use Rattle.std.proofs.Math.Nat.{mod-lt, div-mul_cancel, mul-mod_right, mul-le-mul_right}
use Rattle.host_types.specs.declared.shape.Shape.{Shape}
use Rattle.host_types.specs.Helpers.{element_at, update_charge}
use Rattle.host_types.specs.Shapes.{IsShape, stride_of}
use Rattle.host_types.specs.Sharing.{Sharing}
use Rattle.host_types.proofs.Elements.{value-in-stride}
use Rattle.host_types.proofs.Pins.{cost_from-few}
use Rattle.write_break.specs.Stores.{touched, store_frames, page_of_byte}
use Rattle.write_break.proofs.Stores.{touched-some, touched-one}

-- where the stride divides a page, a value lies in one
value-in-page : (stride size key : ℕ) → 1 ≤ size → size ≤ stride → 4096 % stride ≡ 0 → stride * key % 4096 + size ≤ 4096
value-in-page stride size key some small divides =
    let count : ℕ = 4096 / stride in
    let pages : count * stride ≡ 4096 = div-mul_cancel stride (dvd_of_mod-eq-zero stride divides) in
    let counted : 0 < count = positive count stride pages in
    let strides : 0 < stride = omega (arith, some, small) in
    let page_index : stride * key % (count * stride) ≡ (stride * key / stride % count) * stride + stride * key % stride = mod-mul (stride * key) counted strides in
    let element : stride * key % stride ≡ 0 = mul-mod_right stride key in
    let number : stride * key / stride % count < count = mod-lt (stride * key / stride) counted in
    let whole : suc (stride * key / stride % count) * stride ≤ count * stride = mul-le-mul_right stride number in
    let same : stride * key % 4096 ≡ stride * key % (count * stride) = ap (λ (n : ℕ). stride * key % n) (sym pages) in
    ends (stride * key % 4096) (stride * key / stride % count) stride count size (same ∙ page_index) element whole pages small
  where
    positive : (count stride : ℕ) → count * stride ≡ 4096 → 0 < count
    positive zero stride e = absurd (omega (arith, e))
    positive (suc count) stride e = omega arith

    ends : (at number stride count size : ℕ) {rest : ℕ} → at ≡ number * stride + rest → rest ≡ 0 → suc number * stride ≤ count * stride → count * stride ≡ 4096 → size ≤ stride → at + size ≤ 4096
    ends at number stride count size e none whole pages small = omega (arith, e, none, whole, pages, small)

-- a value touches as many pages as are charged at most
pub touched-charged : (shape : Shape) (key : ℕ) → IsShape shape → touched (element_at shape key) shape.value_size ≤ update_charge shape
touched-charged shape key is = by_test (4096 % stride_of shape == 0) refl
  where
    by_test : (test : Bool) → (4096 % stride_of shape == 0) ≡ test → touched (element_at shape key) shape.value_size ≤ update_charge shape
    by_test true e =
        let divides : 4096 % stride_of shape ≡ 0 = grind (arith, nat_tests) in
        let one = touched-one (element_at shape key) shape.value_size is.sized (value-in-page (stride_of shape) shape.value_size key is.sized (value-in-stride shape) divides) in
        rw (e, one) (omega arith)
    by_test false e =
        let some = touched-some (element_at shape key) shape.value_size is.sized in
        let small = is.small in
        rw (e, some) (omega (arith, small))

-- the store of a value takes what is charged for an update at most
pub cost-charged : (sharing : Sharing) (tenant m key : ℕ) (shape : Shape) → IsShape shape → store_frames sharing tenant m (element_at shape key) shape.value_size ≤ update_charge shape
cost-charged sharing tenant m key shape is =
    let few = cost_from-few sharing (page_of_byte tenant m (element_at shape key)) (touched (element_at shape key) shape.value_size) in
    let charged = touched-charged shape key is in
    omega (arith, few, charged)
