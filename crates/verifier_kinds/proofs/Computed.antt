-- What arithmetic makes of ranges: it is normal, and has each number that the machine computes.
use Rattle.std.proofs.Common.{◌≡◌, ℕ, ◌+◌, ◌-◌, ◌*◌, ◌^◌, ◌<◌, ◌&&◌, min, max, nat_lt, nat_le, ℤ, true, false, inl, inr, refl, subst, arith}
use Rattle.std.proofs.lemmas.Bool.{cond_both, cases_Bool, and_parts, ltb-true}
use Rattle.std.proofs.lemmas.Nat.{shr_le}
use Rattle.std.proofs.Math.Nat.{div-le_self}
use Rattle.bpf_decode.specs.declared.operation.Width.{Width}
use Rattle.bpf_decode.specs.declared.operation.Width.TheVariants.{Bits64}
use Rattle.bpf_decode.specs.declared.operation.AluCode.{AluCode}
use Rattle.bpf_decode.specs.declared.operation.AluCode.TheVariants.{Add, Sub, Mul, Div, Or, And, Lsh, Rsh, Neg, Mod, Xor, Mov, Arsh, ToLittleEndian, ToBigEndian, SwapBytes}
use Rattle.bpf_decode.specs.Opcodes.{is}
use Rattle.insn_alu.specs.Arithmetic.{alu, low, modulus, is_swap}
use Rattle.insn_alu.proofs.Small.{low_fits, width_small, alu_small, alu_in_width, alu_of_lows, swap_at_most, bits_small}
use Rattle.verifier_kinds.specs.declared.kind.Align.{Align}
use Rattle.verifier_kinds.specs.declared.kind.Align.TheVariants.{One}
use Rattle.verifier_kinds.specs.declared.kind.Range.{Range}
use Rattle.verifier_kinds.specs.Kinds.{factor, rank, least_align, times_power, is_constant, IsIn, IsNormal}
use Rattle.verifier_kinds.specs.Arithmetic.{all, normal_of, range_taken, unless_wrapped, swapped_range, row, computed_range, range_of}
use Rattle.verifier_kinds.proofs.Ranges.{in_constant}
use Rattle.verifier_kinds.proofs.Operands.{IsTaken, all_high, in_all, in_normal_of, normal_of_is_normal, is_taken, end_is_taken, constant_number}
use Rattle.verifier_kinds.proofs.RowLaws.{in_sum, in_difference, in_product, in_quotient, in_remainder, in_and, in_or, in_xor, in_left_shift, in_right_shift, in_move, ones_small}

-- a byte swap computes a number of the width that its second operand says
in_swap : (code : AluCode) (width : Width) (offset : ℤ) (b : Range) (x y : ℕ) → is_swap code ≡ true → (is_constant b ≡ true → b.low ≡ y) → x < 2 ^ 64 → IsIn (swapped_range b) (alu code width offset x y)
in_swap code width offset b x y swap one xs = grind (arith, cond_both, swap_at_most, in_all, alu_small)

-- two numbers of the width, and ranges of it that have them
record AreNumbers (width : Width) (a b : Range) (x y : ℕ) : Type 0 where
  left : IsIn a x
  right : IsIn b y
  left_small : x < modulus width
  right_small : y < modulus width
  left_fits : a.high < 2 ^ 64
  right_fits : b.high < 2 ^ 64
  one : is_constant b ≡ true → b.low ≡ y

in_everything : (code : AluCode) (width : Width) (offset : ℤ) (x y : ℕ) → is_swap code ≡ false → IsIn (all width One) (alu code width offset x y)
in_everything code width offset x y other = in_all width One (alu code width offset x y) (alu_in_width code width offset x y other) (omega arith)

-- the row of an operation has what the machine computes of them
in_row_of_numbers : (code : AluCode) (width : Width) (offset : ℤ) (a b : Range) (x y : ℕ) → is_swap code ≡ false → AreNumbers width a b x y → IsIn (row code width offset a b) (alu code width offset x y)
unfolding row
in_row_of_numbers Add width offset a b x y other h = in_sum width offset a b x y h.left h.right
in_row_of_numbers Sub width offset a b x y other h = in_difference width offset a b x y h.left h.right h.left_small h.right_small
in_row_of_numbers Mul width offset a b x y other h = in_product width offset a b x y h.left h.right
in_row_of_numbers Div width offset a b x y other h =
    cond_both (is offset 0) _ _ (λ r. IsIn r (alu Div width offset x y))
    (λ t. in_quotient width offset a b x y t h.left h.right h.left_small h.right_small) (λ _. in_everything Div width offset x y refl)
in_row_of_numbers Or width offset a b x y other h = in_or width offset a b x y h.left h.right h.left_small h.right_small h.left_fits h.right_fits
in_row_of_numbers And width offset a b x y other h = in_and width offset a b x y h.left h.right h.left_small h.right_small
in_row_of_numbers Lsh width offset a b x y other h = in_left_shift width offset a b x y h.left h.one
in_row_of_numbers Rsh width offset a b x y other h = in_right_shift width offset a b x y h.left h.one h.left_small
in_row_of_numbers Neg width offset a b x y other h = in_everything Neg width offset x y refl
in_row_of_numbers Mod width offset a b x y other h = grind (arith, cond_both, in_remainder, in_everything)
in_row_of_numbers Xor width offset a b x y other h = in_xor width offset a b x y h.left h.right h.left_small h.right_small h.left_fits h.right_fits
in_row_of_numbers Mov width offset a b x y other h = grind (arith, cond_both, in_move, in_everything)
in_row_of_numbers Arsh width offset a b x y other h = in_everything Arsh width offset x y refl
in_row_of_numbers ToLittleEndian width offset a b x y other h = cc
in_row_of_numbers ToBigEndian width offset a b x y other h = cc
in_row_of_numbers SwapBytes width offset a b x y other h = cc

swap_row : (code : AluCode) (width : Width) (offset : ℤ) (a b : Range) → is_swap code ≡ true → row code width offset a b ≡ swapped_range b
unfolding row
swap_row ToLittleEndian width offset a b swap = refl
swap_row ToBigEndian width offset a b swap = refl
swap_row SwapBytes width offset a b swap = refl
swap_row code width offset a b swap = cc

-- and so it is of the low bits of any numbers
in_row : (code : AluCode) (width : Width) (offset : ℤ) (a b : Range) (x y : ℕ) → IsTaken width a x → IsTaken width b y → x < 2 ^ 64 → y < 2 ^ 64 → IsIn (row code width offset a b) (alu code width offset x y)
in_row code width offset a b x y p q xs ys = elim (cases_Bool (is_swap code)) [
  | inl swap ↦ rw (swap_row code width offset a b swap) (in_swap code width offset b x y swap q.one xs)
  | inr other ↦
      let numbers : AreNumbers width a b (low width x) (low width y) = record {
        left = p.has;
        right = q.has;
        left_small = low_fits width x;
        right_small = low_fits width y;
        left_fits = width_small width a.high p.below;
        right_fits = width_small width b.high q.below;
        one = λ t. constant_number b (low width y) t q.has;
      } in
      subst (IsIn (row code width offset a b)) (alu_of_lows code width offset x y other xs ys) (in_row_of_numbers code width offset a b (low width x) (low width y) other numbers)
]

-- ---- the ends of a row are numbers of 64 bits

unless_wrapped_high : (width : Width) (from to : ℕ) (d : Align) → (unless_wrapped width from to d).high < 2 ^ 64
unless_wrapped_high width from to d = grind (arith, cond_both, nat_lt, width_small, ltb-true, all_high)

swap_high : (b : Range) → (swapped_range b).high < 2 ^ 64
swap_high b =
    cond_both (is_constant b) _ _ (λ (r : Range). r.high < 2 ^ 64) (λ _. bits_small b.low) (λ _. all_high Bits64 One)

row_high : (code : AluCode) (width : Width) (offset : ℤ) (a b : Range) → a.high < 2 ^ 64 → b.high < 2 ^ 64 → (row code width offset a b).high < 2 ^ 64
unfolding row
row_high Add width offset a b p q = unless_wrapped_high width (a.low + b.low) (a.high + b.high) (least_align a.align b.align)
row_high Sub width offset a b p q =
    cond_both (nat_le b.high a.low) _ _ (λ (r : Range). r.high < 2 ^ 64) (λ _. omega arith) (λ _. all_high width (least_align a.align b.align))
row_high Mul width offset a b p q = unless_wrapped_high width (a.low * b.low) (a.high * b.high) (times_power a.align (rank b.align))
row_high Div width offset a b p q = grind (arith, cond_both, div-le_self, all_high)
row_high Or width offset a b p q = ones_small (max a.high b.high)
row_high And width offset a b p q = omega arith
row_high Lsh width offset a b p q = grind (arith, cond_both, unless_wrapped_high, all_high)
row_high Rsh width offset a b p q = grind (arith, cond_both, shr_le)
row_high Neg width offset a b p q = all_high width One
row_high Mod width offset a b p q = grind (arith, cond_both, min, all_high)
row_high Xor width offset a b p q = ones_small (max a.high b.high)
row_high Mov width offset a b p q =
    cond_both (is offset 0) _ _ (λ (r : Range). r.high < 2 ^ 64) (λ _. q) (λ _. all_high width One)
row_high Arsh width offset a b p q = all_high width One
row_high ToLittleEndian width offset a b p q = swap_high b
row_high ToBigEndian width offset a b p q = swap_high b
row_high SwapBytes width offset a b p q = swap_high b

-- ---- what is computed is normal

-- the number that the machine computes of the lower ends
pub in_row_of_ends : (code : AluCode) (width : Width) (offset : ℤ) (a b : Range) → IsNormal a → IsNormal b → a.high < modulus width → b.high < modulus width → IsIn (row code width offset a b) (alu code width offset a.low b.low)
in_row_of_ends code width offset a b p q left right =
    let left_ordered = p.ordered in
    let right_ordered = q.ordered in
    in_row code width offset a b a.low b.low (end_is_taken width a p left) (end_is_taken width b q right)
    (width_small width a.low (omega arith)) (width_small width b.low (omega arith))

-- a range with a number is made normal without a sum past 64 bits
starts : (r : Range) (n : ℕ) → IsIn r n → r.high < 2 ^ 64 → r.low + (factor r.align - 1) < 2 ^ 64
starts r n h fits = grind (arith)

pub row_starts : (code : AluCode) (width : Width) (offset : ℤ) (a b : Range) → IsNormal a → IsNormal b → a.high < modulus width → b.high < modulus width → (row code width offset a b).low + (factor (row code width offset a b).align - 1) < 2 ^ 64
row_starts code width offset a b p q left right =
    starts (row code width offset a b) (alu code width offset a.low b.low) (in_row_of_ends code width offset a b p q left right) (row_high code width offset a b (width_small width a.high left) (width_small width b.high right))

pub row_is_normal : (code : AluCode) (width : Width) (offset : ℤ) (a b : Range) → IsNormal a → IsNormal b → a.high < modulus width → b.high < modulus width → IsNormal (normal_of (row code width offset a b))
row_is_normal code width offset a b p q left right =
    normal_of_is_normal (row code width offset a b) (alu code width offset a.low b.low) (in_row_of_ends code width offset a b p q left right) (row_high code width offset a b (width_small width a.high left) (width_small width b.high right))

-- what is computed of ranges of the width has what the machine computes of their numbers
in_computed : (code : AluCode) (width : Width) (offset : ℤ) (a b : Range) (x y : ℕ) → IsTaken width a x → IsTaken width b y → x < 2 ^ 64 → y < 2 ^ 64 → IsIn (computed_range code width offset a b) (alu code width offset x y)
in_computed code width offset a b x y p q xs ys =
    cond_both (is_constant a && is_constant b) _ _ (λ r. IsIn r (alu code width offset x y))
    (λ t.
    let ones = and_parts (is_constant a) (is_constant b) t in
    let left : a.low ≡ x = p.one ones.0 in
    let right : b.low ≡ y = q.one ones.1 in
    rw (left, right) (in_constant (alu code width offset x y)))
    (λ _. in_normal_of (row code width offset a b) (alu code width offset x y) (in_row code width offset a b x y p q xs ys))

-- what arithmetic makes of ranges has what the machine computes of their numbers
pub in_range_of : (code : AluCode) (width : Width) (offset : ℤ) (a b : Range) (x y : ℕ) → IsIn a x → IsIn b y → x < 2 ^ 64 → y < 2 ^ 64 → IsIn (range_of code width offset a b) (alu code width offset x y)
in_range_of code width offset a b x y p q xs ys =
    in_computed code width offset (range_taken width a) (range_taken width b) x y (is_taken width a x p) (is_taken width b y q) xs ys
