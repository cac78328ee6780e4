-- Pointers that a constant moves.
use Rattle.std.proofs.Common.{◌≡◌, ℕ, suc, ◌+◌, ◌-◌, ◌%◌, ◌<◌, ◌≤◌, ◌^◌, ℤ, pos, negsuc, ◌+ℤ◌, ◌≤ℤ◌, ◌<ℤ◌, ◌⊎◌, inl, inr, ◌∙◌, true, false, Ok, Err, FitsSigned, ap, arith}
use Rattle.std.specs.Prelude.{int_le, ◌-ℤ◌}
use Rattle.std.specs.Int.{cast_signed, w64}
use Rattle.std.proofs.lemmas.Int.{ints, to_z_pos}
use Rattle.std.proofs.Math.Facts.{to_z-neg}
use Rattle.std.proofs.lemmas.Bool.{cond-true, cond-false, and_left, and_right, and_parts, cases_Bool, cases_lt}
use Rattle.verifier_kinds.specs.declared.kind.Range.{Range}
use Rattle.verifier_kinds.specs.declared.kind.Kind.{Kind}
use Rattle.verifier_kinds.specs.Kinds.{IsOffset, is_constant}
use Rattle.verifier_kinds.specs.Arithmetic.{moved_forward, moved_back, within_offsets}

-- a test on whole numbers says their order
pub int_le_true : (a b : ℤ) → a ≤ℤ b → int_le a b ≡ true
int_le_true a b h = grind (arith, ints)

pub int_le_false : (a b : ℤ) → b <ℤ a → int_le a b ≡ false
int_le_false a b h = grind (arith, ints)

pub true_int_le : (a b : ℤ) → int_le a b ≡ true → a ≤ℤ b
true_int_le a b t = grind (arith, ints)

-- an offset that a pointer may not have is refused
pub offset_refused : (kind : ℤ → Kind) (rule : ℕ) (k : ℤ) → (k <ℤ negsuc 65535) ⊎ (pos 65536 <ℤ k) → within_offsets kind rule k ≡ Err rule
offset_refused kind rule k (inl h) =
    cond-false _ (Ok (kind k)) (Err rule) (and_left (int_le (negsuc 65535) k) (int_le k (pos 65536)) (int_le_false _ _ h))
offset_refused kind rule k (inr h) =
    cond-false _ (Ok (kind k)) (Err rule) (and_right (int_le (negsuc 65535) k) (int_le k (pos 65536)) (int_le_false _ _ h))

-- what doesn't fit 64 bits is no such offset
pub far_away : (z : ℤ) → (FitsSigned w64 z → ⊥) → (z <ℤ negsuc 65535) ⊎ (pos 65536 <ℤ z)
far_away (pos n) h = grind (arith, cases_lt, inl, inr, ints)
far_away (negsuc n) h = grind (arith, cases_lt, inl, inr, ints)

-- a move by a constant
pub moved_by_constant : (kind : ℤ → Kind) (rule : ℕ) (offset : ℤ) (by : Range) → is_constant by ≡ true → moved_forward kind rule offset by ≡ within_offsets kind rule (offset +ℤ cast_signed w64 by.low)
moved_by_constant kind rule offset by one = cond-true (is_constant by) _ _ one

pub moved_back_by_constant : (kind : ℤ → Kind) (rule : ℕ) (offset : ℤ) (by : Range) → is_constant by ≡ true → moved_back kind rule offset by ≡ within_offsets kind rule (offset -ℤ cast_signed w64 by.low)
moved_back_by_constant kind rule offset by one = cond-true (is_constant by) _ _ one

-- what is kept is an offset that a pointer may have
kept_is_offset : (kind : ℤ → Kind) (rule : ℕ) (k : ℤ) (result : Kind) → within_offsets kind rule k ≡ Ok result → (result ≡ kind k) × IsOffset k
kept_is_offset kind rule k result e = grind (arith, cases_Bool, negsuc, pos, inl, and_parts, cond-true, true_int_le, inr, cond-false)

-- a pointer moves by a constant alone, to an offset that a pointer may have
pub moved_is : (kind : ℤ → Kind) (rule : ℕ) (offset : ℤ) (by : Range) (result : Kind) → moved_forward kind rule offset by ≡ Ok result → (is_constant by ≡ true) × (result ≡ kind (offset +ℤ cast_signed w64 by.low)) × IsOffset (offset +ℤ cast_signed w64 by.low)
moved_is kind rule offset by result e = grind (arith, cases_Bool, inl, kept_is_offset, moved_by_constant, inr, cond-false)

pub moved_back_is : (kind : ℤ → Kind) (rule : ℕ) (offset : ℤ) (by : Range) (result : Kind) → moved_back kind rule offset by ≡ Ok result → (is_constant by ≡ true) × (result ≡ kind (offset -ℤ cast_signed w64 by.low)) × IsOffset (offset -ℤ cast_signed w64 by.low)
moved_back_is kind rule offset by result e = grind (arith, cases_Bool, inl, kept_is_offset, moved_back_by_constant, inr, cond-false)

-- moving an address up by a number below 2^63, and down by one that lacks k + 1 to 2^64
moved_up : (base : ℕ) (offset : ℤ) (n y : ℕ) → 65536 ≤ base → base < 2 ^ 63 → pos n ≡ pos base +ℤ offset → IsOffset (offset +ℤ pos y) → pos ((n + y) % 2 ^ 64) ≡ pos base +ℤ (offset +ℤ pos y)
moved_up base offset n y low high is h = grind (arith, ints)

moved_down : (base : ℕ) (offset : ℤ) (n y k : ℕ) → 65536 ≤ base → base < 2 ^ 63 → pos n ≡ pos base +ℤ offset → k + 1 + y ≡ 2 ^ 64 → k < 2 ^ 63 → IsOffset (offset +ℤ negsuc k) → pos ((n + y) % 2 ^ 64) ≡ pos base +ℤ (offset +ℤ negsuc k)
moved_down base offset n y k low high is whole small h = grind (arith, ints)

-- a number of 64 bits that is 2^63 or more stands for one below zero
number_below_zero : (y : ℕ) → y < 2 ^ 64 → 2 ^ 63 ≤ y → (k : ℕ) × (k + 1 + y ≡ 2 ^ 64) × (k < 2 ^ 63) × (cast_signed w64 y ≡ negsuc k)
number_below_zero y fits more =
    let k : ℕ = 2 ^ 64 - suc y in
    let small : k < 2 ^ 63 = omega arith in
    let same : y ≡ 2 ^ 64 - suc k = omega arith in
    (k, omega arith, small, ap (λ n. cast_signed w64 n) same ∙ to_z-neg w64 k small)

-- Moving an address is adding a number modulo 2^64, of which 2^63 or more stands for itself less 2^64:
-- the regions of memory are far from both ends of the addresses.
pub moved_address : (base : ℕ) (offset : ℤ) (n y : ℕ) → 65536 ≤ base → base < 2 ^ 63 → pos n ≡ pos base +ℤ offset → y < 2 ^ 64 → IsOffset (offset +ℤ cast_signed w64 y) → pos ((n + y) % 2 ^ 64) ≡ pos base +ℤ (offset +ℤ cast_signed w64 y)
moved_address base offset n y low high is fits h = grind (arith, cases_lt, inl, pos, to_z_pos, moved_up, inr, number_below_zero, moved_down)

-- moving it back by a number below 2^63, and by one that lacks k + 1 to 2^64
back_down : (base : ℕ) (offset : ℤ) (n y : ℕ) → 65536 ≤ base → base < 2 ^ 63 → pos n ≡ pos base +ℤ offset → n < 2 ^ 64 → y < 2 ^ 63 → IsOffset (offset -ℤ pos y) → pos ((n + (2 ^ 64 - y)) % 2 ^ 64) ≡ pos base +ℤ (offset -ℤ pos y)
back_down base offset n y low high is fits small h = grind (arith, ints)

back_up : (base : ℕ) (offset : ℤ) (n y k : ℕ) → 65536 ≤ base → base < 2 ^ 63 → pos n ≡ pos base +ℤ offset → k + 1 + y ≡ 2 ^ 64 → k < 2 ^ 63 → IsOffset (offset -ℤ negsuc k) → pos ((n + (2 ^ 64 - y)) % 2 ^ 64) ≡ pos base +ℤ (offset -ℤ negsuc k)
back_up base offset n y k low high is whole small h = grind (arith, ints)

-- moving an address back is subtracting a number modulo 2^64
pub moved_back_address : (base : ℕ) (offset : ℤ) (n y : ℕ) → 65536 ≤ base → base < 2 ^ 63 → pos n ≡ pos base +ℤ offset → n < 2 ^ 64 → y < 2 ^ 64 → IsOffset (offset -ℤ cast_signed w64 y) → pos ((n + (2 ^ 64 - y)) % 2 ^ 64) ≡ pos base +ℤ (offset -ℤ cast_signed w64 y)
moved_back_address base offset n y low high is fits whole h = grind (arith, cases_lt, inl, pos, to_z_pos, back_down, inr, number_below_zero, back_up)
