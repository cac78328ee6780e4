-- What a width takes of the operands of arithmetic: of their ranges and of their numbers.
use Rattle.std.proofs.Common.{◌≡◌, ℕ, ◌+◌, ◌-◌, ◌%◌, ◌^◌, ◌<◌, nat_lt, true, false, refl, arith}
use Rattle.std.proofs.lemmas.Bool.{cond_both, eqb-true, ltb-true}
use Rattle.bpf_decode.specs.declared.operation.Width.{Width}
use Rattle.bpf_decode.specs.declared.operation.Width.TheVariants.{Bits32, Bits64}
use Rattle.insn_alu.specs.Arithmetic.{low, modulus}
use Rattle.insn_alu.proofs.Halves.{low_of_small}
use Rattle.insn_alu.proofs.Small.{low_fits}
use Rattle.verifier_kinds.specs.declared.kind.Align.{Align}
use Rattle.verifier_kinds.specs.declared.kind.Align.TheVariants.{One, Two, Four, Eight}
use Rattle.verifier_kinds.specs.declared.kind.Range.{Range}
use Rattle.verifier_kinds.specs.Kinds.{factor, is_constant, IsIn, IsNormal}
use Rattle.verifier_kinds.specs.Arithmetic.{all, normal_of, range_taken}
use Rattle.verifier_kinds.proofs.Ranges.{in_normal, normal_is_normal}

-- ---- operands

-- what a width takes of a range stands for what it takes of its numbers; of one number that is all
pub record IsTaken (width : Width) (range : Range) (n : ℕ) : Type 0 where
  pub has : IsIn range (low width n)
  pub below : range.high < modulus width
  pub one : is_constant range ≡ true → range.low ≡ n

-- an alignment divides the low bits of what it divides
pub low_divided : (width : Width) (d : Align) (n : ℕ) → n % factor d ≡ 0 → low width n % factor d ≡ 0
low_divided Bits32 One n e = omega arith
low_divided Bits32 Two n e = omega arith
low_divided Bits32 Four n e = omega arith
low_divided Bits32 Eight n e = omega arith
low_divided Bits64 One n e = omega arith
low_divided Bits64 Two n e = omega arith
low_divided Bits64 Four n e = omega arith
low_divided Bits64 Eight n e = omega arith

pub zero_divided : (d : Align) → 0 % factor d ≡ 0
zero_divided One = refl
zero_divided Two = refl
zero_divided Four = refl
zero_divided Eight = refl

-- all numbers of a width that an alignment divides
pub in_all : (width : Width) (d : Align) (n : ℕ) → n < modulus width → n % factor d ≡ 0 → IsIn (all width d) n
in_all width d n h e = record { low = omega arith; high = omega arith; aligned = e }

pub all_starts : (width : Width) (d : Align) → (all width d).low + (factor d - 1) < 2 ^ 64
all_starts width One = omega arith
all_starts width Two = omega arith
all_starts width Four = omega arith
all_starts width Eight = omega arith

-- they are no single number
all_open : (width : Width) (d : Align) → is_constant (normal_of (all width d)) ≡ false
all_open Bits32 One = refl
all_open Bits32 Two = refl
all_open Bits32 Four = refl
all_open Bits32 Eight = refl
all_open Bits64 One = refl
all_open Bits64 Two = refl
all_open Bits64 Four = refl
all_open Bits64 Eight = refl

pub in_normal_of : (r : Range) (n : ℕ) → IsIn r n → IsIn (normal_of r) n
in_normal_of r n h = in_normal r.low r.high r.align n h.low h.high h.aligned

pub normal_of_is_normal : (r : Range) (n : ℕ) → IsIn r n → r.high < 2 ^ 64 → IsNormal (normal_of r)
normal_of_is_normal r n h fits = normal_is_normal r.low r.high r.align n h.low h.high h.aligned fits

pub all_high : (width : Width) (d : Align) → (all width d).high < 2 ^ 64
all_high Bits32 d = omega arith
all_high Bits64 d = omega arith

pub modulus_positive : (width : Width) → 0 < modulus width
modulus_positive Bits32 = omega arith
modulus_positive Bits64 = omega arith

pub all_is_normal : (width : Width) (d : Align) → IsNormal (normal_of (all width d))
all_is_normal width d = normal_of_is_normal (all width d) 0 (in_all width d 0 (modulus_positive width) (zero_divided d)) (all_high width d)

-- what a width takes of a range are numbers of the width
normal_below : (width : Width) (d : Align) → (normal_of (all width d)).high < modulus width
normal_below width One = let some = modulus_positive width in omega (arith, some)
normal_below width Two = let some = modulus_positive width in omega (arith, some)
normal_below width Four = let some = modulus_positive width in omega (arith, some)
normal_below width Eight = let some = modulus_positive width in omega (arith, some)

pub taken_below : (width : Width) (r : Range) → (range_taken width r).high < modulus width
taken_below width r = grind (arith, cond_both, nat_lt, ltb-true, normal_below)

-- the one number of a constant
pub constant_number : (by : Range) (y : ℕ) → is_constant by ≡ true → IsIn by y → by.low ≡ y
constant_number by y one within = grind (arith, eqb-true)

pub is_taken : (width : Width) (r : Range) (n : ℕ) → IsIn r n → IsTaken width (range_taken width r) n
is_taken width r n h = grind (arith, cond_both, nat_lt, ltb-true, low_of_small, constant_number, in_normal_of, in_all, low_fits, low_divided, normal_below, false, all_open)

-- the lower end of a range of the width is one of its numbers
pub end_is_taken : (width : Width) (r : Range) → IsNormal r → r.high < modulus width → IsTaken width r r.low
end_is_taken width r h below = grind (arith, low_of_small)
