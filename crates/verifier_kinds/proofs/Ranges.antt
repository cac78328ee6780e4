-- Alignments and normal ranges: which numbers they have, and that sums keep to them.
use Rattle.std.proofs.Common.{◌≡◌, ℕ, ◌+◌, ◌-◌, ◌*◌, ◌/◌, ◌%◌, ◌^◌, ◌<◌, ◌≤◌, nat_le, refl, subst, arith}
use Rattle.std.proofs.lemmas.Bool.{cond_both, cond-true, eq-eqb, eqb-true, le-leb}
use Rattle.verifier_kinds.specs.declared.kind.Align.{Align}
use Rattle.verifier_kinds.specs.declared.kind.Align.TheVariants.{One, Two, Four, Eight}
use Rattle.verifier_kinds.specs.Kinds.{factor, rank, least_align, align_of, normal, constant, full, IsIn, IsNormal}

-- a number is divided by the greatest alignment that divides it
pub divided_by_align_of : (n : ℕ) → n % factor (align_of n) ≡ 0
divided_by_align_of n = grind (arith, cond_both, eqb-true)

-- the lower end of a normal range is the least number at or above the raw end that the alignment divides
pub first_below : (d : Align) (low n : ℕ) → low ≤ n → n % factor d ≡ 0 → (low + (factor d - 1)) / factor d * factor d ≤ n
first_below One low n h e = omega arith
first_below Two low n h e = omega arith
first_below Four low n h e = omega arith
first_below Eight low n h e = omega arith

pub first_divided : (d : Align) (low : ℕ) → (low + (factor d - 1)) / factor d * factor d % factor d ≡ 0
first_divided One low = omega arith
first_divided Two low = omega arith
first_divided Four low = omega arith
first_divided Eight low = omega arith

-- the upper end is the greatest such number at or below the raw end
pub last_above : (d : Align) (n high : ℕ) → n ≤ high → n % factor d ≡ 0 → n ≤ high / factor d * factor d
last_above One n high h e = omega arith
last_above Two n high h e = omega arith
last_above Four n high h e = omega arith
last_above Eight n high h e = omega arith

pub last_divided : (d : Align) (high : ℕ) → high / factor d * factor d % factor d ≡ 0
last_divided One high = omega arith
last_divided Two high = omega arith
last_divided Four high = omega arith
last_divided Eight high = omega arith

pub last_below : (d : Align) (high : ℕ) → high / factor d * factor d ≤ high
last_below One high = omega arith
last_below Two high = omega arith
last_below Four high = omega arith
last_below Eight high = omega arith

-- what both factors divide, the factor of the least alignment divides
pub divided_by_least_left : (a b : Align) (n : ℕ) → n % factor a ≡ 0 → n % factor (least_align a b) ≡ 0
divided_by_least_left One One n e = e
divided_by_least_left One Two n e = e
divided_by_least_left One Four n e = e
divided_by_least_left One Eight n e = e
divided_by_least_left Two One n e = omega arith
divided_by_least_left Two Two n e = e
divided_by_least_left Two Four n e = e
divided_by_least_left Two Eight n e = e
divided_by_least_left Four One n e = omega arith
divided_by_least_left Four Two n e = omega arith
divided_by_least_left Four Four n e = e
divided_by_least_left Four Eight n e = e
divided_by_least_left Eight One n e = omega arith
divided_by_least_left Eight Two n e = omega arith
divided_by_least_left Eight Four n e = omega arith
divided_by_least_left Eight Eight n e = e

pub least_align_comm : (a b : Align) → least_align a b ≡ least_align b a
least_align_comm One One = refl
least_align_comm One Two = refl
least_align_comm One Four = refl
least_align_comm One Eight = refl
least_align_comm Two One = refl
least_align_comm Two Two = refl
least_align_comm Two Four = refl
least_align_comm Two Eight = refl
least_align_comm Four One = refl
least_align_comm Four Two = refl
least_align_comm Four Four = refl
least_align_comm Four Eight = refl
least_align_comm Eight One = refl
least_align_comm Eight Two = refl
least_align_comm Eight Four = refl
least_align_comm Eight Eight = refl

pub divided_by_least_right : (a b : Align) (n : ℕ) → n % factor b ≡ 0 → n % factor (least_align a b) ≡ 0
divided_by_least_right a b n e = rw (least_align_comm a b) (divided_by_least_left b a n e)

-- what an alignment divides, each that says no more divides too
pub divided_less : (d e : Align) (n : ℕ) → rank d ≤ rank e → n % factor e ≡ 0 → n % factor d ≡ 0
divided_less d e n h p =
    subst (λ a. n % factor a ≡ 0) (cond-true (nat_le (rank d) (rank e)) d e (le-leb (rank d) (rank e) h)) (divided_by_least_right d e n p)

-- an alignment that divides two numbers divides their sum
pub sum_divided : (d : Align) (x y : ℕ) → x % factor d ≡ 0 → y % factor d ≡ 0 → (x + y) % factor d ≡ 0
sum_divided One x y p q = omega arith
sum_divided Two x y p q = omega arith
sum_divided Four x y p q = omega arith
sum_divided Eight x y p q = omega arith

-- a normal range has each number between the raw ends that the alignment divides
pub in_normal : (low high : ℕ) (d : Align) (n : ℕ) → low ≤ n → n ≤ high → n % factor d ≡ 0 → IsIn (normal low high d) n
in_normal low high d n p q e = grind (arith, first_below, last_above, cond_both, eqb-true, divided_by_align_of)

-- a normal range that has a number fulfils what each range of the verifier meets
pub normal_is_normal : (low high : ℕ) (d : Align) (n : ℕ) → low ≤ n → n ≤ high → n % factor d ≡ 0 → high < 2 ^ 64 → IsNormal (normal low high d)
normal_is_normal low high d n p q e fits = grind (arith, first_below, last_above, last_below, cond_both, divided_by_align_of, first_divided, eqb-true, last_divided, cond-true, eq-eqb)

-- the range of one number
pub constant_is_normal : (n : ℕ) → n < 2 ^ 64 → IsNormal (constant n)
constant_is_normal n h = grind (arith, divided_by_align_of)

pub in_constant : (n : ℕ) → IsIn (constant n) n
in_constant n = record { low = omega arith; high = omega arith; aligned = divided_by_align_of n }

-- the range of all numbers that an alignment divides
pub full_is_normal : (d : Align) → IsNormal (full d)
full_is_normal d = grind (arith, normal_is_normal)
