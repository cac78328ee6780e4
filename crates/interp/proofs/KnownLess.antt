-- What is known of numbers and of bytes.
use Rattle.std.specs.Prelude.{◌≡◌, ℕ, zero, suc, ◌%◌, ◌^◌, ◌<◌, bit_and, List, [], ◌∷◌, length, map, slice_index_or, slice_set, IsSome, IsBitSet, Option, Some, None, refl}
use Rattle.std.proofs.Common.{arith, sym, ap, ◌∙◌}
use Rattle.std.proofs.lemmas.Nat.{and_assoc, and_comm, and_le_l, and_le_r}
use Rattle.std.proofs.lemmas.List.{length-map}
use Rattle.std.proofs.lemmas.Bool.Decides.{nat_tests}
use Rattle.host_types.specs.Memory.{all_set}
use Rattle.verifier_kinds.specs.declared.kind.Align.TheVariants.{One}
use Rattle.verifier_kinds.specs.declared.kind.Kind.{Kind}
use Rattle.verifier_kinds.specs.declared.description.StackSlot.TheVariants.{Bytes}
use Rattle.verifier_kinds.specs.Kinds.{Setting, factor, align_of, constant, full, IsIn, IsOfKind, Describes}
use Rattle.verifier_kinds.specs.Descriptions.{DescribesSlot}
use Rattle.host_types.proofs.Lists.{map_Some-from_all_set}

-- a bit of a part of some bits is one of them
pub more_bits : (all some i : ℕ) → bit_and all some ≡ some → IsBitSet some i → IsBitSet all i
more_bits all some i e set none = grind (arith, nat_tests, and_comm, and_assoc, and_le_r)

-- each of a list of values is there
pub is_some-map_Some : {X : Type 0} (xs : List X) (i : ℕ) → i < length xs → IsSome (slice_index_or (map Some xs) i None)
is_some-map_Some [] i h = absurd (omega arith)
is_some-map_Some (x ∷ xs) zero h = refl
is_some-map_Some (x ∷ xs) (suc i) h = is_some-map_Some xs i (omega arith)

-- where eight bytes are set, each is
pub each_is_set : (bytes : List (Option ℕ)) (given : List ℕ) (i : ℕ) → length bytes ≡ 8 → all_set bytes ≡ Some given → i < 8 → IsSome (slice_index_or bytes i None)
each_is_set bytes given i eight all less =
    let is = map_Some-from_all_set bytes given all in
    let long : length given ≡ 8 = sym (length-map given Some) ∙ ap length (sym is) ∙ eight in
    rw is (is_some-map_Some given i (omega arith))

-- the greatest alignment that divides a number divides it
align_divides : (n : ℕ) → n % factor (align_of n) ≡ 0
align_divides n = grind (arith, nat_tests)

-- of what is past the stack nothing is known, and every stack is so
pub nothing_known : (g : Setting) (bytes : List (Option ℕ)) → DescribesSlot g (Bytes 0) bytes
nothing_known g bytes i less set = absurd (set (omega (arith, and_le_l 0 (2 ^ i))))

-- a number is of the kind of itself alone
pub in_constant : (n : ℕ) → IsIn (constant n) n
in_constant n = record { low = omega arith; high = omega arith; aligned = align_divides n }

-- each number of 64 bits is among all of them
pub in_full : (n : ℕ) → n < 2 ^ 64 → IsIn (full One) n
in_full n h = record { low = omega arith; high = omega arith; aligned = omega arith }

-- a register that is written is described, and the others are as before
pub described_write : (g : Setting) (kinds : List (Option Kind)) (numbers : List (Option ℕ)) (j : ℕ) (kind : Kind) (n : ℕ) → length kinds ≡ length numbers
    → ((i : ℕ) → Describes g (slice_index_or kinds i None) (slice_index_or numbers i None)) → IsOfKind g kind n
    → (i : ℕ) → Describes g (slice_index_or (slice_set kinds j (Some kind)) i None) (slice_index_or (slice_set numbers j (Some n)) i None)
described_write g [] [] j kind n e h k i = h i
described_write g [] (y ∷ ys) j kind n e h k i = absurd (omega arith)
described_write g (x ∷ xs) [] j kind n e h k i = absurd (omega arith)
described_write g (x ∷ xs) (y ∷ ys) zero kind n e h k zero = k
described_write g (x ∷ xs) (y ∷ ys) zero kind n e h k (suc i) = h (suc i)
described_write g (x ∷ xs) (y ∷ ys) (suc j) kind n e h k zero = h 0
described_write g (x ∷ xs) (y ∷ ys) (suc j) kind n e h k (suc i) = described_write g xs ys j kind n (omega arith) (λ l. h (suc l)) k i
