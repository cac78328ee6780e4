-- Parts of lists, as slices are read and written.
use Rattle.std.proofs.Common.{◌≡◌, ℕ, zero, suc, ◌+◌, ◌-◌, ◌/◌, ◌%◌, ◌≤◌, List, ◌∷◌, Some, ap, map, length, take, drop, slice_range, refl, sym, append_assoc, arith}
use Rattle.std.proofs.Math.Seq.{drop-drop}
use borrow.Rule.Slice.PartMut.{put_mid}
use Rattle.host_types.specs.Bytes.{bytes_of, part_of, with_part}

-- a slice is a part
pub slice_part_of : {X : Type 0} → (xs : List X) (at size : ℕ) → slice_range xs at (at + size) ≡ part_of xs at size
unfolding part_of
slice_part_of xs at size = let count : at + size - at ≡ size = omega arith in rw count refl

-- what a write to a slice leaves
pub put_mid-with_part : {X : Type 0} → (xs part : List X) (at size : ℕ) → length part ≡ size → put_mid at (at + size - at) xs part ≡ with_part xs at part
unfolding with_part
put_mid-with_part xs part at size sized =
    let count : at + size - at ≡ size = omega arith in
    let after = drop-drop size at xs in
    rw (count, after, sized) (sym (append_assoc (take at xs) part (drop (at + size) xs)))

-- as many bytes as are asked for
pub length_bytes : (size number : ℕ) → length (bytes_of size number) ≡ size
unfolding bytes_of
length_bytes zero number = refl
length_bytes (suc size) number = ap suc (length_bytes size (number / 256))

-- the first bytes of a number's are those of fewer bytes
pub first_bytes : (size n number : ℕ) → size ≤ n → take size (bytes_of n number) ≡ bytes_of size number
unfolding bytes_of
first_bytes zero n number h = refl
first_bytes (suc size) zero number h = absurd (omega arith)
first_bytes (suc size) (suc n) number h = ap (λ bytes. number % 256 ∷ bytes) (first_bytes size n (number / 256) (omega arith))

-- the same of bytes that are set
pub first_set_bytes : (size n number : ℕ) → size ≤ n → take size (map Some (bytes_of n number)) ≡ map Some (bytes_of size number)
unfolding bytes_of
first_set_bytes zero n number h = refl
first_set_bytes (suc size) zero number h = absurd (omega arith)
first_set_bytes (suc size) (suc n) number h = ap (λ bytes. Some (number % 256) ∷ bytes) (first_set_bytes size n (number / 256) (omega arith))
