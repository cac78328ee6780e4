-- Numbers as bytes, the lowest byte first (RFC 9669, section 3: little-endian here).
use Rattle.std.specs.Prelude.{ℕ, zero, suc, ◌+◌, ◌*◌, ◌/◌, ◌%◌, List, [], ◌∷◌, ◌++◌, take, drop, length}

-- the little-endian number of a list of bytes
unfoldable pub number_of : List ℕ → ℕ
number_of [] = 0
number_of (byte ∷ bytes) = byte + 256 * number_of bytes

-- the lowest n bytes of a number, the lowest first
unfoldable pub bytes_of : ℕ → ℕ → List ℕ
bytes_of zero number = []
bytes_of (suc n) number = number % 256 ∷ bytes_of n (number / 256)

-- size elements of a list, from an index on
unfoldable pub part_of : {X : Type 0} → List X → ℕ → ℕ → List X
part_of xs at size = take size (drop at xs)

-- a list with a part of it replaced, from an index on
unfoldable pub with_part : {X : Type 0} → List X → ℕ → List X → List X
with_part xs at part = take at xs ++ part ++ drop (at + length part) xs
