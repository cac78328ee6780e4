-- How one block of bytes reads as pages.
use Rattle.std.specs.Prelude.{ℕ, zero, suc, List, [], ◌∷◌, take, drop}

-- the first count parts of a list, each of size elements
unfoldable pub parts_of : {X : Type 0} → ℕ → ℕ → List X → List (List X)
parts_of size zero xs = []
parts_of size (suc count) xs = take size xs ∷ parts_of size count (drop size xs)

-- the pages of a block of so many frames
abbrev pub pages_of : ℕ → List ℕ → List (List ℕ)
pages_of frames block = parts_of 4096 frames block
