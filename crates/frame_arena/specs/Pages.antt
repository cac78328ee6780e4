-- The pages of an arena: page n is the content of frame n.
use Rattle.std.specs.Prelude.{◌≡◌, ℕ, ◌<◌, ◌==◌, ◌||◌, IsTrue, List, [], length, slice_index_or, All}

-- the content of a page: 4096 bytes
pub record IsPage (page : List ℕ) : Type 0 where
  pub sized : length page ≡ 4096
  pub bytes : All (λ byte. byte < 256) page

-- the page of a frame
abbrev pub page_at : List (List ℕ) → ℕ → List ℕ
page_at pages frame = slice_index_or pages frame []

-- one number is read or written as 1, 2, 4 or 8 bytes
abbrev pub IsAccessSize : ℕ → Type 0
IsAccessSize size = IsTrue (size == 1 || size == 2 || size == 4 || size == 8)
