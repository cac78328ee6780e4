-- Groups of pages as chains of one content each, sorted by content (this project's own rule, in the
-- manner of the stable tree of Linux's KSM).
use Rattle.std.specs.Prelude.{◌≡◌, ◌≢◌, ℕ, ◌<◌, ◌≤◌, nat_lt, ◌&&◌, Bool, true, false, if◌then◌else◌, List, [], length, sum_by, slice_index_or, All, AllPairs, Option, None, Some}
use Rattle.std.specs.List.{concat}
use Rattle.std.specs.Str.{bytes_eq}
use Rattle.std.specs.Ordering.{nat_cmp, is_lt}
use Rattle.std.specs.declared.cmp.Ordering.{Ordering}
use Rattle.std.specs.declared.cmp.Ordering.TheVariants.{Less}
use Rattle.std.specs.Cmp.Lexicographic.{slice_cmp}
use Rattle.frame_arena.specs.Pages.{page_at}
use Rattle.stable_tree.specs.declared.dups.Dups.{Dups}

-- A chain for each content, with the frames of its groups in order of creation; and for how many
-- groups there is room.
pub record Groups : Type 0 where
  pub chains : List (List ℕ)
  pub room : ℕ

-- the frames of all groups
abbrev pub group_frames : Groups → List ℕ
group_frames tree = concat tree.chains

-- one for a content with two groups or more
abbrev pub many_in : ℕ → ℕ
many_in groups = if nat_lt 1 groups then 1 else 0

-- the groups of a content with two or more
abbrev pub dups_in : ℕ → ℕ
dups_in groups = if nat_lt 1 groups then groups else 0

-- how many contents have two groups or more
unfoldable pub chains_among : List (List ℕ) → ℕ
chains_among chains = sum_by (λ chain. many_in (length chain)) chains

-- how many groups such contents have
unfoldable pub dups_among : List (List ℕ) → ℕ
dups_among chains = sum_by (λ chain. dups_in (length chain)) chains

-- the numbers are those of the contents with two groups or more
pub record AreDups (dups : Dups) (chains : List (List ℕ)) : Type 0 where
  pub counted : dups.chains ≡ chains_among chains
  pub grouped : dups.groups ≡ dups_among chains

-- a frame has the bytes
abbrev pub has : List (List ℕ) → List ℕ → ℕ → Bool
has arena bytes frame = bytes_eq (page_at arena frame) bytes

-- the bytes of a chain's earliest group
abbrev pub content : List (List ℕ) → List ℕ → List ℕ
content arena chain = page_at arena (slice_index_or chain 0 0)

-- groups of one content
pub record IsChain (arena : List (List ℕ)) (chain : List ℕ) : Type 0 where
  pub filled : 0 < length chain
  pub there : All (λ frame. frame < length arena) chain
  pub alike : All (λ frame. page_at arena frame ≡ content arena chain) chain

-- how two lists of bytes compare, byte by byte from the first
abbrev pub order : List ℕ → List ℕ → Ordering
order = slice_cmp nat_cmp

-- each content has one chain, the smaller content the earlier one; no frame stands twice
pub record IsSorted (arena : List (List ℕ)) (chains : List (List ℕ)) : Type 0 where
  pub alike : All (IsChain arena) chains
  pub ascending : AllPairs (λ c d. order (content arena c) (content arena d) ≡ Less) chains
  pub once : AllPairs (λ f g. f ≢ g) (concat chains)

-- one of the chains, which is what a spot shows
pub record IsSpot (tree : Groups) (spot : List ℕ) : Type 0 where
  pub k : ℕ
  pub inside : k < length tree.chains
  pub is : spot ≡ slice_index_or tree.chains k []

-- the frames of the groups at a spot, in order of creation
abbrev pub groups_at : Groups → List ℕ → List ℕ
groups_at tree spot = spot

abbrev pub groups_found : Groups → Option (List ℕ) → List ℕ
groups_found tree None = []
groups_found tree (Some spot) = groups_at tree spot

-- the content of a chain comes before the bytes
abbrev pub is_before : List (List ℕ) → List ℕ → List ℕ → Bool
is_before arena bytes chain = is_lt (order (content arena chain) bytes)

-- there is a chain k, and it has the bytes
abbrev pub is_there : List (List ℕ) → List ℕ → List (List ℕ) → ℕ → Bool
is_there arena bytes chains k = nat_lt k (length chains) && bytes_eq (content arena (slice_index_or chains k [])) bytes

-- just the chains before k have a content that comes before the bytes
pub record IsCutAt (arena : List (List ℕ)) (bytes : List ℕ) (chains : List (List ℕ)) (k : ℕ) : Type 0 where
  pub inside : k ≤ length chains
  pub before : (i : ℕ) → i < k → is_before arena bytes (slice_index_or chains i []) ≡ true
  pub following : (i : ℕ) → k ≤ i → i < length chains → is_before arena bytes (slice_index_or chains i []) ≡ false
