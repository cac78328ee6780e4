-- Where groups stand: each has a slot, and those of one content hang at the slot of a tree's node.
use Rattle.std.specs.Prelude.{◌≡◌, ℕ, zero, suc, ◌+◌, ◌-◌, ◌<◌, ◌≤◌, ◌==◌, if◌then◌else◌, List, [], ◌∷◌, ◌++◌, All, length, map, flat_map, sum_by, slice_index_or, slice_set, remove, vec_capacity}
use Rattle.tree_shape.specs.declared.Node.{Node}
use Rattle.tree_shape.specs.Shape.{Tree, leaf, fork, in_order, Holds, IsEven, height_at, none, blank}
use Rattle.stable_tree.specs.declared.store.Store.{Store}

-- so many slots, of which each gives the next
unfoldable pub walk : ℕ → List ℕ → ℕ → List ℕ
walk zero nexts at = []
walk (suc n) nexts at = at ∷ walk n nexts (slice_index_or nexts at 0)

-- the last slot of so many and one
unfoldable pub end : ℕ → List ℕ → ℕ → ℕ
end zero nexts at = at
end (suc n) nexts at = end n nexts (slice_index_or nexts at 0)

-- the slots of the groups that hang at a slot
abbrev pub hanging : List ℕ → List ℕ → ℕ → List ℕ
hanging nexts sizes at = walk (slice_index_or sizes at 0) nexts at

-- the frames of some slots
abbrev pub frames_at : List ℕ → List ℕ → List ℕ
frames_at frames slots = map (λ slot. slice_index_or frames slot 0) slots

-- the frames of the groups that hang at a slot
abbrev pub chain_at : List ℕ → List ℕ → List ℕ → ℕ → List ℕ
chain_at frames nexts sizes at = frames_at frames (hanging nexts sizes at)

-- the slots of all groups, by the slots of the nodes at which they hang
abbrev pub used : List ℕ → List ℕ → List ℕ → List ℕ
used nexts sizes heads = flat_map (hanging nexts sizes) heads

-- what hangs at a link, so many levels of it
unfoldable pub tree_within : ℕ → List Node → ℕ → Tree
tree_within zero nodes link = leaf
tree_within (suc most) nodes link =
    if link == none then leaf
    else fork link (tree_within most nodes (slice_index_or nodes link blank).left) (tree_within most nodes (slice_index_or nodes link blank).right)

abbrev pub tree_at : List Node → ℕ → Tree
tree_at nodes link = tree_within (height_at nodes link) nodes link

-- how often a slot stands in a list
abbrev pub occurrences_of : ℕ → List ℕ → ℕ
occurrences_of i slots = sum_by (λ at. if i == at then 1 else 0) slots

-- each slot below a bound is used once or free once
pub record AreShared (held free : List ℕ) (bound : ℕ) : Type 0 where
  pub once : (i : ℕ) → occurrences_of i held + occurrences_of i free ≤ 1
  pub inside : (i : ℕ) → bound ≤ i → occurrences_of i held + occurrences_of i free ≡ 0
  pub all : length held + length free ≡ bound

-- at each of some slots a group hangs at least, and each slot has one group or is free
pub record AreHung (frames nexts sizes heads free : List ℕ) (bound : ℕ) : Type 0 where
  pub filled : All (λ at. 1 ≤ slice_index_or sizes at 0) heads
  pub shared : AreShared (used nexts sizes heads) free bound
  pub framed : length frames ≡ bound
  pub linked : length nexts ≡ bound
  pub sized : length sizes ≡ bound

abbrev pub tree_in : Store → Tree
tree_in store = tree_at store.nodes.items store.root

-- the slots of the contents, in order of content
abbrev pub heads_in : Store → List ℕ
heads_in store = in_order (tree_in store)

-- for each content the frames of its groups, in order of creation
abbrev pub chains_in : Store → List (List ℕ)
chains_in store = map (chain_at store.frames.items store.nexts.items store.sizes.items) (heads_in store)

-- there is memory for a number of slots
pub record HasReservedRoom (store : Store) : Type 0 where
  pub nodes : store.room ≤ vec_capacity store.nodes
  pub frames : store.room ≤ vec_capacity store.frames
  pub nexts : store.room ≤ vec_capacity store.nexts
  pub sizes : store.room ≤ vec_capacity store.sizes
  pub free : store.room ≤ vec_capacity store.free

-- an even tree of contents, at whose nodes all groups hang, where these slots are free
pub record IsWholeStore (store : Store) (free : List ℕ) : Type 0 where
  pub holds : Holds store.nodes.items store.root (tree_in store)
  pub even : IsEven (tree_in store)
  pub hung : AreHung store.frames.items store.nexts.items store.sizes.items (heads_in store) free (length store.nodes.items)
  pub few : length store.nodes.items ≤ store.room
  pub low : store.room < none
  pub room : HasReservedRoom store

abbrev pub IsStore : Store → Type 0
IsStore store = IsWholeStore store store.free.items

-- a slot has a new group alone, and hangs nowhere yet
pub record IsAdded (old new : Store) (frame slot : ℕ) : Type 0 where
  pub whole : IsWholeStore new (slot ∷ new.free.items)
  pub heads : heads_in new ≡ heads_in old
  pub chains : chains_in new ≡ chains_in old
  pub framed : slice_index_or new.frames.items slot 0 ≡ frame
  pub alone : slice_index_or new.sizes.items slot 0 ≡ 1
  pub room : new.room ≡ old.room

-- groups hang at a slot
pub record IsHead (store : Store) (at : ℕ) : Type 0 where
  pub earlier : List ℕ
  pub later : List ℕ
  pub is : heads_in store ≡ earlier ++ at ∷ later

-- the k-th chain has one group more, and had so many
pub record IsLengthened (old new : Store) (at slot k groups : ℕ) : Type 0 where
  pub chains : chains_in new ≡ slice_set (chains_in old) k (slice_index_or (chains_in old) k [] ++ slice_index_or old.frames.items slot 0 ∷ [])
  pub counted : groups ≡ length (slice_index_or (chains_in old) k [])

-- a frame is found at a slot, so many before the last
pub record IsStanding (slots frames : List ℕ) (frame slot following : ℕ) : Type 0 where
  pub inside : following < length slots
  pub slot_is : slot ≡ slice_index_or slots (length slots - 1 - following) 0
  pub frame_is : slice_index_or frames slot 0 ≡ frame

-- the j-th group of those that hang at a slot is gone
abbrev pub IsWithout : Store → Store → ℕ → ℕ → Type 0
IsWithout old new at j = (earlier later : List ℕ) → heads_in old ≡ earlier ++ at ∷ later
    → chains_in new ≡ slice_set (chains_in old) (length earlier) (remove (slice_index_or (chains_in old) (length earlier) []) j)
