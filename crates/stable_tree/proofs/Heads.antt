-- What is known of a store at a slot where groups hang.
use Rattle.std.proofs.Common.{◌≡◌, ℕ, ◌+◌, ◌-◌, ◌<◌, ◌≤◌, List, [], ◌∷◌, ◌++◌, length, slice_index_or, All, sym, ◌∙◌, arith}
use Rattle.std.specs.Vec.{with_item}
use Rattle.std.proofs.lemmas.List.{length-map}
use Rattle.stable_tree.specs.declared.store.Store.{Store}
use Rattle.stable_tree.specs.Slots.{end, hanging, chain_at, IsWholeStore, IsHead, IsLengthened, heads_in, chains_in}
use Rattle.stable_tree.proofs.Walks.{length-walk, end-stands}
use Rattle.stable_tree.proofs.Lengthening.{head-some, head-inside, hanging-inside, hanging-within, groups-few, seam-get, grown-chains, grown-hung}

pub record HeadFacts (store : Store) (at : ℕ) : Type 0 where
  pub inside : at < length store.nodes.items
  pub some : 1 ≤ slice_index_or store.sizes.items at 0
  pub few : slice_index_or store.sizes.items at 0 ≤ length store.nodes.items
  pub within : All (λ slot. slot < length store.nodes.items) (hanging store.nexts.items store.sizes.items at)
  pub last : end (slice_index_or store.sizes.items at 0 - 1) store.nexts.items at < length store.nodes.items
  pub framed : length store.frames.items ≡ length store.nodes.items
  pub linked : length store.nexts.items ≡ length store.nodes.items
  pub sized : length store.sizes.items ≡ length store.nodes.items
  pub low : length store.nodes.items < 4294967295

pub head-facts : (store : Store) (free : List ℕ) (at : ℕ) → IsWholeStore store free → IsHead store at → HeadFacts store at
head-facts store free at whole head =
    let some = head-some store.frames.items store.nexts.items store.sizes.items (heads_in store) free head.earlier at head.later (length store.nodes.items) whole.hung head.is in
    record {
      inside = head-inside store.frames.items store.nexts.items store.sizes.items (heads_in store) free head.earlier at head.later (length store.nodes.items) whole.hung head.is;
      some = some;
      few = groups-few store.frames.items store.nexts.items store.sizes.items (heads_in store) free head.earlier at head.later (length store.nodes.items) whole.hung head.is;
      within = hanging-within store.frames.items store.nexts.items store.sizes.items (heads_in store) free head.earlier at head.later (length store.nodes.items) whole.hung head.is;
      last = hanging-inside store.frames.items store.nexts.items store.sizes.items (heads_in store) free head.earlier at head.later (length store.nodes.items) whole.hung head.is
          (end (slice_index_or store.sizes.items at 0 - 1) store.nexts.items at) (end-stands (slice_index_or store.sizes.items at 0) store.nexts.items at some);
      framed = whole.hung.framed;
      linked = whole.hung.linked;
      sized = whole.hung.sized;
      low = let a = whole.few in let b = whole.low in omega (arith, a, b);
    }

-- the store with a slot after the last group
abbrev pub longer_store : Store → ℕ → ℕ → Store
longer_store store at slot = record {
  nodes = store.nodes;
  frames = store.frames;
  nexts = with_item store.nexts (end (slice_index_or store.sizes.items at 0 - 1) store.nexts.items at) slot;
  sizes = with_item store.sizes at (slice_index_or store.sizes.items at 0 + 1);
  free = store.free;
  root = store.root;
  room = store.room;
}

pub longer-whole : (store : Store) (at slot : ℕ) → IsWholeStore store (slot ∷ store.free.items) → IsHead store at → IsWholeStore (longer_store store at slot) store.free.items
longer-whole store at slot whole head = record {
  holds = whole.holds;
  even = whole.even;
  hung = grown-hung store.frames.items store.nexts.items store.sizes.items (heads_in store) store.free.items head.earlier at head.later (length store.nodes.items) slot whole.hung head.is;
  few = whole.few;
  low = whole.low;
  room = record { nodes = whole.room.nodes; frames = whole.room.frames; nexts = whole.room.nexts; sizes = whole.room.sizes; free = whole.room.free };
}

pub chain-length : (frames nexts sizes : List ℕ) (at : ℕ) → length (chain_at frames nexts sizes at) ≡ slice_index_or sizes at 0
chain-length frames nexts sizes at = length-map (hanging nexts sizes at) (λ (slot : ℕ). slice_index_or frames slot 0) ∙ length-walk (slice_index_or sizes at 0) nexts at

-- the chain of a head
pub head-chain : (store : Store) (earlier : List ℕ) (at : ℕ) (later : List ℕ) → heads_in store ≡ earlier ++ at ∷ later
    → slice_index_or (chains_in store) (length earlier) [] ≡ chain_at store.frames.items store.nexts.items store.sizes.items at
head-chain store earlier at later is = rw is (seam-get (chain_at store.frames.items store.nexts.items store.sizes.items) earlier at later)

pub longer-chains : (store : Store) (at slot : ℕ) → IsWholeStore store (slot ∷ store.free.items) → (earlier later : List ℕ) → heads_in store ≡ earlier ++ at ∷ later
    → IsLengthened store (longer_store store at slot) at slot (length earlier) (slice_index_or store.sizes.items at 0)
longer-chains store at slot whole earlier later is =
    let chain = head-chain store earlier at later is in
    record {
      chains = rw chain (rw is (grown-chains store.frames.items store.nexts.items store.sizes.items (heads_in store) store.free.items earlier at later (length store.nodes.items) slot whole.hung is));
      counted = rw chain (sym (chain-length store.frames.items store.nexts.items store.sizes.items at));
    }
