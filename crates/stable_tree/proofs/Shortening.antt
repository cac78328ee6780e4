-- One group less among those that hang at a slot.
use Rattle.std.proofs.Common.{◌≡◌, ℕ, suc, ◌+◌, ◌-◌, ◌<◌, ◌≤◌, List, ◌∷◌, ◌++◌, length, map, slice_index_or, slice_set, refl, sym, ap, subst, ◌∙◌, arith}
use Rattle.std.specs.List.{remove}
use Rattle.std.specs.Vec.{with_item}
use Rattle.std.proofs.lemmas.List.{get_or-set_same, get_or_read, length-set}
use Rattle.tree_shape.proofs.Times.{here}
use Rattle.stable_tree.specs.declared.store.Store.{Store}
use Rattle.stable_tree.specs.Slots.{walk, hanging, frames_at, chain_at, used, occurrences_of, AreHung, IsWholeStore, IsHead, IsWithout, heads_in}
use Rattle.stable_tree.proofs.Walks.{occurrences_of-cons, occurrences_of-first, apart-set, walk-there, walk-next, IsShorter, walk-shortened, walk-cut, Once}
use Rattle.stable_tree.proofs.Hanging.{IsChanged, Apart, one-changed, shared-again, occurrences_of-cut, length-cut}
use Rattle.stable_tree.proofs.Lengthening.{cut-filled, cut-shared, head-inside, hanging-once, hanging-inside, changed-occurrences_of, changed-length, changed-filled, changed-chains}
use Rattle.stable_tree.proofs.Heads.{head-chain, head-facts}

module _ (frames nexts sizes heads free earlier : List ℕ) (at : ℕ) (later : List ℕ) (bound gone j : ℕ) (given newer : List ℕ) (hung : AreHung frames nexts sizes heads free bound) (is : heads ≡ earlier ++ at ∷ later)
    (more : 2 ≤ slice_index_or sizes at 0) (all_given : length given ≡ bound) (all_newer : length newer ≡ bound)
    (f : Apart (hanging nexts sizes at) frames given) (n : Apart (hanging nexts sizes at) nexts newer)
    (short : IsShorter (slice_index_or sizes at 0 - 1) j nexts frames at newer given gone) where
  abbrev groups : ℕ
  groups = slice_index_or sizes at 0

  abbrev sized : List ℕ
  sized = slice_set sizes at (groups - 1)

  size : slice_index_or sized at 0 ≡ groups - 1
  size = let inside = head-inside frames nexts sizes heads free earlier at later bound hung is in let long = hung.sized in get_or-set_same sizes at (groups - 1) 0 (omega (arith, inside, long))

  one-more : suc (groups - 1) ≡ groups
  one-more = omega (arith, more)

  changed : IsChanged frames nexts sizes given newer sized earlier at later
  changed = one-changed frames nexts sizes given newer sized earlier at later
      (cut-filled frames nexts sizes heads free earlier at later bound hung is)
      (λ i. let most = (cut-shared frames nexts sizes heads free earlier at later bound hung is).once i in omega (arith, most))
      f n (apart-set (hanging nexts sizes at) sizes at (groups - 1) (occurrences_of-first groups nexts at (omega (arith, more))))

  shorter-chain : chain_at given newer sized at ≡ remove (chain_at frames nexts sizes at) j
  shorter-chain = rw size (short.chain ∙ ap (λ (m : ℕ). remove (frames_at frames (walk m nexts at)) j) one-more)

  shorter-slots : (i : ℕ) → occurrences_of i (hanging newer sized at) + here i gone ≡ occurrences_of i (hanging nexts sizes at)
  shorter-slots i = rw size (short.slots i ∙ ap (λ (m : ℕ). occurrences_of i (walk m nexts at)) one-more)

  pub less-chains : map (chain_at given newer sized) (earlier ++ at ∷ later) ≡ slice_set (map (chain_at frames nexts sizes) (earlier ++ at ∷ later)) (length earlier) (remove (chain_at frames nexts sizes at) j)
  less-chains =
      changed-chains frames nexts sizes given newer sized earlier at later changed
      ∙ ap (λ chain. slice_set (map (chain_at frames nexts sizes) (earlier ++ at ∷ later)) (length earlier) chain) shorter-chain

  pub less-hung : AreHung given newer sized heads (gone ∷ free) bound
  less-hung = rw is (record {
    filled = changed-filled frames nexts sizes given newer sized earlier at later changed (omega (arith, size, more));
    shared = shared-again (used nexts sizes (earlier ++ at ∷ later)) free (used newer sized (earlier ++ at ∷ later)) (gone ∷ free) bound
        (cut-shared frames nexts sizes heads free earlier at later bound hung is)
        (λ i. let a = changed-occurrences_of frames nexts sizes given newer sized earlier at later changed i in let b = occurrences_of-cut i nexts sizes earlier at later in
        let c = shorter-slots i in let d = occurrences_of-cons i gone free in omega (arith, a, b, c, d))
        (let a = changed-length frames nexts sizes given newer sized earlier at later changed in let b = length-cut nexts sizes earlier at later in omega (arith, a, b, size, more));
    framed = all_given;
    linked = all_newer;
    sized = let e = length-set sizes at (groups - 1) in let long = hung.sized in omega (arith, e, long);
  })

-- the store without the last group
abbrev pub cut_store : Store → ℕ → Store
cut_store store at = record {
  nodes = store.nodes;
  frames = store.frames;
  nexts = store.nexts;
  sizes = with_item store.sizes at (slice_index_or store.sizes.items at 0 - 1);
  free = store.free;
  root = store.root;
  room = store.room;
}

module _ (store : Store) (at gone : ℕ) (whole : IsWholeStore store store.free.items) (head : IsHead store at) (more : 2 ≤ slice_index_or store.sizes.items at 0)
    (last : gone ≡ slice_index_or (hanging store.nexts.items store.sizes.items at) (slice_index_or store.sizes.items at 0 - 1) 0) where
  abbrev all : ℕ
  all = slice_index_or store.sizes.items at 0

  short : IsShorter (all - 1) (all - 1) store.nexts.items store.frames.items at store.nexts.items store.frames.items gone
  short =
      let e : suc (all - 1) ≡ all = omega (arith, more) in
      subst (λ (p : ℕ). IsShorter (all - 1) (all - 1) store.nexts.items store.frames.items at store.nexts.items store.frames.items p)
      (ap (λ (m : ℕ). slice_index_or (walk m store.nexts.items at) (all - 1) 0) e ∙ sym last)
      (walk-cut (all - 1) store.nexts.items store.frames.items at)

  pub cut-whole : IsWholeStore (cut_store store at) (gone ∷ store.free.items)
  cut-whole = record {
    holds = whole.holds;
    even = whole.even;
    hung = less-hung store.frames.items store.nexts.items store.sizes.items (heads_in store) store.free.items head.earlier at head.later (length store.nodes.items) gone (all - 1) store.frames.items store.nexts.items
        whole.hung head.is more whole.hung.framed whole.hung.linked (λ i none. refl) (λ i none. refl) short;
    few = whole.few;
    low = whole.low;
    room = record { nodes = whole.room.nodes; frames = whole.room.frames; nexts = whole.room.nexts; sizes = whole.room.sizes; free = whole.room.free };
  }

  pub cut-chains : IsWithout store (cut_store store at) at (all - 1)
  cut-chains earlier later is =
      let chain = head-chain store earlier at later is in
      rw chain (rw is (less-chains store.frames.items store.nexts.items store.sizes.items (heads_in store) store.free.items earlier at later (length store.nodes.items) gone (all - 1) store.frames.items store.nexts.items
      whole.hung is more whole.hung.framed whole.hung.linked (λ i none. refl) (λ i none. refl) short))

-- the store where the next group took a slot
abbrev pub pulled_store : Store → ℕ → ℕ → Store
pulled_store store at slot = record {
  nodes = store.nodes;
  frames = with_item store.frames slot (slice_index_or store.frames.items (slice_index_or store.nexts.items slot 0) 0);
  nexts = with_item store.nexts slot (slice_index_or store.nexts.items (slice_index_or store.nexts.items slot 0) 0);
  sizes = with_item store.sizes at (slice_index_or store.sizes.items at 0 - 1);
  free = store.free;
  root = store.root;
  room = store.room;
}

module _ (store : Store) (at slot j : ℕ) (whole : IsWholeStore store store.free.items) (head : IsHead store at) (more : j + 1 < slice_index_or store.sizes.items at 0)
    (stands : slot ≡ slice_index_or (hanging store.nexts.items store.sizes.items at) j 0) where
  abbrev size_all : ℕ
  size_all = slice_index_or store.sizes.items at 0

  abbrev bound_all : ℕ
  bound_all = length store.nodes.items

  slot-stands : 1 ≤ occurrences_of slot (hanging store.nexts.items store.sizes.items at)
  slot-stands = rw stands (walk-there size_all j store.nexts.items at (omega (arith, more)))

  pub pulled-inside : slot < bound_all
  pulled-inside = hanging-inside store.frames.items store.nexts.items store.sizes.items (heads_in store) store.free.items head.earlier at head.later bound_all whole.hung head.is slot slot-stands

  pub next-inside : slice_index_or store.nexts.items slot 0 < bound_all
  next-inside =
      let e = walk-next size_all j store.nexts.items at (omega (arith, more)) in
      let there = walk-there size_all (suc j) store.nexts.items at (omega (arith, more)) in
      let f : slice_index_or (walk size_all store.nexts.items at) (suc j) 0 ≡ slice_index_or store.nexts.items slot 0 = e ∙ ap (λ (p : ℕ). slice_index_or store.nexts.items p 0) (sym stands) in
      hanging-inside store.frames.items store.nexts.items store.sizes.items (heads_in store) store.free.items head.earlier at head.later bound_all whole.hung head.is (slice_index_or store.nexts.items slot 0)
      (subst (λ (p : ℕ). 1 ≤ occurrences_of p (hanging store.nexts.items store.sizes.items at)) f there)

  pulled-short : IsShorter (size_all - 1) j store.nexts.items store.frames.items at (slice_set store.nexts.items slot (slice_index_or store.nexts.items (slice_index_or store.nexts.items slot 0) 0))
      (slice_set store.frames.items slot (slice_index_or store.frames.items (slice_index_or store.nexts.items slot 0) 0)) (slice_index_or store.nexts.items slot 0)
  pulled-short =
      let e : suc (size_all - 2) ≡ size_all - 1 = omega (arith, more) in
      let f : size_all ≡ suc (suc (size_all - 2)) = omega (arith, more) in
      let linked = whole.hung.linked in
      let framed = whole.hung.framed in
      subst (λ (m : ℕ). IsShorter m j store.nexts.items store.frames.items at (slice_set store.nexts.items slot (slice_index_or store.nexts.items (slice_index_or store.nexts.items slot 0) 0))
      (slice_set store.frames.items slot (slice_index_or store.frames.items (slice_index_or store.nexts.items slot 0) 0)) (slice_index_or store.nexts.items slot 0)) e
      (walk-shortened (size_all - 2) j store.nexts.items store.frames.items at slot (omega (arith, more))
      (stands ∙ ap (λ (m : ℕ). slice_index_or (walk m store.nexts.items at) j 0) f)
      (subst (λ (m : ℕ). Once (walk m store.nexts.items at)) f (hanging-once store.frames.items store.nexts.items store.sizes.items (heads_in store) store.free.items head.earlier at head.later bound_all whole.hung head.is))
      (omega (arith, pulled-inside, linked)) (omega (arith, pulled-inside, framed)))

  pulled-frames : length (slice_set store.frames.items slot (slice_index_or store.frames.items (slice_index_or store.nexts.items slot 0) 0)) ≡ bound_all
  pulled-frames = length-set store.frames.items slot (slice_index_or store.frames.items (slice_index_or store.nexts.items slot 0) 0) ∙ whole.hung.framed

  pulled-nexts : length (slice_set store.nexts.items slot (slice_index_or store.nexts.items (slice_index_or store.nexts.items slot 0) 0)) ≡ bound_all
  pulled-nexts = length-set store.nexts.items slot (slice_index_or store.nexts.items (slice_index_or store.nexts.items slot 0) 0) ∙ whole.hung.linked

  pub pulled-whole : IsWholeStore (pulled_store store at slot) (slice_index_or store.nexts.items slot 0 ∷ store.free.items)
  pulled-whole = record {
    holds = whole.holds;
    even = whole.even;
    hung = less-hung store.frames.items store.nexts.items store.sizes.items (heads_in store) store.free.items head.earlier at head.later bound_all (slice_index_or store.nexts.items slot 0) j
        (slice_set store.frames.items slot (slice_index_or store.frames.items (slice_index_or store.nexts.items slot 0) 0)) (slice_set store.nexts.items slot (slice_index_or store.nexts.items (slice_index_or store.nexts.items slot 0) 0))
        whole.hung head.is (omega (arith, more)) pulled-frames pulled-nexts
        (apart-set (hanging store.nexts.items store.sizes.items at) store.frames.items slot (slice_index_or store.frames.items (slice_index_or store.nexts.items slot 0) 0) slot-stands)
        (apart-set (hanging store.nexts.items store.sizes.items at) store.nexts.items slot (slice_index_or store.nexts.items (slice_index_or store.nexts.items slot 0) 0) slot-stands)
        pulled-short;
    few = whole.few;
    low = whole.low;
    room = record { nodes = whole.room.nodes; frames = whole.room.frames; nexts = whole.room.nexts; sizes = whole.room.sizes; free = whole.room.free };
  }

  pub pulled-chains : IsWithout store (pulled_store store at slot) at j
  pulled-chains earlier later is =
      let chain = head-chain store earlier at later is in
      rw chain (rw is (less-chains store.frames.items store.nexts.items store.sizes.items (heads_in store) store.free.items earlier at later bound_all (slice_index_or store.nexts.items slot 0) j
      (slice_set store.frames.items slot (slice_index_or store.frames.items (slice_index_or store.nexts.items slot 0) 0)) (slice_set store.nexts.items slot (slice_index_or store.nexts.items (slice_index_or store.nexts.items slot 0) 0))
      whole.hung is (omega (arith, more)) pulled-frames pulled-nexts
      (apart-set (hanging store.nexts.items store.sizes.items at) store.frames.items slot (slice_index_or store.frames.items (slice_index_or store.nexts.items slot 0) 0) slot-stands)
      (apart-set (hanging store.nexts.items store.sizes.items at) store.nexts.items slot (slice_index_or store.nexts.items (slice_index_or store.nexts.items slot 0) 0) slot-stands)
      pulled-short))

-- What is read and written where the next group takes a slot, and what the store is then.
pub record IsPulling (store : Store) (at slot following : ℕ) : Type 0 where
  pub framed : slot < length store.frames.items
  pub linked : slot < length store.nexts.items
  pub next_framed : slice_index_or store.nexts.items slot 0 < length store.frames.items
  pub next_linked : slice_index_or store.nexts.items slot 0 < length store.nexts.items
  pub sized : at < length store.sizes.items
  pub whole : IsWholeStore (pulled_store store at slot) (slice_index_or store.nexts.items slot 0 ∷ store.free.items)
  pub chains : IsWithout store (pulled_store store at slot) at (slice_index_or store.sizes.items at 0 - 1 - following)

pub pulling : {store : Store} {at slot following : ℕ} → IsWholeStore store store.free.items → IsHead store at → (1 ≤ following) × (following < slice_index_or store.sizes.items at 0)
    → slot ≡ slice_index_or (hanging store.nexts.items store.sizes.items at) (slice_index_or store.sizes.items at 0 - 1 - following) 0 → IsPulling store at slot following
pulling {store} {at} {slot} {following} whole head stands put_in =
    let facts = head-facts store store.free.items at whole head in
    let j : ℕ = slice_index_or store.sizes.items at 0 - 1 - following in
    let more : j + 1 < slice_index_or store.sizes.items at 0 = let a = stands.0 in let b = stands.1 in omega (arith, a, b) in
    let inside = pulled-inside store at slot j whole head more put_in in
    let next = next-inside store at slot j whole head more put_in in
    record {
      framed = omega (arith, inside, facts.framed);
      linked = omega (arith, inside, facts.linked);
      next_framed = omega (arith, next, facts.framed);
      next_linked = omega (arith, next, facts.linked);
      sized = omega (arith, facts.inside, facts.sized);
      whole = pulled-whole store at slot j whole head more put_in;
      chains = pulled-chains store at slot j whole head more put_in;
    }

-- what was read there
pub record IsRead (store : Store) (at slot next frame link groups : ℕ) : Type 0 where
  pub next_is : next ≡ slice_index_or store.nexts.items slot 0
  pub frame_is : frame ≡ slice_index_or store.frames.items next 0
  pub link_is : link ≡ slice_index_or store.nexts.items next 0
  pub groups_are : groups ≡ slice_index_or store.sizes.items at 0

pub pulled-read : {store : Store} {at slot following next frame link groups : ℕ} → IsPulling store at slot following → next ≡ slice_index_or store.nexts.items slot next → frame ≡ slice_index_or store.frames.items next frame
    → link ≡ slice_index_or store.nexts.items next link → groups ≡ slice_index_or store.sizes.items at groups → IsRead store at slot next frame link groups
pulled-read {store} {at} {slot} {following} {next} {frame} {link} {groups} is one two three four =
    let next_is = get_or_read store.nexts.items slot next is.linked one 0 in
    record {
      next_is = next_is;
      frame_is = get_or_read store.frames.items next frame (rw next_is is.next_framed) two 0;
      link_is = get_or_read store.nexts.items next link (rw next_is is.next_linked) three 0;
      groups_are = get_or_read store.sizes.items at groups is.sized four 0;
    }
