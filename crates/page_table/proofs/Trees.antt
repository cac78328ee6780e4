-- The tree of groups has the groups of each content in order of creation, whatever happens to the table.
use Rattle.page_table.proofs.Base.{◌≡◌, ◌≢◌, ◌∙◌, ℕ, zero, suc, ◌<◌, ◌≤◌, ◌==◌, nat_lt, Bool, true, List, [], ◌∷◌, length, filter, find, slice_index_or, slice_set, All, refl, arith, concat, get_or-set_other, length-set, sum_by-append, nat_tests, page_at, Groups, IsChain, has, content, has-itself, TableState, CountsState, IsSound, IsTreeOf, times, pages_on, is_open_frame, without-length, times-gone, times-kept}
use Rattle.page_table.proofs.Ending.{but}
use Rattle.page_table.proofs.Entries.{one_when, times-head, times-tail, one_if_zero-above, group_of, times-cons, page-on}

-- a number that stands nowhere
pub nowhere : (f : ℕ) (xs : List ℕ) → times f xs ≡ 0 → All (λ g. g ≢ f) xs
nowhere f [] none = grind arith
nowhere f (x ∷ xs) none = grind (arith, nat_tests, times-cons f x xs, nowhere f xs)

-- a number passes a test as often as it stands there
times-filter : (f : ℕ) (test : ℕ → Bool) (xs : List ℕ) → test f ≡ true → times f (filter test xs) ≡ times f xs
times-filter f test [] passes = refl
times-filter f test (x ∷ xs) passes = grind (arith, nat_tests, times-cons f x xs, times-cons f x (filter test xs), times-filter f test xs)

-- lists with the same numbers are as long
same-length : (n : ℕ) (xs ys : List ℕ) → length xs ≤ n → ((f : ℕ) → times f xs ≡ times f ys) → length xs ≡ length ys
same-length n [] [] few same = refl
same-length n [] (y ∷ ys) few same = grind (arith, times-head y ys, same y)
same-length zero (x ∷ xs) ys few same = absurd (omega (arith, few))
same-length (suc n) (x ∷ xs) ys few same =
    let left = without-length x (x ∷ xs) in
    let here = times-head x xs in
    omega (arith, same-length n (but x (x ∷ xs)) (but x ys) (omega (arith, left, here, few)) less, left, without-length x ys, same x)
  where
    less : (f : ℕ) → times f (but x (x ∷ xs)) ≡ times f (but x ys)
    less f = grind (arith, times-gone x (x ∷ xs), times-gone x ys, times-kept x f (x ∷ xs), times-kept x f ys, same f)

module _ (arena : List (List ℕ)) (groups : List ℕ) (tree : Groups) (is : IsTreeOf arena groups tree) where
  pub tree-times : (f : ℕ) → times f (concat tree.chains) ≡ times f groups
  tree-times f = grind (arith, times-filter f (has arena (page_at arena f)), has-itself arena f, is.listed (page_at arena f))

  pub tree-length : length (concat tree.chains) ≡ length groups
  tree-length = same-length (length (concat tree.chains)) (concat tree.chains) groups (omega arith) tree-times

  pub tree-absent : (f : ℕ) → times f groups ≡ 0 → All (λ g. g ≢ f) (concat tree.chains)
  tree-absent f none = nowhere f (concat tree.chains) (tree-times f ∙ none)

-- a number that stands at an index
stands : (xs : List ℕ) (i d : ℕ) → i < length xs → 1 ≤ times (slice_index_or xs i d) xs
stands [] i d h = absurd (omega (arith, h))
stands (x ∷ xs) zero d h = times-head x xs
stands (x ∷ xs) (suc i) d h = let rest = stands xs i d (omega arith) in let more = times-tail (slice_index_or xs i d) x xs in omega (arith, rest, more)

-- a number of a chain is one of all
in-chain : (chains : List (List ℕ)) (k : ℕ) (d : List ℕ) (f : ℕ) → k < length chains → 1 ≤ times f (slice_index_or chains k d) → 1 ≤ times f (concat chains)
in-chain [] k d f h some = absurd (omega (arith, h))
in-chain (c ∷ cs) zero d f h some = let split = sum_by-append (λ (y : ℕ). one_when (y == f)) c (concat cs) in omega (arith, split, some)
in-chain (c ∷ cs) (suc k) d f h some = grind (arith, nat_tests, sum_by-append, in-chain cs k d f)

-- frames whose pages stay have their bytes still
filter-kept : (old new : List (List ℕ)) (bytes xs : List ℕ) → ((f : ℕ) → 1 ≤ times f xs → page_at new f ≡ page_at old f) → filter (has new bytes) xs ≡ filter (has old bytes) xs
filter-kept old new bytes [] same = refl
filter-kept old new bytes (x ∷ xs) same = grind (arith, nat_tests, times-tail, times-head, filter-kept old new bytes xs)

module _ (old new : List (List ℕ)) (size : length new ≡ length old) where
  entry_content-kept : (chain : List ℕ) → 0 < length chain → ((f : ℕ) → 1 ≤ times f chain → page_at new f ≡ page_at old f) → content new chain ≡ content old chain
  entry_content-kept chain filled same = same (slice_index_or chain 0 0) (stands chain 0 0 filled)

  chain-kept : (chain : List ℕ) → IsChain old chain → ((f : ℕ) → 1 ≤ times f chain → page_at new f ≡ page_at old f) → IsChain new chain
  chain-kept chain is same = grind (arith, nat_tests, stands chain, entry_content-kept chain is.filled same)

  pub tree-kept : (groups : List ℕ) (tree : Groups) → IsTreeOf old groups tree → ((f : ℕ) → 1 ≤ times f groups → page_at new f ≡ page_at old f) → IsTreeOf new groups tree
  tree-kept groups tree is same = let in_tree : (f : ℕ) → 1 ≤ times f (concat tree.chains) → page_at new f ≡ page_at old f = λ f some. grind (arith, tree-times old groups tree is f, same f) in grind (arith, chain-kept, in-chain, entry_content-kept, filter-kept old new, in_tree, is.listed)

-- another page in a frame that no group has
pub tree-set : (arena : List (List ℕ)) (groups : List ℕ) (tree : Groups) (f : ℕ) (page : List ℕ) → IsTreeOf arena groups tree → times f groups ≡ 0 → IsTreeOf (slice_set arena f page) groups tree
tree-set arena groups tree f page h1 h2 =
    grind (arith, nat_tests, tree-kept arena (slice_set arena f page) (length-set arena f page) groups tree, length-set arena f page, get_or-set_other arena f)

-- one test after another
pub filter-filter : (p q : ℕ → Bool) (xs : List ℕ) → filter p (filter q xs) ≡ filter q (filter p xs)
filter-filter p q [] = refl
filter-filter p q (x ∷ xs) = grind (arith, filter-filter p q xs)

-- the earliest open group is among those that have the bytes
pub find-open : (table : TableState) (counts bytes : List ℕ) (limit : ℕ) (gs : List ℕ) → ((f : ℕ) → 1 ≤ times f gs → slice_index_or counts f 0 ≡ pages_on f table.entries)
    → find (λ f. nat_lt (slice_index_or counts f 0) limit) (filter (has table.arena bytes) gs) ≡ find (is_open_frame table bytes limit) gs
find-open table counts bytes limit [] same = refl
find-open table counts bytes limit (g ∷ gs) same =
    grind (arith, same g (times-head g gs), find-open table counts bytes limit gs (λ f some. let more = times-tail f g gs in same f (omega (arith, some, more))))

module _ (table : TableState) (counts : CountsState) (tree : Groups) (sound : IsSound table counts) (is : IsTreeOf table.arena table.groups tree) where
  -- there is room for one more group
  pub tree-room : length (concat tree.chains) < tree.room
  tree-room = omega (arith, tree-length table.arena table.groups tree is, is.room, sound.counted.used)

  counted : (f : ℕ) → 1 ≤ times f table.groups → slice_index_or counts.counts f 0 ≡ pages_on f table.entries
  counted f h1 = grind (arith, nat_tests, one_if_zero-above f, group_of, page-on)

  -- the earliest open group is the earliest one of its bytes in the tree
  pub found-open : (bytes : List ℕ) (limit : ℕ) (gs : List ℕ) → gs ≡ filter (has table.arena bytes) (concat tree.chains)
      → find (λ f. nat_lt (slice_index_or counts.counts f 0) limit) gs ≡ find (is_open_frame table bytes limit) table.groups
  found-open bytes limit gs e = grind (arith, nat_tests, find-open table counts.counts bytes limit table.groups counted, counted)
