-- How many contents have more than one group, reported by the chains of the tree: of all contents one is taken out
-- after another, and how often it occurs is the length of its chain.
use Rattle.page_table.proofs.Base.{◌≡◌, ◌≢◌, ◌⊎◌, ⊎_elim, ℕ, suc, ◌+◌, nat_lt, not, bytes_eq, true, false, if◌then◌else◌, List, [], ◌∷◌, ◌++◌, length, map, filter, slice_index_or, All, AllPairs, refl, ap, arith, concat, Less, length-append, append-nil, All-tail, filter-append, sum_by-cons, sum_by-append, is_eq-slice_cmp, bytes_eq-Decides, nat_tests, All-head, times_among, repeated_among, seconds_following, page_at, Groups, IsChain, has, content, order, many_in, dups_in, chains_among, dups_among, filter-chain, filter-no_chain, IsTreeOf}
use Rattle.page_table.proofs.Entries.{one_when}

-- all contents but one
abbrev out : List ℕ → List (List ℕ) → List (List ℕ)
out c all = filter (λ other. not (bytes_eq other c)) all

says : (x c : List ℕ) → ((bytes_eq x c ≡ true) × (x ≡ c)) ⊎ ((bytes_eq x c ≡ false) × (x ≢ c))
says x c = grind (arith, nat_tests, bytes_eq-Decides)

differ : (x c : List ℕ) → x ≢ c → bytes_eq x c ≡ false
differ x c ne = ⊎_elim (λ is. absurd (ne is.1)) (λ is. is.0) (says x c)

times-cons : (b x : List ℕ) (xs : List (List ℕ)) → times_among b (x ∷ xs) ≡ one_when (bytes_eq x b) + times_among b xs
unfolding times_among
times-cons b x xs = sum_by-cons (λ (other : List ℕ). if bytes_eq other b then 1 else 0) x xs

times-none : (b : List ℕ) → times_among b [] ≡ 0
unfolding times_among
times-none b = refl

times-gone : (c : List ℕ) (xs : List (List ℕ)) → times_among c (out c xs) ≡ 0
times-gone c [] = times-none c
times-gone c (x ∷ xs) = grind (arith, times-cons c x (out c xs), times-gone c xs)

times-other : (b c : List ℕ) (xs : List (List ℕ)) → b ≢ c → times_among b (out c xs) ≡ times_among b xs
times-other b c [] ne = refl
times-other b c (x ∷ xs) ne = grind (arith, times-cons b x xs, times-cons b x (out c xs), (bytes_eq-Decides x c).0, (bytes_eq-Decides x b).0, times-other b c xs)

seconds-none : (before : List (List ℕ)) → seconds_following before [] ≡ 0
unfolding seconds_following
seconds-none before = refl

-- the second one of a content, and those of all others
seconds-split : (c : List ℕ) (before xs : List (List ℕ)) → seconds_following before xs + many_in (times_among c before) ≡ many_in (times_among c before + times_among c xs) + seconds_following (out c before) (out c xs)
unfolding times_among seconds_following
seconds-split c before [] = grind (arith, times-none c, seconds-none before, seconds-none (out c before))
seconds-split c before (x ∷ xs) = grind (arith, nat_tests, filter-append, append-nil, bytes_eq-Decides, sum_by-append, times-cons, times-none, times-other, seconds-split c (before ++ x ∷ []) xs)

-- as many, where a content occurs more than once
abbrev share : ℕ → ℕ → ℕ
share n m = if nat_lt 1 n then m else 0

repeated-cons : (all : List (List ℕ)) (x : List ℕ) (xs : List (List ℕ)) → repeated_among all (x ∷ xs) ≡ many_in (times_among x all) + repeated_among all xs
unfolding repeated_among
repeated-cons all x xs = sum_by-cons (λ (bytes : List ℕ). if nat_lt 1 (times_among bytes all) then 1 else 0) x xs

repeated-none : (all : List (List ℕ)) → repeated_among all [] ≡ 0
unfolding repeated_among
repeated-none all = refl

-- those of a content, and those of all others
repeated-split : (c : List ℕ) (all xs : List (List ℕ)) → repeated_among all xs ≡ share (times_among c all) (times_among c xs) + repeated_among (out c all) (out c xs)
repeated-split c all [] = grind (arith, times-none c, repeated-none all, repeated-none (out c all))
repeated-split c all (x ∷ xs) =
    grind (arith, nat_tests, times-cons c x xs, (bytes_eq-Decides x c).0, (bytes_eq-Decides x c).1, repeated-cons all x xs, repeated-cons (out c all) x (out c xs), times-other x c all, repeated-split c all xs)

module _ (arena : List (List ℕ)) where
  -- as many frames have the bytes
  pub times-has : (b : List ℕ) (frames : List ℕ) → times_among b (map (page_at arena) frames) ≡ length (filter (has arena b) frames)
  times-has b [] = times-none b
  times-has b (f ∷ fs) = grind (arith, times-cons b (page_at arena f) (map (page_at arena) fs), times-has b fs)

  -- no other chain has the content of the first one
  unlike : (chain : List ℕ) (chains : List (List ℕ)) → All (IsChain arena) (chain ∷ chains) → AllPairs (λ c d. order (content arena c) (content arena d) ≡ Less) (chain ∷ chains) → filter (has arena (content arena chain)) (concat chains) ≡ []
  unlike chain chains are ascending =
      filter-no_chain arena (content arena chain) chains (All-tail (IsChain arena) chain chains are)
      (λ i less. grind (arith, ascending 0 (suc i) [], is_eq-slice_cmp (content arena chain) (content arena (slice_index_or chains i [])), (bytes_eq-Decides (content arena chain) (content arena (slice_index_or chains i []))).1, differ (content arena (slice_index_or chains i [])) (content arena chain)))

  -- as often as the first chain is long, its content occurs, and without it all others are those of the other chains
  module _ (chain : List ℕ) (chains all : List (List ℕ)) (is : IsChain arena chain) (none : filter (has arena (content arena chain)) (concat chains) ≡ [])
      (same : (b : List ℕ) → times_among b all ≡ length (filter (has arena b) (concat (chain ∷ chains)))) where
    whole : times_among (content arena chain) all ≡ length chain
    whole = grind (arith, nat_tests, filter-append, filter-chain, length-append, (bytes_eq-Decides (content arena chain) (content arena chain)).1, same (content arena chain))

    less : (b : List ℕ) → times_among b (out (content arena chain) all) ≡ length (filter (has arena b) (concat chains))
    less b = grind (arith, nat_tests, filter-append, filter-chain, length-append, says b (content arena chain), differ, times-gone (content arena chain) all, times-other b (content arena chain) all, same b)

  -- the numbers of contents that occur twice or more are those of the chains
  pub nodes-answer : (chains all : List (List ℕ)) → All (IsChain arena) chains → AllPairs (λ c d. order (content arena c) (content arena d) ≡ Less) chains
      → ((b : List ℕ) → times_among b all ≡ length (filter (has arena b) (concat chains)))
      → (seconds_following [] all ≡ chains_among chains) × (repeated_among all all ≡ dups_among chains)
  unfolding chains_among dups_among
  nodes-answer [] [] are ascending same = (seconds-none [], repeated-none [])
  nodes-answer [] (x ∷ xs) are ascending same = absurd (omega (arith, times-cons x x xs, ap one_when ((bytes_eq-Decides x x).1 refl), same x))
  nodes-answer (chain ∷ chains) all are ascending same =
      let is = All-head (IsChain arena) chain chains are in
      let none = unlike chain chains are ascending in
      let here = whole chain chains all is none same in
      let rest = nodes-answer chains (out (content arena chain) all) (All-tail (IsChain arena) chain chains are) (λ i j d less there. ascending (suc i) (suc j) d (omega arith) (omega arith)) (less chain chains all is none same) in (
        grind (arith, nat_tests, seconds-split (content arena chain) [] all, times-none (content arena chain), here, rest.0, sum_by-cons (λ (one : List ℕ). many_in (length one)) chain chains),
        grind (arith, nat_tests, repeated-split (content arena chain) all all, here, rest.1, sum_by-cons (λ (one : List ℕ). dups_in (length one)) chain chains),
      )

  -- the numbers of the tree are those of the groups' contents
  pub tree-nodes : (groups : List ℕ) (tree : Groups) → IsTreeOf arena groups tree
      → (seconds_following [] (map (page_at arena) groups) ≡ chains_among tree.chains)
      × (repeated_among (map (page_at arena) groups) (map (page_at arena) groups) ≡ dups_among tree.chains)
  tree-nodes groups tree is = grind (arith, nat_tests, nodes-answer tree.chains, times-has)
