-- Chains sorted by content: where a content stands among them.
use Rattle.std.proofs.Common.{◌≡◌, ◌≢◌, ℕ, zero, suc, ◌+◌, ◌<◌, ◌≤◌, Bool, true, false, List, [], ◌∷◌, ◌++◌, length, slice_index_or, filter, All, if◌then◌else◌, ◌&&◌, nat_lt, ⊎_elim, refl, sym, ap, subst, ◌∙◌, arith}
use Rattle.std.specs.List.{concat}
use Rattle.std.specs.Str.{bytes_eq}
use Rattle.std.specs.Ordering.{is_lt, is_eq}
use Rattle.std.specs.declared.cmp.Ordering.{Ordering}
use Rattle.std.specs.declared.cmp.Ordering.TheVariants.{Less, Equal, Greater}
use Rattle.std.proofs.lemmas.Cmp.{nat_list_cmp_total}
use Rattle.std.proofs.lemmas.Map.Text.{is_eq-slice_cmp}
use Rattle.std.proofs.lemmas.Slice.Eq.{bytes_eq-Decides}
use borrow.Author.Tests.{ltb-true, lt-ltb}
use Rattle.std.proofs.lemmas.Bool.{cases_lt, cases_eq}
use Rattle.std.proofs.lemmas.List.{append-nil}
use Rattle.std.proofs.lemmas.List.Elements.{All-tail, filter-append}
use Rattle.stable_tree.specs.Groups.{IsChain, IsSorted, IsCutAt, has, content, order, is_before, is_there}

pub is_lt-less : (o : Ordering) → is_lt o ≡ true → o ≡ Less
is_lt-less Less h = refl
is_lt-less Equal h = cc
is_lt-less Greater h = cc

pub less-is_lt : (o : Ordering) → o ≡ Less → is_lt o ≡ true
less-is_lt o h = ap is_lt h

-- the frame of a chain's earliest group is one of the arena
pub first-there : (arena chains : List (List ℕ)) (i : ℕ) → IsSorted arena chains → i < length chains → slice_index_or (slice_index_or chains i []) 0 0 < length arena
first-there arena chains i sorted h = let is = sorted.alike i [] h in is.there 0 0 is.filled

-- what comes before a content comes before all that this comes before
pub before-earlier : (arena : List (List ℕ)) (bytes : List ℕ) (chains : List (List ℕ)) (i j : ℕ) → IsSorted arena chains → i < j → j < length chains → is_before arena bytes (slice_index_or chains j []) ≡ true → is_before arena bytes (slice_index_or chains i []) ≡ true
before-earlier arena bytes chains i j sorted less h before =
    less-is_lt _ (nat_list_cmp_total.trans (content arena (slice_index_or chains i [])) (content arena (slice_index_or chains j [])) bytes (sorted.ascending i j [] less h) (is_lt-less _ before))

false-unless : (b : Bool) → (b ≡ true → ⊥) → b ≡ false
false-unless true h = absurd (h refl)
false-unless false h = refl

-- a chain that comes before the bytes, and all before it
pub all-before : (arena : List (List ℕ)) (bytes : List ℕ) (chains : List (List ℕ)) (j : ℕ) → IsSorted arena chains → j < length chains → is_before arena bytes (slice_index_or chains j []) ≡ true → (i : ℕ) → i < j + 1 → is_before arena bytes (slice_index_or chains i []) ≡ true
all-before arena bytes chains j sorted h before i less =
    ⊎_elim
    (λ (low : i < j). before-earlier arena bytes chains i j sorted low h before)
    (λ (high : j ≤ i). let same : j ≡ i = omega arith in subst (λ n. is_before arena bytes (slice_index_or chains n []) ≡ true) same before)
    (cases_lt i j)

-- a chain that doesn't come before the bytes, and all after it
pub none-before : (arena : List (List ℕ)) (bytes : List ℕ) (chains : List (List ℕ)) (j : ℕ) → IsSorted arena chains → is_before arena bytes (slice_index_or chains j []) ≡ false → (i : ℕ) → j ≤ i → i < length chains → is_before arena bytes (slice_index_or chains i []) ≡ false
none-before arena bytes chains j sorted following i le h =
    false-unless _ (λ e. none_then e)
  where
    none_then : is_before arena bytes (slice_index_or chains i []) ≡ true → ⊥
    none_then e =
        ⊎_elim
        (λ (less : j < i). let before = before-earlier arena bytes chains j i sorted less h e in cc)
        (λ (high : i ≤ j). let same : i ≡ j = omega arith in let before = subst (λ n. is_before arena bytes (slice_index_or chains n []) ≡ true) same e in cc)
        (cases_lt j i)

-- a list whose elements all answer a test alike
filter-alike : (test : ℕ → Bool) (b : Bool) (xs : List ℕ) → ((i : ℕ) → i < length xs → test (slice_index_or xs i 0) ≡ b) → filter test xs ≡ (if b then xs else [])
filter-alike test true [] all = refl
filter-alike test false [] all = refl
filter-alike test true (x ∷ xs) all =
    let first : test x ≡ true = all 0 (omega arith) in
    rw first (ap (λ l. x ∷ l) (filter-alike test true xs (λ i h. all (suc i) (omega arith))))
filter-alike test false (x ∷ xs) all =
    let first : test x ≡ false = all 0 (omega arith) in
    rw first (filter-alike test false xs (λ i h. all (suc i) (omega arith)))

-- a chain has the bytes whole, or not at all
pub filter-chain : (arena : List (List ℕ)) (bytes chain : List ℕ) → IsChain arena chain → filter (has arena bytes) chain ≡ (if bytes_eq (content arena chain) bytes then chain else [])
filter-chain arena bytes chain is =
    filter-alike (has arena bytes) (bytes_eq (content arena chain) bytes) chain (λ i h. ap (λ page. bytes_eq page bytes) (is.alike i 0 h))

-- no chain has the bytes
pub filter-no_chain : (arena : List (List ℕ)) (bytes : List ℕ) (chains : List (List ℕ)) → All (IsChain arena) chains → ((i : ℕ) → i < length chains → bytes_eq (content arena (slice_index_or chains i [])) bytes ≡ false) → filter (has arena bytes) (concat chains) ≡ []
filter-no_chain arena bytes [] are unlike = refl
filter-no_chain arena bytes (c ∷ cs) are unlike =
    let first : bytes_eq (content arena c) bytes ≡ false = unlike 0 (omega arith) in
    let here : filter (has arena bytes) c ≡ [] = filter-chain arena bytes c (are 0 [] (omega arith)) ∙ ap (λ (b : Bool). if b then c else []) first in
    filter-append (has arena bytes) c (concat cs)
    ∙ ap (λ l. l ++ filter (has arena bytes) (concat cs)) here
    ∙ filter-no_chain arena bytes cs (All-tail (IsChain arena) c cs are) (λ i h. unlike (suc i) (omega arith))

-- at most one chain has the bytes
filter-one_chain : (arena : List (List ℕ)) (bytes : List ℕ) (chains : List (List ℕ)) (k : ℕ) → All (IsChain arena) chains → ((i : ℕ) → i ≢ k → i < length chains → bytes_eq (content arena (slice_index_or chains i [])) bytes ≡ false) → filter (has arena bytes) (concat chains) ≡ filter (has arena bytes) (slice_index_or chains k [])
filter-one_chain arena bytes [] k are unlike = refl
filter-one_chain arena bytes (c ∷ cs) zero are unlike =
    filter-append (has arena bytes) c (concat cs)
    ∙ ap (λ l. filter (has arena bytes) c ++ l) (filter-no_chain arena bytes cs (All-tail (IsChain arena) c cs are) (λ i h. unlike (suc i) (λ e. omega (arith, e)) (omega arith)))
    ∙ append-nil (filter (has arena bytes) c)
filter-one_chain arena bytes (c ∷ cs) (suc k) are unlike =
    let first : bytes_eq (content arena c) bytes ≡ false = unlike 0 (λ e. omega (arith, e)) (omega arith) in
    let here : filter (has arena bytes) c ≡ [] = filter-chain arena bytes c (are 0 [] (omega arith)) ∙ ap (λ (b : Bool). if b then c else []) first in
    filter-append (has arena bytes) c (concat cs)
    ∙ ap (λ l. l ++ filter (has arena bytes) (concat cs)) here
    ∙ filter-one_chain arena bytes cs k (All-tail (IsChain arena) c cs are) (λ i ne h. unlike (suc i) (λ e. ne (omega (arith, e))) (omega arith))

-- only the chain at the cut may have the bytes
pub earlier-chain : (arena : List (List ℕ)) (bytes : List ℕ) (chains : List (List ℕ)) (i : ℕ) → is_before arena bytes (slice_index_or chains i []) ≡ true → bytes_eq (content arena (slice_index_or chains i [])) bytes ≡ false
earlier-chain arena bytes chains i before =
    sym (is_eq-slice_cmp (content arena (slice_index_or chains i [])) bytes) ∙ ap is_eq (is_lt-less _ before)

pub later-chain : (arena : List (List ℕ)) (bytes : List ℕ) (chains : List (List ℕ)) (k i : ℕ) → IsSorted arena chains → is_before arena bytes (slice_index_or chains k []) ≡ false → k < i → i < length chains → bytes_eq (content arena (slice_index_or chains i [])) bytes ≡ false
later-chain arena bytes chains k i sorted following less h =
    false-unless _ (λ e.
    let same : content arena (slice_index_or chains i []) ≡ bytes = (bytes_eq-Decides (content arena (slice_index_or chains i [])) bytes).0 e in
    let below : order (content arena (slice_index_or chains k [])) (content arena (slice_index_or chains i [])) ≡ Less = sorted.ascending k i [] less h in
    let before : is_before arena bytes (slice_index_or chains k []) ≡ true = less-is_lt _ (ap (order (content arena (slice_index_or chains k []))) (sym same) ∙ below) in
    cc)

pub other-chain : (arena : List (List ℕ)) (bytes : List ℕ) (chains : List (List ℕ)) (k i : ℕ) → IsSorted arena chains → IsCutAt arena bytes chains k → i ≢ k → i < length chains → bytes_eq (content arena (slice_index_or chains i [])) bytes ≡ false
other-chain arena bytes chains k i sorted at ne h =
    ⊎_elim
    (λ (less : i < k). earlier-chain arena bytes chains i (at.before i less))
    (λ (ge : k ≤ i).
    let less : k < i = omega (arith, ge, ne) in
    later-chain arena bytes chains k i sorted (at.following k (omega arith) (omega (arith, less, h))) less h)
    (cases_lt i k)

pub both : (a b : Bool) → (a && b) ≡ true → (a ≡ true) × (b ≡ true)
both true b h = (refl, h)
both false b h = cc

pub cut-there : (arena : List (List ℕ)) (bytes : List ℕ) (chains : List (List ℕ)) (k : ℕ) → is_there arena bytes chains k ≡ true → k < length chains
cut-there arena bytes chains k there = ltb-true k (length chains) (both (nat_lt k (length chains)) (bytes_eq (content arena (slice_index_or chains k [])) bytes) there).0

-- the chain at the cut, if it has the bytes
pub filter-there : (arena : List (List ℕ)) (bytes : List ℕ) (chains : List (List ℕ)) (k : ℕ) → IsSorted arena chains → IsCutAt arena bytes chains k → is_there arena bytes chains k ≡ true → filter (has arena bytes) (concat chains) ≡ slice_index_or chains k []
filter-there arena bytes chains k sorted at there =
    let tests = both (nat_lt k (length chains)) (bytes_eq (content arena (slice_index_or chains k [])) bytes) there in
    let less : k < length chains = ltb-true k (length chains) tests.0 in
    filter-one_chain arena bytes chains k sorted.alike (λ i ne h. other-chain arena bytes chains k i sorted at ne h)
    ∙ filter-chain arena bytes (slice_index_or chains k []) (sorted.alike k [] less)
    ∙ ap (λ (b : Bool). if b then slice_index_or chains k [] else []) tests.1

-- where the chain at the cut hasn't the bytes, none has
pub unlike-chain : (arena : List (List ℕ)) (bytes : List ℕ) (chains : List (List ℕ)) (k : ℕ) → IsSorted arena chains → IsCutAt arena bytes chains k → is_there arena bytes chains k ≡ false → (i : ℕ) → i < length chains → bytes_eq (content arena (slice_index_or chains i [])) bytes ≡ false
unlike-chain arena bytes chains k sorted at absent i h =
    ⊎_elim (λ (e : i ≡ k). here e) (λ (ne : i ≢ k). other-chain arena bytes chains k i sorted at ne h) (cases_eq i k)
  where
    test : (a b : Bool) → (a && b) ≡ false → a ≡ true → b ≡ false
    test true b h e = h
    test false b h e = cc

    here : i ≡ k → bytes_eq (content arena (slice_index_or chains i [])) bytes ≡ false
    here e = rw e (test (nat_lt k (length chains)) (bytes_eq (content arena (slice_index_or chains k [])) bytes) absent (lt-ltb k (length chains) (omega (arith, h, e))))

pub filter-not_there : (arena : List (List ℕ)) (bytes : List ℕ) (chains : List (List ℕ)) (k : ℕ) → IsSorted arena chains → IsCutAt arena bytes chains k → is_there arena bytes chains k ≡ false → filter (has arena bytes) (concat chains) ≡ []
filter-not_there arena bytes chains k sorted at absent =
    filter-no_chain arena bytes chains sorted.alike (unlike-chain arena bytes chains k sorted at absent)
