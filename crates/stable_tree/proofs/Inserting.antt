-- What the chains are after a group was put in: sorted as before, and after all groups of its content.
use Rattle.std.proofs.Common.{◌≡◌, ℕ, zero, suc, ◌+◌, ◌<◌, ◌≤◌, Bool, true, false, List, [], ◌∷◌, ◌++◌, length, drop, slice_index_or, slice_set, filter, All, refl, sym, ap, subst, ◌∙◌, arith, append_assoc, length-drop, nat_lt}
use Rattle.std.specs.List.{concat, insert}
use Rattle.std.specs.Str.{bytes_eq}
use borrow.Author.Tests.{ltb-true}
use Rattle.std.proofs.lemmas.Slice.Eq.{bytes_eq-Decides}
use Rattle.std.proofs.lemmas.List.{append-nil, get_or-drop}
use Rattle.std.proofs.lemmas.List.Elements.{filter-append, All-drop}
use Rattle.frame_arena.specs.Pages.{page_at}
use Rattle.stable_tree.specs.Groups.{IsChain, IsSorted, IsCutAt, has, content, is_there}
use Rattle.stable_tree.proofs.Sorting.{filter-no_chain, unlike-chain, other-chain, both}

-- a frame at a chain's end, where no chain after it has its bytes
filter-lengthened : (test : ℕ → Bool) (chains : List (List ℕ)) (k f : ℕ) → k < length chains → (test f ≡ true → filter test (concat (drop (suc k) chains)) ≡ [])
    → filter test (concat (slice_set chains k (slice_index_or chains k [] ++ f ∷ []))) ≡ filter test (concat chains) ++ filter test (f ∷ [])
filter-lengthened test [] k f h last = absurd (omega (arith, h))
filter-lengthened test (c ∷ cs) zero f h last =
    filter-append test (c ++ f ∷ []) (concat cs)
    ∙ ap (λ l. l ++ filter test (concat cs)) (filter-append test c (f ∷ []))
    ∙ append_assoc (filter test c) (filter test (f ∷ [])) (filter test (concat cs))
    ∙ ap (λ l. filter test c ++ l) (turned (test f) refl)
    ∙ sym (append_assoc (filter test c) (filter test (concat cs)) (filter test (f ∷ [])))
    ∙ ap (λ l. l ++ filter test (f ∷ [])) (sym (filter-append test c (concat cs)))
  where
    turned : (b : Bool) → test f ≡ b → filter test (f ∷ []) ++ filter test (concat cs) ≡ filter test (concat cs) ++ filter test (f ∷ [])
    turned true e = rw (last e) (append-nil (filter test (f ∷ [])))
    turned false e = let none : filter test (f ∷ []) ≡ [] = rw e refl in rw none (sym (append-nil (filter test (concat cs))))
filter-lengthened test (c ∷ cs) (suc k) f h last =
    filter-append test c (concat (slice_set cs k (slice_index_or cs k [] ++ f ∷ [])))
    ∙ ap (λ l. filter test c ++ l) (filter-lengthened test cs k f (omega arith) last)
    ∙ sym (append_assoc (filter test c) (filter test (concat cs)) (filter test (f ∷ [])))
    ∙ ap (λ l. l ++ filter test (f ∷ [])) (sym (filter-append test c (concat cs)))

-- a new chain, where it and no chain after it has its bytes
filter-added : (test : ℕ → Bool) (chains : List (List ℕ)) (k f : ℕ) → k ≤ length chains → (test f ≡ true → filter test (concat (drop k chains)) ≡ [])
    → filter test (concat (insert chains k (f ∷ []))) ≡ filter test (concat chains) ++ filter test (f ∷ [])
filter-added test chains zero f h last = turned (test f) refl
  where
    turned : (b : Bool) → test f ≡ b → filter test (f ∷ concat chains) ≡ filter test (concat chains) ++ filter test (f ∷ [])
    turned true e = rw (e, last e) refl
    turned false e = rw e (sym (append-nil (filter test (concat chains))))
filter-added test [] (suc k) f h last = absurd (omega (arith, h))
filter-added test (c ∷ cs) (suc k) f h last =
    filter-append test c (concat (insert cs k (f ∷ [])))
    ∙ ap (λ l. filter test c ++ l) (filter-added test cs k f (omega arith) last)
    ∙ sym (append_assoc (filter test c) (filter test (concat cs)) (filter test (f ∷ [])))
    ∙ ap (λ l. l ++ filter test (f ∷ [])) (sym (filter-append test c (concat cs)))

-- chains of which none has the bytes, from a slot on
filter-following : (arena : List (List ℕ)) (bytes : List ℕ) (chains : List (List ℕ)) (k : ℕ) → All (IsChain arena) chains → ((i : ℕ) → k ≤ i → i < length chains → bytes_eq (content arena (slice_index_or chains i [])) bytes ≡ false) → filter (has arena bytes) (concat (drop k chains)) ≡ []
filter-following arena bytes chains k are unlike =
    filter-no_chain arena bytes (drop k chains) (All-drop (IsChain arena) k chains are)
    (λ i h. rw (get_or-drop k chains i []) (unlike (k + i) (omega arith) (let left = length-drop k chains in omega (arith, left, h))))

-- a frame has the bytes of its page alone
has-page : (arena : List (List ℕ)) (bytes : List ℕ) (f : ℕ) → has arena bytes f ≡ true → page_at arena f ≡ bytes
has-page arena bytes f e = (bytes_eq-Decides (page_at arena f) bytes).0 e

module _ (arena chains : List (List ℕ)) (f k : ℕ) (sorted : IsSorted arena chains) (at : IsCutAt arena (page_at arena f) chains k) where
  pub lengthened-answered : is_there arena (page_at arena f) chains k ≡ true → (bytes : List ℕ)
      → filter (has arena bytes) (concat (slice_set chains k (slice_index_or chains k [] ++ f ∷ []))) ≡ filter (has arena bytes) (concat chains) ++ filter (has arena bytes) (f ∷ [])
  lengthened-answered there bytes =
      let less : k < length chains = ltb-true k (length chains) (both (nat_lt k (length chains)) (bytes_eq (content arena (slice_index_or chains k [])) (page_at arena f)) there).0 in
      filter-lengthened (has arena bytes) chains k f less
      (λ e. subst (λ (page : List ℕ). filter (has arena page) (concat (drop (suc k) chains)) ≡ []) (has-page arena bytes f e)
      (filter-following arena (page_at arena f) chains (suc k) sorted.alike (λ i ge h. other-chain arena (page_at arena f) chains k i sorted at (λ same. omega (arith, ge, same)) h)))

  pub added-answered : is_there arena (page_at arena f) chains k ≡ false → (bytes : List ℕ)
      → filter (has arena bytes) (concat (insert chains k (f ∷ []))) ≡ filter (has arena bytes) (concat chains) ++ filter (has arena bytes) (f ∷ [])
  added-answered absent bytes =
      filter-added (has arena bytes) chains k f at.inside
      (λ e. subst (λ (page : List ℕ). filter (has arena page) (concat (drop k chains)) ≡ []) (has-page arena bytes f e)
      (filter-following arena (page_at arena f) chains k sorted.alike (λ i ge h. unlike-chain arena (page_at arena f) chains k sorted at absent i h)))
