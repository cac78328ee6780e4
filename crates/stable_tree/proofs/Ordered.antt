-- The chains stay sorted where a group is put in.
use Rattle.std.proofs.Common.{◌≡◌, ◌≢◌, ℕ, zero, suc, ◌+◌, ◌-◌, ◌<◌, ◌≤◌, true, false, List, [], ◌∷◌, ◌++◌, length, slice_index_or, slice_set, All, AllPairs, nat_lt, ⊎_elim, refl, sym, ap, ◌∙◌, arith, append_assoc, length-append}
use Rattle.std.specs.List.{concat, insert}
use Rattle.std.specs.Str.{bytes_eq}
use Rattle.std.specs.Ordering.{is_lt, is_eq, ordering_reverse}
use Rattle.std.specs.declared.cmp.Ordering.{Ordering}
use Rattle.std.specs.declared.cmp.Ordering.TheVariants.{Less, Equal, Greater}
use borrow.Author.Tests.{ltb-true}
use Rattle.std.proofs.lemmas.Cmp.{nat_list_cmp_total}
use Rattle.std.proofs.lemmas.Map.Text.{is_eq-slice_cmp}
use Rattle.std.proofs.lemmas.Slice.Eq.{bytes_eq-Decides}
use Rattle.std.proofs.lemmas.Bool.{cases_eq}
use Rattle.std.proofs.lemmas.List.{get_or_append_left, get_or_default, get_or-set_same, get_or-set_other, length-set}
use Rattle.std.proofs.lemmas.List.Edits.{insert-append_right}
use Rattle.std.proofs.lemmas.List.Elements.{All-nil, All-cons, All-append, All-set}
use Rattle.frame_arena.specs.Pages.{page_at}
use Rattle.stable_tree.specs.Groups.{IsChain, IsSorted, IsCutAt, content, order, is_there}
use Rattle.stable_tree.proofs.Sorting.{unlike-chain, both, is_lt-less}
use Rattle.stable_tree.proofs.Pairs.{All-insert, AllPairs-insert}

-- what is put into a list is put into what stands before it and the list, so much further after
put-following : (c xs : List ℕ) (f : ℕ) {after : List ℕ} → ((e : ℕ) × (e ≤ length xs) × (after ≡ insert xs e f)) → (e : ℕ) × (e ≤ length (c ++ xs)) × (c ++ after ≡ insert (c ++ xs) e f)
put-following c xs f rest =
    let long = length-append c xs in
    let within = rest.1 in
    let less : length c + rest.0 - length c ≡ rest.0 = omega arith in (
      length c + rest.0,
      omega (arith, long, within),
      ap (λ l. c ++ l) rest.2
          ∙ ap (λ (n : ℕ). c ++ insert xs n f) (sym less)
          ∙ sym (insert-append_right c xs (length c) (length c + rest.0) f refl (omega arith)),
    )

-- where a frame of a new chain stands among all
concat-added : (chains : List (List ℕ)) (k f : ℕ) → k ≤ length chains → (e : ℕ) × (e ≤ length (concat chains)) × (concat (insert chains k (f ∷ [])) ≡ insert (concat chains) e f)
concat-added chains zero f h = (0, omega arith, refl)
concat-added [] (suc k) f h = absurd (omega (arith, h))
concat-added (c ∷ cs) (suc k) f h = put-following c (concat cs) f (concat-added cs k f (omega arith))

-- where a frame at a chain's end stands among all
concat-lengthened : (chains : List (List ℕ)) (k f : ℕ) → k < length chains → (e : ℕ) × (e ≤ length (concat chains)) × (concat (slice_set chains k (slice_index_or chains k [] ++ f ∷ [])) ≡ insert (concat chains) e f)
concat-lengthened [] k f h = absurd (omega (arith, h))
concat-lengthened (c ∷ cs) zero f h =
    let long = length-append c (concat cs) in
    let less : length c - length c ≡ 0 = omega arith in (
      length c,
      omega (arith, long),
      append_assoc c (f ∷ []) (concat cs)
          ∙ ap (λ (n : ℕ). c ++ insert (concat cs) n f) (sym less)
          ∙ sym (insert-append_right c (concat cs) (length c) (length c) f refl (omega arith)),
    )
concat-lengthened (c ∷ cs) (suc k) f h = put-following c (concat cs) f (concat-lengthened cs k f (omega arith))

-- no frame stands twice, where one that stood nowhere is put in
once-inserted : (xs : List ℕ) (e f : ℕ) → e ≤ length xs → AllPairs (λ g h. g ≢ h) xs → All (λ g. g ≢ f) xs → AllPairs (λ g h. g ≢ h) (insert xs e f)
once-inserted xs e f h once fresh =
    AllPairs-insert (λ g h. g ≢ h) xs e f h once (λ i d less. fresh i d (omega (arith, less, h))) (λ i d ge less same. fresh i d less (sym same))

-- what isn't before the bytes and isn't equal to them is after
order-following : (x y : List ℕ) → is_lt (order x y) ≡ false → bytes_eq x y ≡ false → order y x ≡ Less
order-following x y no_less unequal =
    nat_list_cmp_total.antisymm y x ∙ ap ordering_reverse (greater (order x y) no_less (is_eq-slice_cmp x y ∙ unequal))
  where
    greater : (o : Ordering) → is_lt o ≡ false → is_eq o ≡ false → o ≡ Greater
    greater Less l e = cc
    greater Equal l e = cc
    greater Greater l e = refl

-- a chain in place of one of the same content
module _ (arena chains : List (List ℕ)) (k : ℕ) (chain : List ℕ) (there : k < length chains) (same : content arena chain ≡ content arena (slice_index_or chains k [])) where
  pub content-set : (i : ℕ) (d : List ℕ) → i < length chains → content arena (slice_index_or (slice_set chains k chain) i d) ≡ content arena (slice_index_or chains i d)
  content-set i d h =
      ⊎_elim
      (λ (e : i ≡ k). rw e (ap (content arena) (get_or-set_same chains k chain d there) ∙ same ∙ ap (content arena) (get_or_default chains k [] d there)))
      (λ (ne : i ≢ k). ap (content arena) (get_or-set_other chains k i chain d ne))
      (cases_eq i k)

  pub ascending-set : AllPairs (λ c d. order (content arena c) (content arena d) ≡ Less) chains → AllPairs (λ c d. order (content arena c) (content arena d) ≡ Less) (slice_set chains k chain)
  ascending-set ascending i j d less h =
      let size = length-set chains k chain in
      let below : j < length chains = omega (arith, size, h) in
      rw (content-set i d (omega (arith, less, below)), content-set j d below) (ascending i j d less below)

module _ (arena chains : List (List ℕ)) (f k : ℕ) (sorted : IsSorted arena chains) (at : IsCutAt arena (page_at arena f) chains k) (inside : f < length arena) (fresh : All (λ g. g ≢ f) (concat chains)) where
  pub sorted-lengthened : is_there arena (page_at arena f) chains k ≡ true → IsSorted arena (slice_set chains k (slice_index_or chains k [] ++ f ∷ []))
  sorted-lengthened there =
      record {
        alike = All-set (IsChain arena) chains k (chain ++ f ∷ []) longer sorted.alike;
        ascending = ascending-set arena chains k (chain ++ f ∷ []) less first sorted.ascending;
        once = let put_in = concat-lengthened chains k f less in rw put_in.2 (once-inserted (concat chains) put_in.0 f put_in.1 sorted.once fresh);
      }
    where
      chain : List ℕ
      chain = slice_index_or chains k []

      tests : (nat_lt k (length chains) ≡ true) × (bytes_eq (content arena (slice_index_or chains k [])) (page_at arena f) ≡ true)
      tests = both (nat_lt k (length chains)) (bytes_eq (content arena (slice_index_or chains k [])) (page_at arena f)) there

      less : k < length chains
      less = ltb-true k (length chains) tests.0

      is : IsChain arena (slice_index_or chains k [])
      is = sorted.alike k [] less

      first : content arena (slice_index_or chains k [] ++ f ∷ []) ≡ content arena (slice_index_or chains k [])
      first = ap (page_at arena) (get_or_append_left (slice_index_or chains k []) (f ∷ []) 0 0 is.filled)

      equal : page_at arena f ≡ content arena (slice_index_or chains k [])
      equal = sym ((bytes_eq-Decides (content arena (slice_index_or chains k [])) (page_at arena f)).0 tests.1)

      longer : IsChain arena (slice_index_or chains k [] ++ f ∷ [])
      longer = record {
        filled = let size = length-append (slice_index_or chains k []) (f ∷ []) in omega (arith, size);
        there = All-append (λ g. g < length arena) (slice_index_or chains k []) (f ∷ []) is.there (All-cons (λ g. g < length arena) f [] inside (All-nil (λ g. g < length arena)));
        alike = rw first (All-append (λ g. page_at arena g ≡ content arena (slice_index_or chains k [])) (slice_index_or chains k []) (f ∷ []) is.alike
            (All-cons (λ g. page_at arena g ≡ content arena (slice_index_or chains k [])) f [] equal (All-nil (λ g. page_at arena g ≡ content arena (slice_index_or chains k [])))));
      }

  pub sorted-added : is_there arena (page_at arena f) chains k ≡ false → IsSorted arena (insert chains k (f ∷ []))
  sorted-added absent =
      record {
        alike = All-insert (IsChain arena) chains k (f ∷ []) single sorted.alike;
        ascending = AllPairs-insert (λ c d. order (content arena c) (content arena d) ≡ Less) chains k (f ∷ []) at.inside sorted.ascending
            (λ i d less. rw (get_or_default chains i d [] (let within = at.inside in omega (arith, within, less))) (is_lt-less _ (at.before i less)))
            (λ i d ge less. rw (get_or_default chains i d [] less) (order-following (content arena (slice_index_or chains i [])) (page_at arena f) (at.following i ge less) (unlike-chain arena (page_at arena f) chains k sorted at absent i less)));
        once = let put_in = concat-added chains k f at.inside in rw put_in.2 (once-inserted (concat chains) put_in.0 f put_in.1 sorted.once fresh);
      }
    where
      single : IsChain arena (f ∷ [])
      single = record {
        filled = omega arith;
        there = All-cons (λ g. g < length arena) f [] inside (All-nil (λ g. g < length arena));
        alike = All-cons (λ g. page_at arena g ≡ page_at arena f) f [] refl (All-nil (λ g. page_at arena g ≡ page_at arena f));
      }
