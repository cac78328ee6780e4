-- What the chains are after a group was taken out.
use Rattle.std.proofs.Common.{◌≡◌, ◌≢◌, ℕ, zero, suc, ◌+◌, ◌-◌, ◌<◌, ◌≤◌, ◌==◌, not, Bool, true, false, List, [], ◌∷◌, ◌++◌, length, take, drop, slice_index_or, slice_set, filter, All, AllPairs, refl, sym, ap, ◌∙◌, arith, length-append}
use Rattle.std.specs.List.{concat, remove}
use Rattle.std.specs.declared.cmp.Ordering.TheVariants.{Less}
use Rattle.std.proofs.lemmas.Slice.Eq.{bytes_eq-Decides}
use Rattle.std.proofs.lemmas.List.{get_or_append_left, get_or-append-add}
use Rattle.std.proofs.lemmas.List.Edits.{remove-append_left, remove-append_right, length-remove}
use Rattle.std.proofs.lemmas.List.Elements.{All-nil, All-cons, All-tail, All-append, All-take, All-drop, All-set}
use Rattle.std.proofs.lemmas.List.Kept.{AllPairs-filter}
use Rattle.std.proofs.lemmas.List.Quantifiers.{all_pairs_remove}
use Rattle.std.proofs.lemmas.Bool.Decides.{nat_tests}
use Rattle.frame_arena.specs.Pages.{page_at}
use Rattle.stable_tree.specs.Groups.{IsChain, IsSorted, has, content, order}
use Rattle.stable_tree.proofs.Ordered.{ascending-set}

-- a number that passes a test, and isn't among those that do, is nowhere
pub absent : (test : ℕ → Bool) (xs : List ℕ) (f : ℕ) → test f ≡ true → All (λ g. g ≢ f) (filter test xs) → All (λ g. g ≢ f) xs
absent test [] f passes all = All-nil (λ g. g ≢ f)
absent test (x ∷ xs) f passes all = by_test (test x) refl (λ rest. absent test xs f passes rest)
  where
    by_test : (b : Bool) → test x ≡ b → (All (λ g. g ≢ f) (filter test xs) → All (λ g. g ≢ f) xs) → All (λ g. g ≢ f) (x ∷ xs)
    by_test true e following =
        let both : All (λ g. g ≢ f) (x ∷ filter test xs) = rw e at all in
        All-cons (λ g. g ≢ f) x xs (both 0 x (omega arith)) (following (All-tail (λ g. g ≢ f) x (filter test xs) both))
    by_test false e following =
        let rest : All (λ g. g ≢ f) (filter test xs) = rw e at all in
        All-cons (λ g. g ≢ f) x xs (λ same. let passed : test x ≡ true = ap test same ∙ passes in cc) (following rest)

-- a frame has the bytes of its page
pub has-itself : (arena : List (List ℕ)) (f : ℕ) → has arena (page_at arena f) f ≡ true
has-itself arena f = (bytes_eq-Decides (page_at arena f) (page_at arena f)).1 refl

other : (x f : ℕ) → x ≢ f → (x == f) ≡ false
other x f ne = grind (arith, nat_tests)

-- a number that is nowhere can't be taken out
pub filter-absent : (xs : List ℕ) (f : ℕ) → All (λ g. g ≢ f) xs → filter (λ g. not (g == f)) xs ≡ xs
filter-absent [] f all = refl
filter-absent (x ∷ xs) f all =
    rw (other x f (all 0 x (omega arith))) (ap (λ l. x ∷ l) (filter-absent xs f (All-tail (λ g. g ≢ f) x xs all)))

-- a number that stands once
remove-once : (xs : List ℕ) (e f : ℕ) → AllPairs (λ g h. g ≢ h) xs → e < length xs → slice_index_or xs e 0 ≡ f → remove xs e ≡ filter (λ g. not (g == f)) xs
remove-once [] e f once h is = absurd (omega (arith, h))
remove-once (x ∷ xs) zero f once h is =
    let here : (x == f) ≡ true = grind (arith, nat_tests) in
    rw here (sym (filter-absent xs f (λ i d less same. once 0 (suc i) d (omega arith) (omega arith) (is ∙ sym same))))
remove-once (x ∷ xs) (suc e) f once h is =
    rw (other x f (λ same. once 0 (suc e) 0 (omega arith) (omega arith) (same ∙ sym is)))
    (ap (λ l. x ∷ l) (remove-once xs e f (λ i j d less there. once (suc i) (suc j) d (omega arith) (omega arith)) (omega arith) is))

-- where a frame of a chain stands among all
concat-shortened : (chains : List (List ℕ)) (k p : ℕ) → k < length chains → p < length (slice_index_or chains k [])
    → (e : ℕ) × (e < length (concat chains)) × (slice_index_or (concat chains) e 0 ≡ slice_index_or (slice_index_or chains k []) p 0)
    × (concat (slice_set chains k (remove (slice_index_or chains k []) p)) ≡ remove (concat chains) e)
concat-shortened [] k p h slot = absurd (omega (arith, h))
concat-shortened (c ∷ cs) zero p h slot =
    let long = length-append c (concat cs) in
    (p, omega (arith, long, slot), get_or_append_left c (concat cs) 0 p slot, sym (remove-append_left c (concat cs) p slot))
concat-shortened (c ∷ cs) (suc k) p h slot =
    let rest = concat-shortened cs k p (omega arith) slot in
    let long = length-append c (concat cs) in
    let within = rest.1 in
    let less : length c + rest.0 - length c ≡ rest.0 = omega arith in (
      length c + rest.0,
      omega (arith, long, within),
      get_or-append-add c (concat cs) rest.0 0 ∙ rest.2,
      ap (λ l. c ++ l) rest.3
          ∙ ap (λ (n : ℕ). c ++ remove (concat cs) n) (sym less)
          ∙ sym (remove-append_right c (concat cs) (length c) (length c + rest.0) refl (omega arith)),
    )

-- a chain of one frame goes with it
concat-taken_out : (chains : List (List ℕ)) (k p : ℕ) → k < length chains → length (slice_index_or chains k []) ≡ 1 → p < length (slice_index_or chains k [])
    → concat (remove chains k) ≡ concat (slice_set chains k (remove (slice_index_or chains k []) p))
concat-taken_out [] k p h one slot = absurd (omega (arith, h))
concat-taken_out ([] ∷ cs) zero p h one slot = absurd (omega (arith, one))
concat-taken_out ((x ∷ []) ∷ cs) zero zero h one slot = refl
concat-taken_out ((x ∷ []) ∷ cs) zero (suc p) h one slot = absurd (omega (arith, slot))
concat-taken_out ((x ∷ y ∷ c) ∷ cs) zero p h one slot = absurd (omega (arith, one))
concat-taken_out (c ∷ cs) (suc k) p h one slot = ap (λ l. c ++ l) (concat-taken_out cs k p (omega arith) one slot)

All-remove : {X : Type 0} (P : X → Type 0) (xs : List X) (k : ℕ) → All P xs → All P (remove xs k)
All-remove P xs k all = All-append P (take k xs) (drop (suc k) xs) (All-take P k xs all) (All-drop P (suc k) xs all)

module _ (arena chains : List (List ℕ)) (f k p : ℕ) (sorted : IsSorted arena chains) (there : k < length chains) (slot : p < length (slice_index_or chains k [])) (is : slice_index_or (slice_index_or chains k []) p 0 ≡ f) where
  pub shortened-answered : concat (slice_set chains k (remove (slice_index_or chains k []) p)) ≡ filter (λ g. not (g == f)) (concat chains)
  shortened-answered =
      let put_in = concat-shortened chains k p there slot in
      put_in.3 ∙ remove-once (concat chains) put_in.0 f sorted.once put_in.1 (put_in.2 ∙ is)

  pub taken_out-answered : length (slice_index_or chains k []) ≡ 1 → concat (remove chains k) ≡ filter (λ g. not (g == f)) (concat chains)
  taken_out-answered one = concat-taken_out chains k p there one slot ∙ shortened-answered

  pub sorted-taken_out : length (slice_index_or chains k []) ≡ 1 → IsSorted arena (remove chains k)
  sorted-taken_out one =
      record {
        alike = All-remove (IsChain arena) chains k sorted.alike;
        ascending = all_pairs_remove (λ c d. order (content arena c) (content arena d) ≡ Less) chains k there sorted.ascending;
        once = rw (taken_out-answered one) (AllPairs-filter (λ g h. g ≢ h) (λ g. not (g == f)) (concat chains) sorted.once);
      }

  pub sorted-shortened : 2 ≤ length (slice_index_or chains k []) → IsSorted arena (slice_set chains k (remove (slice_index_or chains k []) p))
  sorted-shortened two =
      record {
        alike = All-set (IsChain arena) chains k (remove (slice_index_or chains k []) p) shorter sorted.alike;
        ascending = ascending-set arena chains k (remove (slice_index_or chains k []) p) there same sorted.ascending;
        once = rw shortened-answered (AllPairs-filter (λ g h. g ≢ h) (λ g. not (g == f)) (concat chains) sorted.once);
      }
    where
      old : IsChain arena (slice_index_or chains k [])
      old = sorted.alike k [] there

      filled : 0 < length (remove (slice_index_or chains k []) p)
      filled = let size = length-remove (slice_index_or chains k []) p slot in omega (arith, size, two)

      kept : All (λ g. page_at arena g ≡ content arena (slice_index_or chains k [])) (remove (slice_index_or chains k []) p)
      kept = All-remove (λ g. page_at arena g ≡ content arena (slice_index_or chains k [])) (slice_index_or chains k []) p old.alike

      same : content arena (remove (slice_index_or chains k []) p) ≡ content arena (slice_index_or chains k [])
      same = kept 0 0 filled

      shorter : IsChain arena (remove (slice_index_or chains k []) p)
      shorter = record {
        filled = filled;
        there = All-remove (λ g. g < length arena) (slice_index_or chains k []) p old.there;
        alike = rw same kept;
      }
