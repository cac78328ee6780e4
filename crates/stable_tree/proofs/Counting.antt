-- The numbers of contents with more than one group, where a chain changes.
use Rattle.std.proofs.Common.{◌≡◌, ◌∙◌, ℕ, zero, suc, ◌+◌, ◌-◌, ◌<◌, ◌≤◌, nat_lt, Bool, true, false, if◌then◌else◌, List, [], ◌∷◌, ◌++◌, length, take, drop, insert, remove, slice_index_or, slice_set, refl, sym, ap, arith}
use Rattle.std.specs.List.{concat, sum_by}
use Rattle.std.proofs.lemmas.List.{length-append}
use Rattle.std.proofs.lemmas.List.Edits.{length-remove}
use Rattle.std.proofs.lemmas.List.Sums.{sum_by-cons, sum_by-set, sum_by-insert, sum_by-remove}
use Rattle.stable_tree.specs.declared.dups.Dups.{Dups}
use Rattle.stable_tree.specs.Groups.{many_in, dups_in, chains_among, dups_among, AreDups}

many_of : List ℕ → ℕ
many_of chain = many_in (length chain)

dups_of : List ℕ → ℕ
dups_of chain = dups_in (length chain)

many-few : (n : ℕ) → many_in n ≤ n
many-few n = by_test (nat_lt 1 n) refl
  where
    by_test : (b : Bool) → nat_lt 1 n ≡ b → (if b then 1 else 0) ≤ n
    by_test true e = grind arith
    by_test false e = omega arith

dups-few : (n : ℕ) → dups_in n ≤ n
dups-few n = by_test (nat_lt 1 n)
  where
    by_test : (b : Bool) → (if b then n else 0) ≤ n
    by_test true = omega arith
    by_test false = omega arith

-- there are no more such groups than groups
chains-fit : (count : ℕ → ℕ) → ((n : ℕ) → count n ≤ n) → (chains : List (List ℕ)) → sum_by (λ (chain : List ℕ). count (length chain)) chains ≤ length (concat chains)
chains-fit count few [] = omega arith
chains-fit count few (chain ∷ chains) =
    let split = sum_by-cons (λ (chain : List ℕ). count (length chain)) chain chains in
    let rest = chains-fit count few chains in
    let one = few (length chain) in
    let long = length-append chain (concat chains) in
    omega (arith, split, rest, one, long)

pub chains-few : (chains : List (List ℕ)) → chains_among chains ≤ length (concat chains)
unfolding chains_among
chains-few = chains-fit many_in many-few

pub dups-fit : (chains : List (List ℕ)) → dups_among chains ≤ length (concat chains)
unfolding dups_among
dups-fit = chains-fit dups_in dups-few

-- one chain changes
module _ (chains : List (List ℕ)) (k : ℕ) (chain : List ℕ) (inside : k < length chains) where
  pub chains-set : chains_among (slice_set chains k chain) + many_in (length (slice_index_or chains k [])) ≡ chains_among chains + many_in (length chain)
  unfolding chains_among
  chains-set = sum_by-set (λ (chain : List ℕ). many_in (length chain)) chains k chain [] inside

  pub dups-set : dups_among (slice_set chains k chain) + dups_in (length (slice_index_or chains k [])) ≡ dups_among chains + dups_in (length chain)
  unfolding dups_among
  dups-set = sum_by-set (λ (chain : List ℕ). dups_in (length chain)) chains k chain [] inside

-- a chain is one of all
module _ (chains : List (List ℕ)) (k : ℕ) (inside : k < length chains) where
  pub many-one : many_in (length (slice_index_or chains k [])) ≤ chains_among chains
  many-one = let answered = chains-set chains k [] inside in omega (arith, answered)

  pub dups-one : dups_in (length (slice_index_or chains k [])) ≤ dups_among chains
  dups-one = let answered = dups-set chains k [] inside in omega (arith, answered)

-- where one chain changes, so do the numbers
pub moves : (dups : Dups) (chains : List (List ℕ)) (k before after : ℕ) (chain : List ℕ) → k < length chains → AreDups dups chains
    → before ≡ length (slice_index_or chains k []) → after ≡ length chain
    → AreDups (record { chains = dups.chains - many_in before + many_in after; groups = dups.groups - dups_in before + dups_in after }) (slice_set chains k chain)
moves dups chains k before after chain inside are e f =
    let counted = chains-set chains k chain inside in
    let grouped = dups-set chains k chain inside in
    let one = many-one chains k inside in
    let other = dups-one chains k inside in
    rw (e, f)
    record {
      counted = omega (arith, counted, one, are.counted);
      grouped = omega (arith, grouped, other, are.grouped);
    }

-- a content with one group is none of them
pub inserts : (dups : Dups) (chains : List (List ℕ)) (k f : ℕ) → AreDups dups chains → AreDups dups (insert chains k (f ∷ []))
unfolding chains_among dups_among
inserts dups chains k f are =
    let counted = sum_by-insert (λ (chain : List ℕ). many_in (length chain)) chains k (f ∷ []) in
    let grouped = sum_by-insert (λ (chain : List ℕ). dups_in (length chain)) chains k (f ∷ []) in
    record { counted = omega (arith, counted, are.counted); grouped = omega (arith, grouped, are.grouped) }

pub removes : (dups : Dups) (chains : List (List ℕ)) (k : ℕ) → k < length chains → length (slice_index_or chains k []) ≡ 1 → AreDups dups chains → AreDups dups (remove chains k)
unfolding chains_among dups_among
removes dups chains k inside one are =
    let counted = sum_by-remove (λ (chain : List ℕ). many_in (length chain)) chains k [] inside in
    let grouped = sum_by-remove (λ (chain : List ℕ). dups_in (length chain)) chains k [] inside in
    let many : many_in (length (slice_index_or chains k [])) ≡ 0 = ap many_in one in
    let dup : dups_in (length (slice_index_or chains k [])) ≡ 0 = ap dups_in one in
    record { counted = omega (arith, counted, many, are.counted); grouped = omega (arith, grouped, dup, are.grouped) }

-- and they stay as small as the number of groups
pub moves-fit : (dups : Dups) (chains : List (List ℕ)) (k before after size : ℕ) (chain : List ℕ) → k < length chains → AreDups dups chains
    → before ≡ length (slice_index_or chains k []) → after ≡ length chain → length (concat (slice_set chains k chain)) ≡ size
    → (dups.chains - many_in before + many_in after ≤ size) × (dups.groups - dups_in before + dups_in after ≤ size)
moves-fit dups chains k before after size chain inside are e f g =
    let answered = moves dups chains k before after chain inside are e f in
    let few = chains-few (slice_set chains k chain) in
    let fit = dups-fit (slice_set chains k chain) in
    (let same = AreDups.counted answered in omega (arith, same, few, g), let same = AreDups.grouped answered in omega (arith, same, fit, g))

pub before-fits : (dups : Dups) (chains : List (List ℕ)) (k before : ℕ) → k < length chains → AreDups dups chains → before ≡ length (slice_index_or chains k [])
    → (many_in before ≤ dups.chains) × (dups_in before ≤ dups.groups)
before-fits dups chains k before inside are e =
    let one = many-one chains k inside in
    let other = dups-one chains k inside in
    rw e (omega (arith, one, are.counted), omega (arith, other, are.grouped))

pub none-yet : AreDups (record { chains = 0; groups = 0 }) []
unfolding chains_among dups_among
none-yet = record { counted = refl; grouped = refl }

-- the numbers after one chain has another number of groups
pub record IsMoved (dups : Dups) (new : List (List ℕ)) (before after size : ℕ) : Type 0 where
  pub one : many_in before ≤ dups.chains
  pub other : dups_in before ≤ dups.groups
  pub few : dups.chains - many_in before + many_in after ≤ size
  pub fit : dups.groups - dups_in before + dups_in after ≤ size
  pub answered : AreDups (record { chains = dups.chains - many_in before + many_in after; groups = dups.groups - dups_in before + dups_in after }) new

moved : (dups : Dups) (old new : List (List ℕ)) (k before after size : ℕ) (chain : List ℕ) → k < length old → AreDups dups old
    → before ≡ length (slice_index_or old k []) → after ≡ length chain → new ≡ slice_set old k chain → length (concat new) ≡ size → IsMoved dups new before after size
moved dups old new k before after size chain inside are e f g h =
    let fits = before-fits dups old k before inside are e in
    let small = moves-fit dups old k before after size chain inside are e f (ap (λ chains. length (concat chains)) (sym g) ∙ h) in
    record { one = fits.0; other = fits.1; few = small.0; fit = small.1; answered = rw g (moves dups old k before after chain inside are e f) }

pub grows : (dups : Dups) (old new : List (List ℕ)) (k before size f : ℕ) → k < length old → AreDups dups old → before ≡ length (slice_index_or old k [])
    → new ≡ slice_set old k (slice_index_or old k [] ++ f ∷ []) → length (concat new) ≡ size → IsMoved dups new before (before + 1) size
grows dups old new k before size f inside are e g h =
    let long = length-append (slice_index_or old k []) (f ∷ []) in
    moved dups old new k before (before + 1) size (slice_index_or old k [] ++ f ∷ []) inside are e (omega (arith, e, long)) g h

pub shrinks : (dups : Dups) (old new : List (List ℕ)) (k before size slot : ℕ) → k < length old → AreDups dups old → before ≡ length (slice_index_or old k [])
    → slot < length (slice_index_or old k []) → new ≡ slice_set old k (remove (slice_index_or old k []) slot) → length (concat new) ≡ size → IsMoved dups new before (before - 1) size
shrinks dups old new k before size slot inside are e there g h =
    let short = length-remove (slice_index_or old k []) slot there in
    moved dups old new k before (before - 1) size (remove (slice_index_or old k []) slot) inside are e (omega (arith, e, short)) g h

-- a chain that grew fits too
pub grown-fits : (dups : Dups) (new : List (List ℕ)) (before size bound : ℕ) → 1 < bound → size < bound → IsMoved dups new before (before + 1) size → before + 1 < bound
grown-fits dups new before size bound some small is = by_test (nat_lt 1 (before + 1)) refl (IsMoved.fit is)
  where
    by_test : (b : Bool) → nat_lt 1 (before + 1) ≡ b → dups.groups - dups_in before + (if b then before + 1 else 0) ≤ size → before + 1 < bound
    by_test true e fit = omega (arith, fit, small)
    by_test false e fit = let few : before + 1 ≤ 1 = grind arith in omega (arith, few, some)

-- chains that were lent are the whole list again
pub written : {X : Type 0} (n : ℕ) (xs ys : List X) → length xs ≡ n → length ys ≡ n → take n (xs ++ drop (length xs) ys) ≡ xs
written n xs ys e f = take-all n xs (drop (length xs) ys) e
  where
    take-all : {X : Type 0} (n : ℕ) (xs ys : List X) → length xs ≡ n → take n (xs ++ ys) ≡ xs
    take-all zero [] ys e = refl
    take-all zero (x ∷ xs) ys e = absurd (omega (arith, e))
    take-all (suc n) [] ys e = absurd (omega (arith, e))
    take-all (suc n) (x ∷ xs) ys e = ap (λ l. x ∷ l) (take-all n xs ys (omega (arith, e)))
