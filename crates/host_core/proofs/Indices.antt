-- Lists of indices, at each of which something is or isn't.
use Rattle.std.proofs.Common.{◌≡◌, ℕ, zero, suc, ◌+◌, ◌<◌, Bool, true, false, ◌||◌, List, [], ◌∷◌, length, map, set, get_or, not, Option, Some, None, is_none, IfSome, ap, refl, subst}
use Rattle.std.specs.List.{slice_get, All, list_any, position, prefix_len}
use Rattle.std.specs.Option.{option_map}
use Rattle.std.proofs.lemmas.List.{length-map}
use Rattle.std.proofs.lemmas.List.Folds.{list_any_at}
use Rattle.std.proofs.lemmas.Option.{get_or_from_slice_get, slice_get_within}

module _ {A B : Type 0} (f : A → B) where
  -- what is made of the thing at an index
  pub get_or-there : (xs : List (Option A)) (k : ℕ) → get_or (map (option_map f) xs) k None ≡ option_map f (get_or xs k None)
  get_or-there [] k = refl
  get_or-there (x ∷ xs) zero = refl
  get_or-there (x ∷ xs) (suc k) = get_or-there xs k

  same_prefix : (xs : List (Option A)) → prefix_len (λ (index : Option B). not (is_none index)) (map (option_map f) xs) ≡ prefix_len (λ (index : Option A). not (is_none index)) xs
  same_prefix [] = refl
  same_prefix (None ∷ xs) = refl
  same_prefix (Some x ∷ xs) = ap (λ n. 1 + n) (same_prefix xs)

  -- the same index is the first that is free
  pub first_free-map : (xs : List (Option A)) → position (λ (index : Option B). is_none index) (map (option_map f) xs) ≡ position (λ (index : Option A). is_none index) xs
  first_free-map xs = rw (same_prefix xs, length-map xs (option_map f)) refl

-- a test of what is made of the things of a list
pub list_any-map : {A B : Type 0} (test : B → Bool) (f : A → B) (xs : List A) → list_any test (map f xs) ≡ list_any (λ x. test (f x)) xs
list_any-map test f [] = refl
list_any-map test f (x ∷ xs) = ap (λ (b : Bool). test (f x) || b) (list_any-map test f xs)

-- where a test holds of none of a list, it doesn't hold of what is at an index
pub none-at : {A : Type 0} (test : A → Bool) (xs : List A) (k : ℕ) (d : A) → list_any test xs ≡ false → k < length xs → test (get_or xs k d) ≡ false
none-at test xs k d none less = chosen (test (get_or xs k d)) refl
  where
    chosen : (b : Bool) → test (get_or xs k d) ≡ b → b ≡ false
    chosen false is = refl
    chosen true is = let some : list_any test xs ≡ true = list_any_at test xs k d less is in absurd (cc)

-- a list that is changed at an index, and made another
pub map-set : {A B : Type 0} (f : A → B) (xs : List A) (k : ℕ) (x : A) → map f (set xs k x) ≡ set (map f xs) k (f x)
map-set f [] k x = refl
map-set f (y ∷ xs) zero x = refl
map-set f (y ∷ xs) (suc k) x = ap (λ zs. f y ∷ zs) (map-set f xs k x)

-- where something is, there is an index
pub slice_get-there : {A : Type 0} (xs : List (Option A)) (k : ℕ) (x : A) → get_or xs k None ≡ Some x → slice_get xs k ≡ Some (Some x)
slice_get-there [] k x e = absurd (cc)
slice_get-there (y ∷ xs) zero x e = ap Some e
slice_get-there (y ∷ xs) (suc k) x e = slice_get-there xs k x e

-- what is said of all that is there holds of what is at an index
pub all-at : {A : Type 0} (P : A → Type 0) (xs : List (Option A)) (k : ℕ) (x : A) → All (λ index. IfSome index P) xs → slice_get xs k ≡ Some (Some x) → P x
all-at P xs k x all e = subst (λ index. IfSome index P) (get_or_from_slice_get xs k (Some x) None e) (all k None (slice_get_within xs k (Some x) e))
