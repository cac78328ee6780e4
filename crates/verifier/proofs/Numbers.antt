-- Kinds keep their numbers while others are added.
use Rattle.std.proofs.Common.{◌≡◌, ℕ, ◌+◌, ◌<◌, List, [], ◌∷◌, ◌++◌, length, map, slice_set, Option, Some, None, IfSome, refl, sym, ap, ◌∙◌, arith}
use Rattle.std.specs.Prelude.{option_map, All, slice_index, slice_index_or}
use Rattle.std.proofs.lemmas.List.{ext_get_or, get_or-map, length-map, map-append}
use Rattle.std.proofs.Math.Seq.{set-append_seam}
use Rattle.std.proofs.lemmas.List.Elements.{All-head, All-tail}
use Rattle.verifier_kinds.specs.declared.kind.Kind.{Kind}
use Rattle.verifier.specs.Known.{kinds_numbered, kept_in, AreNumbers, KeepsKinds}

-- numbers of kinds that are those of the registers, one by one
pub numbered_by_index : (kinds : List (Option Kind)) (row : List ℕ) (registers : List (Option Kind)) → length row ≡ length registers
    → ((r : ℕ) → r < length registers → slice_index_or kinds (slice_index row r) None ≡ slice_index_or registers r None) → kinds_numbered kinds row ≡ registers
numbered_by_index kinds row registers same each =
    let kind_of : ℕ → Option Kind = λ number. slice_index_or kinds number None in
    let long : length (kinds_numbered kinds row) ≡ length row = length-map row kind_of in
    ext_get_or None (kinds_numbered kinds row) registers (long ∙ same)
    (λ r less. get_or-map kind_of row r 0 None (omega (arith, long, less)) ∙ each r (omega (arith, long, same, less)))

-- what is the same of each element is the same of the list
map_same : {X Y : Type 0} (f g : X → Y) (P : X → Type 0) → ((x : X) → P x → f x ≡ g x) → (xs : List X) → All P xs → map f xs ≡ map g xs
map_same f g P same [] all = refl
map_same f g P same (x ∷ xs) all =
    let head : f x ≡ g x = same x (All-head P x xs all) in
    let tail : map f xs ≡ map g xs = map_same f g P same xs (All-tail P x xs all) in
    cc (head, tail)

-- a row has the same kinds
row_kept : (before after : List (Option Kind)) (most : ℕ) (row : List ℕ) → KeepsKinds before after most → AreNumbers before row → kinds_numbered after row ≡ kinds_numbered before row
row_kept before after most row kept numbers =
    map_same (λ number. slice_index_or after number None) (λ number. slice_index_or before number None) (λ number. number < length before) kept.same row numbers

-- so have all rows
pub rows_kept : (before after : List (Option Kind)) (most : ℕ) (rows : List (Option (List ℕ))) → KeepsKinds before after most → All (λ row. IfSome row (AreNumbers before)) rows
    → kept_in after rows ≡ kept_in before rows
rows_kept before after most rows kept all =
    map_same (option_map (kinds_numbered after)) (option_map (kinds_numbered before)) (λ row. IfSome row (AreNumbers before)) some_kept rows all
  where
    some_kept : (row : Option (List ℕ)) → IfSome row (AreNumbers before) → option_map (kinds_numbered after) row ≡ option_map (kinds_numbered before) row
    some_kept None numbers = refl
    some_kept (Some row) numbers = ap Some (row_kept before after most row kept numbers)

-- and their numbers are those of kinds still
pub rows_numbered : (before after : List (Option Kind)) (most : ℕ) (rows : List (Option (List ℕ))) → KeepsKinds before after most → All (λ row. IfSome row (AreNumbers before)) rows
    → All (λ row. IfSome row (AreNumbers after)) rows
rows_numbered before after most rows kept all = λ k d less. some_numbered (slice_index_or rows k d) (all k d less)
  where
    some_numbered : (row : Option (List ℕ)) → IfSome row (AreNumbers before) → IfSome row (AreNumbers after)
    some_numbered None numbers = tt
    some_numbered (Some row) numbers = λ k d less. omega (arith, numbers k d less, kept.longer)

-- a row that is put in the place of the one that was added
pub row_added : (before after : List (Option Kind)) (most : ℕ) (rows : List (Option (List ℕ))) (row : List ℕ) (registers : List (Option Kind)) (at : ℕ) → KeepsKinds before after most
    → All (λ row. IfSome row (AreNumbers before)) rows → kinds_numbered after row ≡ registers → length rows ≡ at
    → kept_in after (slice_set (rows ++ None ∷ []) at (Some row)) ≡ kept_in before rows ++ Some registers ∷ []
row_added before after most rows row registers at kept all numbered here =
    let put : slice_set (rows ++ None ∷ []) at (Some row) ≡ rows ++ Some row ∷ [] = ap (λ at. slice_set (rows ++ None ∷ []) at (Some row)) (sym here) ∙ set-append_seam rows None [] (Some row) in
    let parted = map-append (option_map (kinds_numbered after)) rows (Some row ∷ []) in
    let old : kept_in after rows ≡ kept_in before rows = rows_kept before after most rows kept all in
    ap (kept_in after) put ∙ parted ∙ cc (old, numbered)
