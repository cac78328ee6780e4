-- Words V:E and the shapes that they give, one by one.
use Rattle.std.proofs.Common.{◌≡◌, ℕ, zero, suc, ◌+◌, ◌<◌, List, [], ◌∷◌, ◌++◌, length, take, get_or, Option, Some, None, IsSomeAnd, Bor, sym, subst, arith}
use Rattle.std.proofs.lemmas.List.{take_more}
use Rattle.std.specs.List.{AllZip}
use Rattle.host_types.specs.declared.shape.Shape.{Shape}
use Rattle.engines.specs.Check.{AreShapeWords, IsShapeWord}

AllZip-more : {A B : Type 0} (R : A → B → Type 0) (xs : List A) (ys : List B) (x : A) (y : B) → AllZip R xs ys → R x y → AllZip R (xs ++ x ∷ []) (ys ++ y ∷ [])
AllZip-more R [] [] x y h r = (r, tt)
AllZip-more R [] (b ∷ ys) x y h r = absurd h
AllZip-more R (a ∷ xs) [] x y h r = absurd h
AllZip-more R (a ∷ xs) (b ∷ ys) x y h r = (h.0, AllZip-more R xs ys x y h.1 r)

AllZip-lacks : {A B : Type 0} (R : A → B → Type 0) (xs : List A) (ys : List B) (i : ℕ) (d : A) → i < length xs → ((y : B) → R (get_or xs i d) y → ⊥) → AllZip R xs ys → ⊥
AllZip-lacks R [] ys i d lt lacks h = absurd (omega arith)
AllZip-lacks R (x ∷ xs) [] i d lt lacks h = h
AllZip-lacks R (x ∷ xs) (y ∷ ys) zero d lt lacks h = lacks y h.0
AllZip-lacks R (x ∷ xs) (y ∷ ys) (suc i) d lt lacks h = AllZip-lacks R xs ys i d (omega arith) lacks h.1

-- one word more, and its shape
pub more_shape_words : (words : List (Bor (List ℕ))) (i : ℕ) (d : Bor (List ℕ)) (shapes longer : List (Option Shape)) (shape : Shape) → i < length words
    → AreShapeWords (take i words) shapes → IsShapeWord (get_or words i d).now shape → longer ≡ shapes ++ Some shape ∷ [] → AreShapeWords (take (i + 1) words) longer
more_shape_words words i d shapes longer shape lt h r is =
    subst (λ ys. AreShapeWords (take (i + 1) words) ys) (sym is)
    (subst (λ xs. AreShapeWords xs (shapes ++ Some shape ∷ [])) (sym (take_more words i d lt))
    (AllZip-more (λ word shape. IsSomeAnd shape (IsShapeWord word.now)) (take i words) shapes (get_or words i d) (Some shape) h r))

-- a word that gives no shape is among them
pub no_shape_words : (words : List (Bor (List ℕ))) (i : ℕ) (d : Bor (List ℕ)) → i < length words
    → ((shape : Shape) → IsShapeWord (get_or words i d).now shape → ⊥) → (shapes : List (Option Shape)) → AreShapeWords words shapes → ⊥
no_shape_words words i d lt lacks shapes h = AllZip-lacks (λ word shape. IsSomeAnd shape (IsShapeWord word.now)) words shapes i d lt none h
  where
    none : (shape : Option Shape) → IsSomeAnd shape (IsShapeWord (get_or words i d).now) → ⊥
    none None given = given
    none (Some shape) given = lacks shape given
