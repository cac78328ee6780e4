-- Which maps the slots before a slot name.
use Rattle.std.proofs.Common.{◌≡◌, ℕ, zero, suc, ◌+◌, ◌<◌, ◌==◌, Bool, true, false, ◌||◌, if◌then◌else◌, List, [], ◌∷◌, length, get_or, set, replicate, All, IfSome, Option, Some, None, refl, sym, ap, ◌∙◌, inl, inr, arith, add-one}
use Rattle.std.proofs.lemmas.Bool.{cases_eq}
use Rattle.std.proofs.Math.Bool.{or-false, or-true}
use Rattle.std.proofs.lemmas.Bool.Decides.{nat_tests}
use Rattle.std.proofs.lemmas.List.{get_or-set_same, get_or-set_other}
use Rattle.std.proofs.lemmas.List.Elements.{All-nil, All-cons, All-head, All-tail}
use Rattle.host_types.specs.declared.shape.Shape.{Shape}
use Rattle.host_types.specs.Shapes.{IsShape}
use Rattle.verifier_kinds.specs.Kinds.{shape_at}
use Rattle.verifier.specs.Subject.{Subject}
use Rattle.verifier.specs.Verified.{HasShapes}
use Rattle.verifier.specs.Named.{named_at, is_map, names_before, names, named_from, named_shapes, AreNamed}

-- ---- one slot more

pub none_before : (text : List ℕ) (m : ℕ) → names_before text m 0 ≡ false
unfolding names_before
none_before text m = refl

pub one_more : (text : List ℕ) (m n : ℕ) (named : Bool) → named ≡ names_before text m n → (named || is_map (named_at text n) m) ≡ names_before text m (n + 1)
unfolding names_before
one_more text m n named e = rw (add-one, e) refl

-- ---- flags of eight numbers

no_flag : (n m : ℕ) → get_or (replicate n false) m false ≡ false
no_flag zero m = refl
no_flag (suc n) zero = refl
no_flag (suc n) (suc m) = no_flag n m

pub flags_none : (text : List ℕ) → AreNamed text 0 (replicate 8 false)
flags_none text m less = no_flag 8 m ∙ sym (none_before text m)

-- a flag that is set
pub flag_set : (flags : List Bool) (n m : ℕ) → n < length flags → get_or (set flags n true) m false ≡ (get_or flags m false || n == m)
flag_set flags n m within = elim (cases_eq m n) [
  | inl same ↦ let is : (n == m) ≡ true = grind (arith, nat_tests, same) in rw (is, same) (get_or-set_same flags n true false within ∙ sym (or-true (get_or flags n false)))
  | inr other ↦ let is : (n == m) ≡ false = grind (arith, nat_tests, other) in rw is (get_or-set_other flags n m true false other ∙ sym (or-false (get_or flags m false)))
]

-- flags as they were, where no number below 8 is named
pub flag_kept : (flags : List Bool) (named : Option ℕ) (m : ℕ) → is_map named m ≡ false → get_or flags m false ≡ (get_or flags m false || is_map named m)
flag_kept flags named m other = rw other (sym (or-false (get_or flags m false)))

-- flags after a slot more
pub flags_more : (text : List ℕ) (flags more : List Bool) (slot : ℕ) → AreNamed text slot flags → ((m : ℕ) → m < 8 → get_or more m false ≡ (get_or flags m false || is_map (named_at text slot) m)) → AreNamed text (slot + 1) more
flags_more text flags more slot are h m less = h m less ∙ one_more text m slot (get_or flags m false) (are m less)

-- ---- what is named

-- a map that is named at a slot is named by the text
pub names_from : (text : List ℕ) (m slot n : ℕ) → slot < n → is_map (named_at text slot) m ≡ true → names_before text m n ≡ true
unfolding names_before
names_from text m slot zero less is = absurd (omega arith)
names_from text m slot (suc n) less is = elim (cases_eq slot n) [
  | inl same ↦ rw (← same) (rw is (or-true (names_before text m slot)))
  | inr other ↦ rw (names_from text m slot n (omega (arith, other)) is) refl
]

-- ---- shapes that are named

shape_from : (named : ℕ → Bool) (k m at : ℕ) (shapes : List (Option Shape)) → at ≡ k + m → shape_at (named_from named k shapes) m ≡ (if named at then shape_at shapes m else None)
shape_from named k m at [] e = neither (named at)
  where
    neither : (b : Bool) → ◌≡◌ {A = Option Shape} None (if◌then◌else◌ {A = Option Shape} b None None)
    neither true = refl
    neither false = refl
shape_from named k zero at (shape ∷ shapes) e = let same : at ≡ k = omega (arith, e) in rw same refl
shape_from named k (suc m) at (shape ∷ shapes) e = shape_from named (suc k) m at shapes (omega (arith, e))

-- the shape of a number is that of the map if the program names it, and else none is asked
pub named_shape : (p : Subject) (m : ℕ) → shape_at (named_shapes p) m ≡ (if names p.text m then shape_at p.shapes m else None)
named_shape p m = shape_from (names p.text) 0 m m p.shapes (omega arith)

-- a shape that is asked is the map's
pub asked_shape : (p : Subject) (m : ℕ) (shape : Shape) → shape_at (named_shapes p) m ≡ Some shape → shape_at p.shapes m ≡ Some shape
asked_shape p m shape is = chosen (names p.text m) (shape_at p.shapes m) (sym (named_shape p m) ∙ is)
  where
    chosen : (b : Bool) (there : Option Shape) → (if b then there else None) ≡ Some shape → there ≡ Some shape
    chosen true there e = e
    chosen false there e = absurd cc

-- nothing is asked where there is no shape
pub nothing_asked : (p : Subject) (m : ℕ) → shape_at p.shapes m ≡ None → shape_at (named_shapes p) m ≡ None
nothing_asked p m none = named_shape p m ∙ chosen (names p.text m) (shape_at p.shapes m) none
  where
    chosen : (b : Bool) (there : Option Shape) → there ≡ None → (if b then there else None) ≡ None
    chosen true there e = e
    chosen false there e = refl

named_within : (named : ℕ → Bool) (k : ℕ) (shapes : List (Option Shape)) → All (λ shape. IfSome shape IsShape) shapes → All (λ shape. IfSome shape IsShape) (named_from named k shapes)
named_within named k [] each = All-nil (λ shape. IfSome shape IsShape)
named_within named k (shape ∷ shapes) each = All-cons (λ shape. IfSome shape IsShape) _ _ (chosen (named k) shape (All-head (λ shape. IfSome shape IsShape) shape shapes each)) (named_within named (suc k) shapes (All-tail (λ shape. IfSome shape IsShape) shape shapes each))
  where
    chosen : (b : Bool) (shape : Option Shape) → IfSome shape IsShape → IfSome (if b then shape else None) IsShape
    chosen true shape h = h
    chosen false shape h = tt

length-named : (named : ℕ → Bool) (k : ℕ) (shapes : List (Option Shape)) → length (named_from named k shapes) ≡ length shapes
length-named named k [] = refl
length-named named k (shape ∷ shapes) = ap suc (length-named named (suc k) shapes)

-- the shapes that are asked are within the limits
pub named_have_shapes : (p : Subject) → HasShapes p.shapes → HasShapes (named_shapes p)
named_have_shapes p h = record { eight = length-named (names p.text) 0 p.shapes ∙ h.eight; each = named_within (names p.text) 0 p.shapes h.each }
