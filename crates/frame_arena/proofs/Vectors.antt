-- Lists compared by vectors of their elements, and by the parts that these hold.
use Rattle.std.proofs.Common.{◌≡◌, ℕ, zero, suc, ◌+◌, ◌*◌, ◌≤◌, ◌-◌, ◌%◌, ◌^◌, ◌↔◌, Bool, true, false, not, cond, eqb, eqb-true, eq-eqb, List, [], ◌∷◌, ◌++◌, map, length, take, drop, replicate, get_or, bit_or, bit_xor, refl, sym, ap, ◌∙◌, arith, w8, Equal}
use Rattle.std.specs.Cmp.Lexicographic.{slice_cmp}
use Rattle.std.specs.Ordering.{nat_cmp, ordering_then}
use Rattle.std.specs.Int.Bits.{xor_self, xor_zero_l, xor_zero_r}
use Rattle.std.proofs.Math.Seq.{take-add}
use Rattle.std.proofs.lemmas.Bool.{eqb-false}
use Rattle.std.proofs.lemmas.Cmp.{nat_cmp_total, tied_itself}
use Rattle.std.proofs.lemmas.List.{take_all, take_rest, take-take, take-append-drop, drop-take, drop-drop, take-replicate, drop-replicate}
use Rattle.std.proofs.lemmas.Nat.{le_or_l, le_or_r}
use Rattle.std.proofs.lemmas.Simd.{length-zip2, bitmask_splat}
use lib.Bits.{xor_assoc}
use lib.Lanes.{zip2, mask_l, top}
use Rattle.host_types.specs.Bytes.{part_of}
use Rattle.host_types.specs.Pages.{zero_page}
use Rattle.host_types.proofs.Pages.{replicate-zero_page}

-- ---- vectors of numbers

abbrev head_of : List ℕ → ℕ
head_of xs = get_or xs 0 0

-- numbers that differ in no bit are the same
same_from_xor : (x y : ℕ) → bit_xor x y ≡ 0 → x ≡ y
same_from_xor x y e = sym (xor_zero_r x) ∙ ap (bit_xor x) (sym (xor_self y)) ∙ sym (xor_assoc x y y) ∙ ap (λ n. bit_xor n y) e ∙ xor_zero_l y

-- two lists of one length, by their first elements and the rest
by_both : (P : ℕ → List ℕ → List ℕ → Type 0) → P 0 [] [] → ((n x y : ℕ) (xs ys : List ℕ) → P n xs ys → P (suc n) (x ∷ xs) (y ∷ ys))
    → (n : ℕ) (xs ys : List ℕ) → length xs ≡ n → length ys ≡ n → P n xs ys
by_both P none more zero [] [] p q = none
by_both P none more zero [] (y ∷ ys) p q = absurd (omega (arith, q))
by_both P none more zero (x ∷ xs) ys p q = absurd (omega (arith, p))
by_both P none more (suc n) [] ys p q = absurd (omega (arith, p))
by_both P none more (suc n) (x ∷ xs) [] p q = absurd (omega (arith, q))
by_both P none more (suc n) (x ∷ xs) (y ∷ ys) p q = more n x y xs ys (by_both P none more n xs ys (omega (arith, p)) (omega (arith, q)))

pub zeros-xor : (n : ℕ) (xs ys : List ℕ) → length xs ≡ n → length ys ≡ n → (zip2 bit_xor xs ys ≡ replicate n 0) ↔ (xs ≡ ys)
zeros-xor = by_both (λ n xs ys. (zip2 bit_xor xs ys ≡ replicate n 0) ↔ (xs ≡ ys)) (λ _. refl, λ _. refl) (
    λ n x y xs ys rest. (
      λ e. let first : x ≡ y = same_from_xor x y (ap head_of e) in let later : xs ≡ ys = rest.0 (ap (drop 1) e) in rw (first, later) refl,
      λ e. let first : x ≡ y = ap head_of e in let later : xs ≡ ys = ap (drop 1) e in
          let none : bit_xor x y ≡ 0 = rw first (xor_self y) in rw (none, rest.1 later) refl,
    ))

-- bits of two numbers together are none where both have none
zero_from_or : (x y : ℕ) → bit_or x y ≡ 0 → (x ≡ 0) × (y ≡ 0)
zero_from_or x y e = (omega (arith, e, le_or_l x y), omega (arith, e, le_or_r x y))

pub zeros-or : (n : ℕ) (xs ys : List ℕ) → length xs ≡ n → length ys ≡ n → (zip2 bit_or xs ys ≡ replicate n 0) ↔ ((xs ≡ replicate n 0) × (ys ≡ replicate n 0))
zeros-or = by_both (λ n xs ys. (zip2 bit_or xs ys ≡ replicate n 0) ↔ ((xs ≡ replicate n 0) × (ys ≡ replicate n 0))) (λ _. (refl, refl), λ _. refl) (
    λ n x y xs ys rest. (
      λ e. let first = zero_from_or x y (ap head_of e) in let later = rest.0 (ap (drop 1) e) in (rw (first.0, later.0) refl, rw (first.1, later.1) refl),
      λ e. let x_none : x ≡ 0 = ap head_of e.0 in let y_none : y ≡ 0 = ap head_of e.1 in
          rw (x_none, y_none, rest.1 (ap (drop 1) e.0, ap (drop 1) e.1)) refl,
    ))

-- four vectors
pub zeros-or_four : (n : ℕ) (first second third fourth : List ℕ) → length first ≡ n → length second ≡ n → length third ≡ n → length fourth ≡ n
    → (zip2 bit_or (zip2 bit_or first second) (zip2 bit_or third fourth) ≡ replicate n 0)
    ↔ ((first ≡ replicate n 0) × (second ≡ replicate n 0) × (third ≡ replicate n 0) × (fourth ≡ replicate n 0))
zeros-or_four n first second third fourth a b c d =
    let left = zeros-or n first second a b in
    let right = zeros-or n third fourth c d in
    let both = zeros-or n (zip2 bit_or first second) (zip2 bit_or third fourth)
    (length-zip2 bit_or first second (a ∙ sym b) ∙ a) (length-zip2 bit_or third fourth (c ∙ sym d) ∙ c) in (
      λ e. let sides = both.0 e in let l = left.0 sides.0 in let r = right.0 sides.1 in (l.0, l.1, r.0, r.1),
      λ e. both.1 (left.1 (e.0, e.1), right.1 (e.2, e.3)),
    )

-- no lane of a vector is set apart from zero
none_set : (xs : List ℕ) → (mask_l (map (λ x. not (eqb x 0)) xs) ≡ 0) ↔ (xs ≡ replicate (length xs) 0)
none_set [] = (λ _. refl, λ _. refl)
none_set (x ∷ xs) = by_first (eqb x 0) refl (none_set xs)
  where
    by_first : (t : Bool) → eqb x 0 ≡ t → (mask_l (map (λ y. not (eqb y 0)) xs) ≡ 0) ↔ (xs ≡ replicate (length xs) 0)
        → (cond (not t) 1 0 + 2 * mask_l (map (λ y. not (eqb y 0)) xs) ≡ 0) ↔ (x ∷ xs ≡ 0 ∷ replicate (length xs) 0)
    by_first true p rest = let first : x ≡ 0 = eqb-true _ _ p in (
      λ e. ap (λ n. n ∷ xs) first ∙ ap (λ l. 0 ∷ l) (rest.0 (omega (arith, e))),
      λ e. let none = rest.1 (ap (drop 1) e) in omega (arith, none),
    )
    by_first false p rest = (λ e. absurd (omega (arith, e)), λ e. absurd (eqb-false _ _ p (ap head_of e)))

pub zeros-mask : (xs : List ℕ) → length xs ≡ 64
    → (eqb (mask_l (map (top 7) (zip2 (λ a b. cond (not (eqb a b)) 255 0) xs (replicate 64 0))) % 2 ^ 64) 0 ≡ true) ↔ (xs ≡ replicate 64 0)
zeros-mask xs long =
    let mask = bitmask_splat w8 (λ a b. not (eqb a b)) xs 64 0 long (omega arith) in
    let sized : replicate (length xs) 0 ≡ replicate 64 0 = ap (λ n. replicate n 0) long in
    (λ t. (none_set xs).0 (sym mask ∙ eqb-true _ _ t) ∙ sized, λ e. eq-eqb _ _ (mask ∙ (none_set xs).1 (e ∙ sym sized)))

-- ---- parts of lists

-- two parts side by side are the same as others where each is
same_parts : (xs ys : List ℕ) (at bt m n after following : ℕ) → after ≡ at + m → following ≡ bt + m
    → (part_of xs at (m + n) ≡ part_of ys bt (m + n)) ↔ ((part_of xs at m ≡ part_of ys bt m) × (part_of xs after n ≡ part_of ys following n))
unfolding part_of
same_parts xs ys at bt m n after following p q =
    let there : drop after xs ≡ drop m (drop at xs) = ap (λ k. drop k xs) p ∙ sym (drop-drop m at xs) in
    let here : drop following ys ≡ drop m (drop bt ys) = ap (λ k. drop k ys) q ∙ sym (drop-drop m bt ys) in (
      λ e. (
        sym (take-take m (m + n) (drop at xs) (omega arith)) ∙ ap (take m) e ∙ take-take m (m + n) (drop bt ys) (omega arith),
        ap (take n) there ∙ sym (drop-take m n (drop at xs)) ∙ ap (drop m) e ∙ drop-take m n (drop bt ys) ∙ sym (ap (take n) here),
      ),
      λ e. let second : take n (drop m (drop at xs)) ≡ take n (drop m (drop bt ys)) = sym (ap (take n) there) ∙ e.1 ∙ ap (take n) here in
          take-add m n (drop at xs) ∙ ap (λ l. l ++ take n (drop m (drop at xs))) e.0 ∙ ap (λ l. take m (drop bt ys) ++ l) second ∙ sym (take-add m n (drop bt ys)),
    )

-- 256 elements by four vectors of 64
pub by_vectors : (xs ys : List ℕ) (at bt : ℕ)
    → (part_of xs at 256 ≡ part_of ys bt 256)
    ↔ ((part_of xs at 64 ≡ part_of ys bt 64) × (part_of xs (at + 64) 64 ≡ part_of ys (bt + 64) 64) × (part_of xs (at + 128) 64 ≡ part_of ys (bt + 128) 64) × (part_of xs (at + 192) 64 ≡ part_of ys (bt + 192) 64))
by_vectors xs ys at bt =
    let first = same_parts xs ys at bt 64 192 (at + 64) (bt + 64) refl refl in
    let second = same_parts xs ys (at + 64) (bt + 64) 64 128 (at + 128) (bt + 128) (omega arith) (omega arith) in
    let third = same_parts xs ys (at + 128) (bt + 128) 64 64 (at + 192) (bt + 192) (omega arith) (omega arith) in (
      λ e. let a = first.0 e in let b = second.0 a.1 in let c = third.0 b.1 in (a.0, b.0, c.0, c.1),
      λ e. first.1 (e.0, second.1 (e.1, third.1 (e.2, e.3))),
    )

-- a part of zeros
pub part_of-zeros : (n at size : ℕ) → at + size ≤ n → part_of {X = ℕ} (replicate n 0) at size ≡ replicate size 0
unfolding part_of
part_of-zeros n at size h = ap (take size) (drop-replicate at n 0) ∙ take-replicate size (n - at) 0 (omega arith)

-- 256 zeros by four vectors of 64
pub zeros_by_vectors : (xs : List ℕ) (at : ℕ)
    → (part_of xs at 256 ≡ replicate 256 0)
    ↔ ((part_of xs at 64 ≡ replicate 64 0) × (part_of xs (at + 64) 64 ≡ replicate 64 0) × (part_of xs (at + 128) 64 ≡ replicate 64 0) × (part_of xs (at + 192) 64 ≡ replicate 64 0))
zeros_by_vectors xs at =
    let parts = by_vectors xs (replicate 256 0) at 0 in
    let whole = part_of-zeros 256 0 256 (omega arith) in
    let a = part_of-zeros 256 0 64 (omega arith) in
    let b = part_of-zeros 256 64 64 (omega arith) in
    let c = part_of-zeros 256 128 64 (omega arith) in
    let d = part_of-zeros 256 192 64 (omega arith) in (
      λ e. let p = parts.0 (e ∙ sym whole) in (p.0 ∙ a, p.1 ∙ b, p.2 ∙ c, p.3 ∙ d),
      λ e. parts.1 (e.0 ∙ sym a, e.1 ∙ sym b, e.2 ∙ sym c, e.3 ∙ sym d) ∙ whole,
    )

-- two lists that are the same up to a cell, and in the part there
pub same_further : (xs ys : List ℕ) (at n : ℕ) → take at xs ≡ take at ys → part_of xs at n ≡ part_of ys at n → take (at + n) xs ≡ take (at + n) ys
unfolding part_of
same_further xs ys at n e f =
    take-add at n xs ∙ ap (λ l. l ++ take n (drop at xs)) e ∙ ap (λ l. take at ys ++ l) f ∙ sym (take-add at n ys)

-- zeros up to a cell, and in the part there
pub zeros_further : (xs : List ℕ) (at n : ℕ) → take at xs ≡ replicate at 0 → part_of xs at n ≡ replicate n 0 → take (at + n) xs ≡ replicate (at + n) 0
zeros_further xs at n e f =
    let zeros : List ℕ = replicate (at + n) 0 in
    let front : take at zeros ≡ replicate at 0 = take-replicate at (at + n) 0 (omega arith) in
    let whole : take (at + n) zeros ≡ zeros = take-replicate (at + n) (at + n) 0 (omega arith) in
    same_further xs zeros at n (e ∙ sym front) (f ∙ sym (part_of-zeros (at + n) at n (omega arith))) ∙ whole

-- a part of a page of zeros
pub part_of-zero_page : (at : ℕ) → at + 256 ≤ 4096 → part_of zero_page at 256 ≡ replicate 256 0
unfolding zero_page
part_of-zero_page at h = part_of-zeros 4096 at 256 h

-- a page that is zeros up to its end
pub zero_page-from : (xs : List ℕ) (at : ℕ) → length xs ≡ 4096 → at ≡ 4096 → take at xs ≡ replicate at 0 → xs ≡ zero_page
zero_page-from xs at long end e = sym (take_all at xs (omega (arith, long, end))) ∙ e ∙ replicate-zero_page at end

-- lists that are the same up to a cell are the same where the rest is
pub same_by_rest : (xs ys : List ℕ) (at : ℕ) → take at xs ≡ take at ys → (take (length xs - at) (drop at xs) ≡ take (length ys - at) (drop at ys)) ↔ (xs ≡ ys)
same_by_rest xs ys at e = (
  λ f. sym (take-append-drop at xs) ∙ ap (λ l. l ++ drop at xs) e ∙ ap (λ l. take at ys ++ l) (sym (take_rest xs at) ∙ f ∙ take_rest ys at) ∙ take-append-drop at ys,
  λ f. ap (λ l. take (length l - at) (drop at l)) f,
)

-- lists that are the same up to a cell compare as the rest
order_following : (at : ℕ) (xs ys : List ℕ) → take at xs ≡ take at ys → slice_cmp nat_cmp (drop at xs) (drop at ys) ≡ slice_cmp nat_cmp xs ys
order_following zero xs ys e = refl
order_following (suc at) [] [] e = refl
order_following (suc at) [] (y ∷ ys) e = let long = ap length e in absurd (omega (arith, long))
order_following (suc at) (x ∷ xs) [] e = let long = ap length e in absurd (omega (arith, long))
order_following (suc at) (x ∷ xs) (y ∷ ys) e =
    let first : x ≡ y = ap head_of e in
    let tied : nat_cmp x y ≡ Equal = ap (nat_cmp x) (sym first) ∙ tied_itself nat_cmp_total x in
    order_following at xs ys (ap (drop 1) e) ∙ sym (ap (λ o. ordering_then o (slice_cmp nat_cmp xs ys)) tied)

pub order_by_rest : (xs ys : List ℕ) (at : ℕ) → take at xs ≡ take at ys
    → slice_cmp nat_cmp (take (length xs - at) (drop at xs)) (take (length ys - at) (drop at ys)) ≡ slice_cmp nat_cmp xs ys
order_by_rest xs ys at e =
    ap (λ l. slice_cmp nat_cmp l (take (length ys - at) (drop at ys))) (take_rest xs at)
    ∙ ap (slice_cmp nat_cmp (drop at xs)) (take_rest ys at)
    ∙ order_following at xs ys e
