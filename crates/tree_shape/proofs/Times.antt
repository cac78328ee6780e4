-- How often a slot stands in a tree, as numbers: whether it is away, whether slots stand once, and whether trees are apart.
use Rattle.std.proofs.Common.{◌≡◌, ◌≢◌, ℕ, ◌+◌, ◌≤◌, ◌==◌, Bool, true, false, if◌then◌else◌, List, ◌∷◌, ◌++◌, ◌⊎◌, inl, inr, ⊎_elim, refl, sym, ap, ◌∙◌, subst, arith}
use Rattle.std.specs.List.{sum_by}
use Rattle.std.proofs.lemmas.Bool.Decides.{nat_tests}
use Rattle.std.proofs.lemmas.List.Sums.{sum_by-append, sum_by-cons}
use Rattle.std.specs.declared.cmp.Ordering.{Ordering}
use Rattle.tree_shape.specs.Shape.{Tree, leaf, fork, in_order, IsAway, AreApart, IsOnce}
use Rattle.tree_shape.specs.Turns.{balanced_at}
use Rattle.tree_shape.specs.Changes.{entered}
use Rattle.tree_shape.proofs.Turning.{in_order-balanced_at}
use Rattle.tree_shape.proofs.Changing.{IsEntered, put, there, entered-slots}

abbrev pub here : ℕ → ℕ → ℕ
here i at = if i == at then 1 else 0

pub here-same : (i : ℕ) → here i i ≡ 1
here-same i = let test : (i == i) ≡ true = grind (arith, nat_tests) in rw test refl

pub here-other : (i at : ℕ) → at ≢ i → here i at ≡ 0
here-other i at ne = let test : (i == at) ≡ false = grind (arith, nat_tests, ne) in rw test refl

unfoldable pub times : ℕ → Tree → ℕ
times i t = sum_by (here i) (in_order t)

pub times-leaf : (i : ℕ) → times i leaf ≡ 0
unfolding times in_order
times-leaf i = refl

pub times-row : (i at : ℕ) (xs ys : List ℕ) → sum_by (here i) (xs ++ at ∷ ys) ≡ sum_by (here i) xs + here i at + sum_by (here i) ys
times-row i at xs ys = let e = sum_by-append (here i) xs (at ∷ ys) in let f = sum_by-cons (here i) at ys in omega (arith, e, f)

pub times-fork : (i at : ℕ) (l r : Tree) → times i (fork at l r) ≡ times i l + here i at + times i r
unfolding times in_order
times-fork i at l r = times-row i at (in_order l) (in_order r)

-- away
pub times-away : (i : ℕ) (t : Tree) → times i t ≡ 0 → IsAway i t
unfolding IsAway
times-away i leaf e = tt
times-away i (fork at l r) e =
    let all = times-fork i at l r in
    let nought : here i at ≡ 0 = omega (arith, all, e) in
    let same = here-same i in (
      λ (is : at ≡ i). let one : here i at ≡ 1 = subst (λ (n : ℕ). here i n ≡ 1) (sym is) same in absurd (omega (arith, one, nought)),
      times-away i l (omega (arith, all, e)),
      times-away i r (omega (arith, all, e)),
    )

pub away-times : (i : ℕ) (t : Tree) → IsAway i t → times i t ≡ 0
unfolding IsAway
away-times i leaf away = times-leaf i
away-times i (fork at l r) away =
    let all = times-fork i at l r in
    let one = away-times i l away.1 in
    let two = away-times i r away.2 in
    let no = here-other i at away.0 in
    omega (arith, all, one, two, no)

-- apart
pub times-apart : (l r : Tree) → ((i : ℕ) → times i l + times i r ≤ 1) → AreApart l r
unfolding AreApart
times-apart leaf r most = tt
times-apart (fork at a b) r most = (
  times-away at r (let all = times-fork at at a b in let same = here-same at in let e = most at in omega (arith, all, same, e)),
  times-apart a r (λ i. let all = times-fork i at a b in let e = most i in omega (arith, all, e)),
  times-apart b r (λ i. let all = times-fork i at a b in let e = most i in omega (arith, all, e)),
)

apart-none : (i : ℕ) (l r : Tree) → AreApart l r → (times i l ≡ 0) ⊎ (times i r ≡ 0)
unfolding AreApart
apart-none i leaf r apart = inl (times-leaf i)
apart-none i (fork at a b) r apart = by_test (i == at) refl (apart-none i a r apart.1) (apart-none i b r apart.2)
  where
    by_test : (t : Bool) → (i == at) ≡ t → (times i a ≡ 0) ⊎ (times i r ≡ 0) → (times i b ≡ 0) ⊎ (times i r ≡ 0) → (times i (fork at a b) ≡ 0) ⊎ (times i r ≡ 0)
    by_test true test left right = let is : i ≡ at = grind (arith, nat_tests, test) in inr (subst (λ (n : ℕ). times n r ≡ 0) (sym is) (away-times at r apart.0))
    by_test false test (inr none) right = inr none
    by_test false test (inl none) (inr other) = inr other
    by_test false test (inl none) (inl other) =
        let all = times-fork i at a b in
        let blank : here i at ≡ 0 = rw test refl in
        inl (omega (arith, all, blank, none, other))

-- once
pub times-once : (t : Tree) → ((i : ℕ) → times i t ≤ 1) → IsOnce t
unfolding IsOnce
times-once leaf most = tt
times-once (fork at l r) most =
    let all = times-fork at at l r in
    let same = here-same at in
    let e = most at in (
      times-away at l (omega (arith, all, same, e)),
      times-away at r (omega (arith, all, same, e)),
      times-apart l r (λ i. let whole = times-fork i at l r in let one = most i in omega (arith, whole, one)),
      times-once l (λ i. let whole = times-fork i at l r in let one = most i in omega (arith, whole, one)),
      times-once r (λ i. let whole = times-fork i at l r in let one = most i in omega (arith, whole, one)),
    )

pub once-times : (t : Tree) → IsOnce t → (i : ℕ) → times i t ≤ 1
unfolding IsOnce
once-times leaf once i = let none = times-leaf i in omega (arith, none)
once-times (fork at l r) once i = by_test (i == at) refl (apart-none i l r once.2) (once-times l once.3 i) (once-times r once.4 i)
  where
    by_test : (t : Bool) → (i == at) ≡ t → (times i l ≡ 0) ⊎ (times i r ≡ 0) → times i l ≤ 1 → times i r ≤ 1 → times i (fork at l r) ≤ 1
    by_test true test apart left right =
        let is : i ≡ at = grind (arith, nat_tests, test) in
        let all = times-fork i at l r in
        let one : here i at ≡ 1 = rw test refl in
        let lefts : times i l ≡ 0 = subst (λ (n : ℕ). times n l ≡ 0) (sym is) (away-times at l once.0) in
        let rights : times i r ≡ 0 = subst (λ (n : ℕ). times n r ≡ 0) (sym is) (away-times at r once.1) in
        omega (arith, all, one, lefts, rights)
    by_test false test (inl none) left right =
        let all = times-fork i at l r in
        let blank : here i at ≡ 0 = rw test refl in
        omega (arith, all, blank, none, right)
    by_test false test (inr none) left right =
        let all = times-fork i at l r in
        let blank : here i at ≡ 0 = rw test refl in
        omega (arith, all, blank, none, left)

-- in two trees that are apart
pub apart-times : (l r : Tree) → AreApart l r → IsOnce l → IsOnce r → (i : ℕ) → times i l + times i r ≤ 1
apart-times l r apart left right i =
    let one = once-times l left i in
    let two = once-times r right i in
    ⊎_elim (λ (e : times i l ≡ 0). omega (arith, e, two)) (λ (e : times i r ≡ 0). omega (arith, e, one)) (apart-none i l r apart)

-- a slot that is put in stands once more at most, and no slot less
entered-list : (order : ℕ → Ordering) (new i : ℕ) (old now : List ℕ) → IsEntered order new old now → (sum_by (here i) old ≤ sum_by (here i) now) × (sum_by (here i) now ≤ sum_by (here i) old + here i new)
entered-list order new i old now (put earlier later was is) =
    let one = ap (λ (xs : List ℕ). sum_by (here i) xs) was in
    let two = ap (λ (xs : List ℕ). sum_by (here i) xs) is in
    let three = sum_by-append (here i) earlier later in
    let four = times-row i new earlier later in
    (omega (arith, one, two, three, four), omega (arith, one, two, three, four))
entered-list order new i old now (there at earlier later equal was is) =
    let two = ap (λ (xs : List ℕ). sum_by (here i) xs) is in
    (omega (arith, two), omega (arith, two))

pub times-entered : (order : ℕ → Ordering) (new i : ℕ) (t : Tree) → times i (entered order new t) ≤ times i t + here i new
unfolding times
times-entered order new i t = (entered-list order new i (in_order t) (in_order (entered order new t)) (entered-slots order new t)).1
