-- What is put in or taken out changes a tree's levels by one at most, and keeps the slots of the others in order.
use Rattle.std.proofs.Common.{◌≡◌, ℕ, suc, ◌+◌, ◌<◌, ◌≤◌, nat_lt, Bool, true, false, if◌then◌else◌, List, [], ◌∷◌, ◌++◌, max, refl, sym, ap, ◌∙◌, arith, append_assoc}
use Rattle.std.specs.declared.cmp.Ordering.{Ordering}
use Rattle.std.specs.declared.cmp.Ordering.TheVariants.{Less, Equal, Greater}
use Rattle.std.proofs.lemmas.List.{append-nil}
use Rattle.tree_shape.specs.Shape.{Tree, leaf, fork, levels, in_order, IsEven}
use Rattle.tree_shape.specs.Turns.{left_up, right_up, balanced_at}
use Rattle.tree_shape.specs.Changes.{by_order, entered, least, without_least, joined_sides, tree_without}
use Rattle.tree_shape.specs.Sides.{sided}
use Rattle.tree_shape.proofs.Sided.{levels-sided}
use Rattle.tree_shape.proofs.Turning.{levels-fork, levels-none, even-fork, even-sides, even-sided, in_order-balanced_at, balanced_at-sided}

-- sides that are even already
pub balanced_at-flat : (at : ℕ) (l r : Tree) → levels l ≤ levels r + 1 → levels r ≤ levels l + 1 → balanced_at at l r ≡ fork at l r
unfolding balanced_at
balanced_at-flat at l r left right = by_test (nat_lt (levels r + 1) (levels l)) (nat_lt (levels l + 1) (levels r)) refl refl
  where
    by_test : (t u : Bool) → nat_lt (levels r + 1) (levels l) ≡ t → nat_lt (levels l + 1) (levels r) ≡ u → (if t then left_up at l r else (if u then right_up at l r else fork at l r)) ≡ fork at l r
    by_test true u test other = let more : levels r + 1 < levels l = grind (arith, test) in absurd (omega (arith, more, left))
    by_test false true test other = let more : levels l + 1 < levels r = grind (arith, other) in absurd (omega (arith, more, right))
    by_test false false test other = refl

pub even-one : (at : ℕ) → IsEven (fork at leaf leaf)
unfolding IsEven
even-one at = let none = levels-none in (omega (arith, none), omega (arith, none), tt, tt)

-- levels of an even tree that grew out of one, or shrank
pub record IsGrown (old new : Tree) : Type 0 where
  pub even : IsEven new
  pub least : levels old ≤ levels new
  pub most : levels new ≤ levels old + 1

pub record IsShrunk (old new : Tree) : Type 0 where
  pub even : IsEven new
  pub least : levels old ≤ levels new + 1
  pub most : levels new ≤ levels old

-- numbers alone: what a node has between sides of l and of r levels, and what it has after the one came to have m
record AreLevels (l r m n k : ℕ) : Type 0 where
  left : l ≤ r + 1
  right : r ≤ l + 1
  was : k ≡ suc (max l r)
  least : max m r ≤ n
  most : n ≤ max m r + 1
  flat : m ≤ r + 1 → r ≤ m + 1 → n ≡ suc (max m r)

changed-levels : (l r m n k : ℕ) → AreLevels l r m n k → (l ≤ m → k ≤ n) × (m ≤ l + 1 → n ≤ k + 1) × (l ≤ m + 1 → k ≤ n + 1) × (m ≤ l → n ≤ k)
changed-levels l r m n k is = by_test (nat_lt (r + 1) m) (nat_lt (m + 1) r) refl refl is.left is.right is.was is.least is.most
  where
    by_test : (t u : Bool) → nat_lt (r + 1) m ≡ t → nat_lt (m + 1) r ≡ u → l ≤ r + 1 → r ≤ l + 1 → k ≡ suc (max l r) → max m r ≤ n → n ≤ max m r + 1
        → (l ≤ m → k ≤ n) × (m ≤ l + 1 → n ≤ k + 1) × (l ≤ m + 1 → k ≤ n + 1) × (m ≤ l → n ≤ k)
    by_test true u test other a b c d e = let more : r + 1 < m = grind (arith, test) in (λ h. omega arith, λ h. omega arith, λ h. omega arith, λ h. omega arith)
    by_test false true test other a b c d e = let more : m + 1 < r = grind (arith, other) in (λ h. omega arith, λ h. omega arith, λ h. omega arith, λ h. omega arith)
    by_test false false test other a b c d e =
        let few : m ≤ r + 1 = grind (arith, test) in
        let less : r ≤ m + 1 = grind (arith, other) in
        let same : n ≡ suc (max m r) = is.flat few less in
        (λ h. omega (arith, same), λ h. omega (arith, same), λ h. omega (arith, same), λ h. omega (arith, same))

flat-sided : (s : Bool) (at : ℕ) (t u : Tree) → levels t ≤ levels u + 1 → levels u ≤ levels t + 1 → sided s (balanced_at at) t u ≡ sided s (fork at) t u
flat-sided true at t u few less = balanced_at-flat at t u few less
flat-sided false at t u few less = balanced_at-flat at u t less few

-- a node whose one side grew or shrank
module _ (s : Bool) (at : ℕ) (t u : Tree) (even : IsEven (sided s (fork at) t u)) (new : Tree) where
  changed : IsEven new → levels t ≤ levels new + 1 → levels new ≤ levels t + 1
      → IsEven (sided s (balanced_at at) new u) × AreLevels (levels t) (levels u) (levels new) (levels (sided s (balanced_at at) new u)) (levels (sided s (fork at) t u))
  changed evenly least most =
      let sides = even-sided s at t u even in
      let settles = balanced_at-sided s at new u evenly sides.3 (omega (arith, most, sides.0)) (omega (arith, least, sides.1)) in (
        settles.even,
        record {
          left = sides.0;
          right = sides.1;
          was = levels-sided s at t u;
          least = settles.least;
          most = settles.low;
          flat = λ few less. ap levels (flat-sided s at new u few less) ∙ levels-sided s at new u;
        },
      )

  grown : IsGrown t new → IsGrown (sided s (fork at) t u) (sided s (balanced_at at) new u)
  grown is =
      let now = changed is.even (omega (arith, is.least)) is.most in
      let answered = changed-levels (levels t) (levels u) (levels new) (levels (sided s (balanced_at at) new u)) (levels (sided s (fork at) t u)) now.1 in
      record { even = now.0; least = answered.0 is.least; most = answered.1 is.most }

  shrunk : IsShrunk t new → IsShrunk (sided s (fork at) t u) (sided s (balanced_at at) new u)
  shrunk is =
      let now = changed is.even is.least (omega (arith, is.most)) in
      let answered = changed-levels (levels t) (levels u) (levels new) (levels (sided s (balanced_at at) new u)) (levels (sided s (fork at) t u)) now.1 in
      record { even = now.0; least = answered.2 is.least; most = answered.3 is.most }

same-grown : (t : Tree) → IsEven t → IsGrown t t
same-grown t even = record { even = even; least = omega arith; most = omega arith }

same-shrunk : (t : Tree) → IsEven t → IsShrunk t t
same-shrunk t even = record { even = even; least = omega arith; most = omega arith }

-- a slot that is put in
pub entered-grown : (order : ℕ → Ordering) (new : ℕ) (t : Tree) → IsEven t → IsGrown t (entered order new t)
unfolding entered
entered-grown order new leaf even =
    let none = levels-none in
    let one = levels-fork new leaf leaf in
    record { even = even-one new; least = omega (arith, none); most = omega (arith, none, one) }
entered-grown order new (fork at l r) even =
    let sides = even-sides at l r even in
    by_test (order at) (entered-grown order new l sides.2) (entered-grown order new r sides.3)
  where
    by_test : (o : Ordering) → IsGrown l (entered order new l) → IsGrown r (entered order new r) → IsGrown (fork at l r) (by_order o (balanced_at at l (entered order new r)) (fork at l r) (balanced_at at (entered order new l) r))
    by_test Less left right = grown false at r l even (entered order new r) right
    by_test Equal left right = same-grown (fork at l r) even
    by_test Greater left right = grown true at l r even (entered order new l) left

-- a node goes, and one side is all that is left
alone-shrunk : (s : Bool) (at : ℕ) (t : Tree) → IsEven (sided s (fork at) leaf t) → IsShrunk (sided s (fork at) leaf t) t
alone-shrunk s at t even =
    let sides = even-sided s at leaf t even in
    let none = levels-none in
    let all = levels-sided s at leaf t in
    record { even = sides.3; least = omega (arith, none, all); most = omega (arith, none, all) }

-- the first slot that is taken out
pub without_least-shrunk : (at : ℕ) (l r : Tree) → IsEven (fork at l r) → IsShrunk (fork at l r) (without_least at l r)
unfolding without_least
without_least-shrunk at leaf r even = alone-shrunk true at r even
without_least-shrunk at (fork top a b) r even =
    let sides = even-sides at (fork top a b) r even in
    shrunk true at (fork top a b) r even (without_least top a b) (without_least-shrunk top a b sides.2)

-- a node goes, and its sides are merged
pub joined_sides-shrunk : (at : ℕ) (l r : Tree) → IsEven (fork at l r) → IsShrunk (fork at l r) (joined_sides l r)
unfolding joined_sides
joined_sides-shrunk at l leaf even = alone-shrunk false at l even
joined_sides-shrunk at l (fork top a b) even =
    let sides = even-sides at l (fork top a b) even in
    let other = even-fork (least top a) l (fork top a b) sides.0 sides.1 sides.2 sides.3 in
    let is = shrunk false (least top a) (fork top a b) l other (without_least top a b) (without_least-shrunk top a b sides.3) in
    let one = levels-fork at l (fork top a b) in
    let two = levels-fork (least top a) l (fork top a b) in
    let low = is.least in
    let high = is.most in
    record { even = is.even; least = omega (arith, one, two, low); most = omega (arith, one, two, high) }

pub tree_without-shrunk : (order : ℕ → Ordering) (t : Tree) → IsEven t → IsShrunk t (tree_without order t)
unfolding tree_without
tree_without-shrunk order leaf even = same-shrunk leaf even
tree_without-shrunk order (fork at l r) even =
    let sides = even-sides at l r even in
    by_test (order at) (tree_without-shrunk order l sides.2) (tree_without-shrunk order r sides.3)
  where
    by_test : (o : Ordering) → IsShrunk l (tree_without order l) → IsShrunk r (tree_without order r) → IsShrunk (fork at l r) (by_order o (balanced_at at l (tree_without order r)) (joined_sides l r) (balanced_at at (tree_without order l) r))
    by_test Less left right = shrunk false at r l even (tree_without order r) right
    by_test Equal left right = joined_sides-shrunk at l r even
    by_test Greater left right = shrunk true at l r even (tree_without order l) left

-- the slots in order
pub in_order-least : (at : ℕ) (l r : Tree) → least at l ∷ in_order (without_least at l r) ≡ in_order l ++ at ∷ in_order r
unfolding in_order least without_least
in_order-least at leaf r = refl
in_order-least at (fork top a b) r =
    ap (λ xs. least top a ∷ xs) (in_order-balanced_at at (without_least top a b) r)
    ∙ ap (λ xs. xs ++ at ∷ in_order r) (in_order-least top a b)

pub in_order-joined_sides : (l r : Tree) → in_order (joined_sides l r) ≡ in_order l ++ in_order r
unfolding in_order joined_sides
in_order-joined_sides l leaf = sym (append-nil (in_order l))
in_order-joined_sides l (fork top a b) =
    in_order-balanced_at (least top a) l (without_least top a b) ∙ ap (λ xs. in_order l ++ xs) (in_order-least top a b)

-- Where a slot is put in, unless one of an equal content is there.
pub data IsEntered (order : ℕ → Ordering) (new : ℕ) (old now : List ℕ) : Type 0 where
  put : (earlier later : List ℕ) → old ≡ earlier ++ later → now ≡ earlier ++ new ∷ later → IsEntered order new old now
  there : (at : ℕ) (earlier later : List ℕ) → order at ≡ Equal → old ≡ earlier ++ at ∷ later → now ≡ old → IsEntered order new old now

pub entered-slots : (order : ℕ → Ordering) (new : ℕ) (t : Tree) → IsEntered order new (in_order t) (in_order (entered order new t))
unfolding entered in_order
entered-slots order new leaf = put [] [] refl refl
entered-slots order new (fork at l r) = by_test (order at) refl (entered-slots order new l) (entered-slots order new r)
  where
    by_test : (o : Ordering) → order at ≡ o → IsEntered order new (in_order l) (in_order (entered order new l)) → IsEntered order new (in_order r) (in_order (entered order new r))
        → IsEntered order new (in_order l ++ at ∷ in_order r) (in_order (by_order o (balanced_at at l (entered order new r)) (fork at l r) (balanced_at at (entered order new l) r)))
    by_test Less e left (put earlier later was is) =
        put (in_order l ++ at ∷ earlier) later
        (ap (λ xs. in_order l ++ at ∷ xs) was ∙ sym (append_assoc (in_order l) (at ∷ earlier) later))
        (in_order-balanced_at at l (entered order new r) ∙ ap (λ xs. in_order l ++ at ∷ xs) is ∙ sym (append_assoc (in_order l) (at ∷ earlier) (new ∷ later)))
    by_test Less e left (there found earlier later equal was is) =
        there found (in_order l ++ at ∷ earlier) later equal
        (ap (λ xs. in_order l ++ at ∷ xs) was ∙ sym (append_assoc (in_order l) (at ∷ earlier) (found ∷ later)))
        (in_order-balanced_at at l (entered order new r) ∙ ap (λ xs. in_order l ++ at ∷ xs) is)
    by_test Equal e left right = there at (in_order l) (in_order r) e refl refl
    by_test Greater e (put earlier later was is) right =
        put earlier (later ++ at ∷ in_order r)
        (ap (λ xs. xs ++ at ∷ in_order r) was ∙ append_assoc earlier later (at ∷ in_order r))
        (in_order-balanced_at at (entered order new l) r ∙ ap (λ xs. xs ++ at ∷ in_order r) is ∙ append_assoc earlier (new ∷ later) (at ∷ in_order r))
    by_test Greater e (there found earlier later equal was is) right =
        there found earlier (later ++ at ∷ in_order r) equal
        (ap (λ xs. xs ++ at ∷ in_order r) was ∙ append_assoc earlier (found ∷ later) (at ∷ in_order r))
        (in_order-balanced_at at (entered order new l) r ∙ ap (λ xs. xs ++ at ∷ in_order r) is)

-- Where a slot of an equal content is taken out, if the way down leads to one.
pub data IsTaken (order : ℕ → Ordering) (old now : List ℕ) : Type 0 where
  gone : (at : ℕ) (earlier later : List ℕ) → order at ≡ Equal → old ≡ earlier ++ at ∷ later → now ≡ earlier ++ later → IsTaken order old now
  kept : now ≡ old → IsTaken order old now

pub tree_without-slots : (order : ℕ → Ordering) (t : Tree) → IsTaken order (in_order t) (in_order (tree_without order t))
unfolding tree_without in_order
tree_without-slots order leaf = kept refl
tree_without-slots order (fork at l r) = by_test (order at) refl (tree_without-slots order l) (tree_without-slots order r)
  where
    by_test : (o : Ordering) → order at ≡ o → IsTaken order (in_order l) (in_order (tree_without order l)) → IsTaken order (in_order r) (in_order (tree_without order r))
        → IsTaken order (in_order l ++ at ∷ in_order r) (in_order (by_order o (balanced_at at l (tree_without order r)) (joined_sides l r) (balanced_at at (tree_without order l) r)))
    by_test Less e left (gone found earlier later equal was is) =
        gone found (in_order l ++ at ∷ earlier) later equal
        (ap (λ xs. in_order l ++ at ∷ xs) was ∙ sym (append_assoc (in_order l) (at ∷ earlier) (found ∷ later)))
        (in_order-balanced_at at l (tree_without order r) ∙ ap (λ xs. in_order l ++ at ∷ xs) is ∙ sym (append_assoc (in_order l) (at ∷ earlier) later))
    by_test Less e left (kept is) = kept (in_order-balanced_at at l (tree_without order r) ∙ ap (λ xs. in_order l ++ at ∷ xs) is)
    by_test Equal e left right = gone at (in_order l) (in_order r) e refl (in_order-joined_sides l r)
    by_test Greater e (gone found earlier later equal was is) right =
        gone found earlier (later ++ at ∷ in_order r) equal
        (ap (λ xs. xs ++ at ∷ in_order r) was ∙ append_assoc earlier (found ∷ later) (at ∷ in_order r))
        (in_order-balanced_at at (tree_without order l) r ∙ ap (λ xs. xs ++ at ∷ in_order r) is ∙ append_assoc earlier later (at ∷ in_order r))
    by_test Greater e (kept is) right = kept (in_order-balanced_at at (tree_without order l) r ∙ ap (λ xs. xs ++ at ∷ in_order r) is)
