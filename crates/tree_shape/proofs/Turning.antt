-- What is resolved has the same slots in the same order, is even, and has the levels of its higher side or one more.
use Rattle.std.proofs.Common.{◌≡◌, ℕ, suc, ◌+◌, ◌<◌, ◌≤◌, nat_lt, Bool, true, false, if◌then◌else◌, List, [], ◌∷◌, ◌++◌, max, refl, sym, ap, ◌∙◌, arith, append_assoc}
use Rattle.tree_shape.specs.Shape.{Tree, leaf, fork, levels, in_order, IsEven}
use Rattle.tree_shape.specs.Turns.{left_up, right_up, balanced_at}
use Rattle.tree_shape.specs.Sides.{sided, up_by}
use Rattle.tree_shape.proofs.Sided.{levels-sided}

pub levels-fork : (at : ℕ) (l r : Tree) → levels (fork at l r) ≡ suc (max (levels l) (levels r))
unfolding levels
levels-fork at l r = refl

pub levels-none : levels leaf ≡ 0
unfolding levels
levels-none = refl

-- a node's sides, reported of one node
pub even-fork : (at : ℕ) (l r : Tree) → levels l ≤ levels r + 1 → levels r ≤ levels l + 1 → IsEven l → IsEven r → IsEven (fork at l r)
unfolding IsEven
even-fork at l r left right evenl evenr = (left, right, evenl, evenr)

pub even-sides : (at : ℕ) (l r : Tree) → IsEven (fork at l r) → (levels l ≤ levels r + 1) × (levels r ≤ levels l + 1) × IsEven l × IsEven r
unfolding IsEven
even-sides at l r even = even

pub sided-even : (s : Bool) (at : ℕ) (t u : Tree) → levels t ≤ levels u + 1 → levels u ≤ levels t + 1 → IsEven t → IsEven u → IsEven (sided s (fork at) t u)
sided-even true at t u few less event evenu = even-fork at t u few less event evenu
sided-even false at t u few less event evenu = even-fork at u t less few evenu event

pub even-sided : (s : Bool) (at : ℕ) (t u : Tree) → IsEven (sided s (fork at) t u) → (levels t ≤ levels u + 1) × (levels u ≤ levels t + 1) × IsEven t × IsEven u
even-sided true at t u even = even-sides at t u even
even-sided false at t u even = let is = even-sides at u t even in (is.1, is.0, is.3, is.2)

-- the slots stay in order
turn-once : (a b r : List ℕ) (side at : ℕ) → a ++ side ∷ (b ++ at ∷ r) ≡ (a ++ side ∷ b) ++ at ∷ r
turn-once a b r side at = sym (append_assoc a (side ∷ b) (at ∷ r))

turn-twice : (a b c r : List ℕ) (side top at : ℕ) → (a ++ side ∷ b) ++ top ∷ (c ++ at ∷ r) ≡ (a ++ side ∷ (b ++ top ∷ c)) ++ at ∷ r
turn-twice a b c r side top at =
    append_assoc a (side ∷ b) (top ∷ (c ++ at ∷ r))
    ∙ ap (λ xs. a ++ side ∷ xs) (sym (append_assoc b (top ∷ c) (at ∷ r)))
    ∙ sym (append_assoc a (side ∷ (b ++ top ∷ c)) (at ∷ r))

turn-back : (l b c d : List ℕ) (at top side : ℕ) → (l ++ at ∷ b) ++ top ∷ (c ++ side ∷ d) ≡ l ++ at ∷ ((b ++ top ∷ c) ++ side ∷ d)
turn-back l b c d at top side =
    append_assoc l (at ∷ b) (top ∷ (c ++ side ∷ d))
    ∙ ap (λ xs. l ++ at ∷ xs) (sym (append_assoc b (top ∷ c) (side ∷ d)))

pub in_order-left_up : (at : ℕ) (l r : Tree) → in_order (left_up at l r) ≡ in_order l ++ at ∷ in_order r
unfolding in_order left_up
in_order-left_up at leaf r = refl
in_order-left_up at (fork side a leaf) r = turn-once (in_order a) [] (in_order r) side at
in_order-left_up at (fork side a (fork top b c)) r = by_test (nat_lt (levels a) (levels (fork top b c)))
  where
    by_test : (t : Bool) → in_order (if t then fork top (fork side a b) (fork at c r) else fork side a (fork at (fork top b c) r)) ≡ (in_order a ++ side ∷ (in_order b ++ top ∷ in_order c)) ++ at ∷ in_order r
    by_test true = turn-twice (in_order a) (in_order b) (in_order c) (in_order r) side top at
    by_test false = turn-once (in_order a) (in_order b ++ top ∷ in_order c) (in_order r) side at

pub in_order-right_up : (at : ℕ) (l r : Tree) → in_order (right_up at l r) ≡ in_order l ++ at ∷ in_order r
unfolding in_order right_up
in_order-right_up at l leaf = refl
in_order-right_up at l (fork side leaf d) = append_assoc (in_order l) (at ∷ []) (side ∷ in_order d)
in_order-right_up at l (fork side (fork top b c) d) = by_test (nat_lt (levels d) (levels (fork top b c)))
  where
    by_test : (t : Bool) → in_order (if t then fork top (fork at l b) (fork side c d) else fork side (fork at l (fork top b c)) d) ≡ in_order l ++ at ∷ ((in_order b ++ top ∷ in_order c) ++ side ∷ in_order d)
    by_test true = turn-back (in_order l) (in_order b) (in_order c) (in_order d) at top side
    by_test false = append_assoc (in_order l) (at ∷ (in_order b ++ top ∷ in_order c)) (side ∷ in_order d)

pub in_order-balanced_at : (at : ℕ) (l r : Tree) → in_order (balanced_at at l r) ≡ in_order l ++ at ∷ in_order r
unfolding in_order balanced_at
in_order-balanced_at at l r = by_test (nat_lt (levels r + 1) (levels l)) (nat_lt (levels l + 1) (levels r))
  where
    by_test : (t u : Bool) → in_order (if t then left_up at l r else (if u then right_up at l r else fork at l r)) ≡ in_order l ++ at ∷ in_order r
    by_test true u = in_order-left_up at l r
    by_test false true = in_order-right_up at l r
    by_test false false = refl

-- what comes up is even, and has the levels of the higher side or one more
pub record IsLevel (most : ℕ) (t : Tree) : Type 0 where
  pub even : IsEven t
  pub least : most ≤ levels t
  pub low : levels t ≤ most + 1

-- a node of sides whose levels are known
sided-level : (s : Bool) (most at : ℕ) (t u : Tree) → levels t ≤ levels u + 1 → levels u ≤ levels t + 1 → IsEven t → IsEven u → most ≤ suc (max (levels t) (levels u)) → suc (max (levels t) (levels u)) ≤ most + 1
    → IsLevel most (sided s (fork at) t u)
sided-level s most at t u few less event evenu least low =
    let answered = levels-sided s at t u in
    record { even = sided-even s at t u few less event evenu; least = omega (arith, answered, least); low = omega (arith, answered, low) }

-- which turn a node takes, as its code tests it
pub up-once : (s : Bool) (at side : ℕ) (a b o : Tree) → levels b ≤ levels a → up_by s at (sided s (fork side) a b) o ≡ sided s (fork side) a (sided s (fork at) b o)
unfolding left_up right_up
up-once true at side a leaf o few = refl
up-once true at side a (fork top b c) o few = let test : nat_lt (levels a) (levels (fork top b c)) ≡ false = grind (arith, few) in rw test refl
up-once false at side a leaf o few = refl
up-once false at side a (fork top b c) o few = let test : nat_lt (levels a) (levels (fork top b c)) ≡ false = grind (arith, few) in rw test refl

pub up-twice : (s : Bool) (at side top : ℕ) (a b c o : Tree) → levels a < levels (sided s (fork top) b c)
    → up_by s at (sided s (fork side) a (sided s (fork top) b c)) o ≡ sided s (fork top) (sided s (fork side) a b) (sided s (fork at) c o)
unfolding left_up right_up
up-twice true at side top a b c o more = let test : nat_lt (levels a) (levels (fork top b c)) ≡ true = grind (arith, more) in rw test refl
up-twice false at side top a b c o more = let test : nat_lt (levels a) (levels (fork top c b)) ≡ true = grind (arith, more) in rw test refl

-- what comes up is even
module _ (s : Bool) (at side : ℕ) (a o : Tree) (eveno : IsEven o) where
  once-level : (b : Tree) → IsEven (sided s (fork side) a b) → levels (sided s (fork side) a b) ≡ levels o + 2 → levels b ≤ levels a → IsLevel (levels (sided s (fork side) a b)) (up_by s at (sided s (fork side) a b) o)
  once-level b even e few =
      let sides = even-sided s side a b even in
      let all = levels-sided s side a b in
      let one : levels a ≡ levels o + 1 = grind (arith, all, few, e) in
      let inner = levels-sided s at b o in
      let low : levels o ≤ levels b = omega (arith, sides.0, one) in
      let inners : levels (sided s (fork at) b o) ≡ levels b + 1 = grind (arith, inner, low) in
      rw (up-once s at side a b o few)
      (sided-level s (levels (sided s (fork side) a b)) side a (sided s (fork at) b o) (omega (arith, inners, one, low)) (omega (arith, inners, few)) sides.2
      (sided-even s at b o (omega (arith, few, one)) (omega (arith, low)) sides.3 eveno) (grind (arith, inners, one, low, few, e)) (grind (arith, inners, one, low, few, e)))

  twice-level : (top : ℕ) (b c : Tree) → IsEven (sided s (fork side) a (sided s (fork top) b c)) → levels (sided s (fork side) a (sided s (fork top) b c)) ≡ levels o + 2 → levels a < levels (sided s (fork top) b c)
      → IsLevel (levels (sided s (fork side) a (sided s (fork top) b c))) (up_by s at (sided s (fork side) a (sided s (fork top) b c)) o)
  twice-level top b c even e less =
      let sides = even-sided s side a (sided s (fork top) b c) even in
      let under = even-sided s top b c sides.3 in
      let all = levels-sided s side a (sided s (fork top) b c) in
      let middle = levels-sided s top b c in
      let one : levels a ≡ levels o = grind (arith, all, sides.1, less, e) in
      let two : max (levels b) (levels c) ≡ levels o = grind (arith, all, middle, sides.1, less, e) in
      let outer = levels-sided s side a b in
      let inner = levels-sided s at c o in
      let outers : levels (sided s (fork side) a b) ≡ levels o + 1 = grind (arith, outer, one, two) in
      let inners : levels (sided s (fork at) c o) ≡ levels o + 1 = grind (arith, inner, two) in
      rw (up-twice s at side top a b c o less)
      (sided-level s (levels (sided s (fork side) a (sided s (fork top) b c))) top (sided s (fork side) a b) (sided s (fork at) c o) (omega (arith, outers, inners)) (omega (arith, outers, inners))
      (sided-even s side a b (grind (arith, one, two, under.0, under.1)) (grind (arith, one, two)) sides.2 under.2)
      (sided-even s at c o (grind (arith, two)) (grind (arith, two, under.0, under.1)) under.3 eveno) (grind (arith, outers, inners, e)) (grind (arith, outers, inners, e)))

-- a tree with levels is a node
by-node : (s : Bool) (t : Tree) (P : Tree → Type 0) → 0 < levels t → ((at : ℕ) (a b : Tree) → P (sided s (fork at) a b)) → P t
by-node s leaf P some each = let none = levels-none in absurd (omega (arith, none, some))
by-node true (fork at l r) P some each = each at l r
by-node false (fork at l r) P some each = each at r l

up-level : (s : Bool) (at : ℕ) (t o : Tree) → IsEven t → IsEven o → levels t ≡ levels o + 2 → IsLevel (levels t) (up_by s at t o)
up-level s at t o event eveno e =
    by-node s t (λ (t : Tree). IsEven t → levels t ≡ levels o + 2 → IsLevel (levels t) (up_by s at t o)) (omega (arith, e)) (λ side a b. by_test side a b (nat_lt (levels a) (levels b)) refl) event e
  where
    by_test : (side : ℕ) (a b : Tree) (t : Bool) → nat_lt (levels a) (levels b) ≡ t → IsEven (sided s (fork side) a b) → levels (sided s (fork side) a b) ≡ levels o + 2
        → IsLevel (levels (sided s (fork side) a b)) (up_by s at (sided s (fork side) a b) o)
    by_test side a b true test even e =
        let more : levels a < levels b = grind (arith, test) in
        by-node s b (λ (t : Tree). IsEven (sided s (fork side) a t) → levels (sided s (fork side) a t) ≡ levels o + 2 → levels a < levels t → IsLevel (levels (sided s (fork side) a t)) (up_by s at (sided s (fork side) a t) o))
        (omega (arith, more)) (λ top b c. twice-level s at side a o eveno top b c) even e more
    by_test side a b false test even e = once-level s at side a o eveno b even e (grind (arith, test))

-- a node between two even sides that differ by two levels at most
pub balanced_at-level : (at : ℕ) (l r : Tree) → IsEven l → IsEven r → levels l ≤ levels r + 2 → levels r ≤ levels l + 2 → IsLevel (max (levels l) (levels r)) (balanced_at at l r)
unfolding balanced_at
balanced_at-level at l r evenl evenr left right = by_test (nat_lt (levels r + 1) (levels l)) (nat_lt (levels l + 1) (levels r)) refl refl
  where
    by_test : (t u : Bool) → nat_lt (levels r + 1) (levels l) ≡ t → nat_lt (levels l + 1) (levels r) ≡ u → IsLevel (max (levels l) (levels r)) (if t then left_up at l r else (if u then right_up at l r else fork at l r))
    by_test true u test other =
        let more : levels l ≡ levels r + 2 = grind (arith, test, left) in
        let most : max (levels l) (levels r) ≡ levels l = grind (arith, more) in
        rw most (up-level true at l r evenl evenr more)
    by_test false true test other =
        let more : levels r ≡ levels l + 2 = grind (arith, other, right) in
        let most : max (levels l) (levels r) ≡ levels r = grind (arith, more) in
        rw most (up-level false at r l evenr evenl more)
    by_test false false test other =
        let few : levels l ≤ levels r + 1 = grind (arith, test) in
        let less : levels r ≤ levels l + 1 = grind (arith, other) in
        sided-level true (max (levels l) (levels r)) at l r few less evenl evenr (omega arith) (omega arith)

-- the same reported of either side
pub balanced_at-sided : (s : Bool) (at : ℕ) (t u : Tree) → IsEven t → IsEven u → levels t ≤ levels u + 2 → levels u ≤ levels t + 2 → IsLevel (max (levels t) (levels u)) (sided s (balanced_at at) t u)
balanced_at-sided true at t u event evenu few less = balanced_at-level at t u event evenu few less
balanced_at-sided false at t u event evenu few less =
    let is = balanced_at-level at u t evenu event less few in
    let least = is.least in
    let low = is.low in
    record { even = is.even; least = omega (arith, least); low = omega (arith, low) }
