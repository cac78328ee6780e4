-- What arrives at the slots of a table.
use Rattle.std.proofs.Common.{◌≡◌, ℕ, zero, suc, ◌<◌, ◌≤◌, ◌==◌, if◌then◌else◌, List, [], ◌∷◌, All, IfSome, Option, Some, None, refl, sym, ap, subst, ◌∙◌, ◌⊎◌, inl, inr, arith}
use Rattle.std.proofs.lemmas.Bool.Decides.{eqb_tells}
use Rattle.std.proofs.lemmas.List.Elements.{All-nil, All-cons, All-head, All-tail}
use Rattle.verifier_kinds.specs.declared.description.Description.{Description}
use Rattle.verifier_kinds.specs.Descriptions.{start_description, join_of, IsDescription, IsDescriptionBelow}
use Rattle.verifier_kinds.proofs.Descriptions.{start_is_description}
use Rattle.verifier_kinds.proofs.Order.{description_below_self, description_below_trans}
use Rattle.verifier_kinds.proofs.Joins.{below_join_left, below_join_right, join_is_description}
use Rattle.verifier.specs.Subject.{Subject}
use Rattle.verifier.specs.Table.{Table, described, flows_by, flows_from, known_with, arrived, incoming}
use Rattle.verifier.specs.Pass.{AreDescribed, FlowDescribed}

-- what holds of the one value if two numbers are equal, and else of the other, holds of the choice
pub if_same : {X : Type 0} (P : X → Type 0) (a b : ℕ) (x y : X) → (a ≡ b → P x) → ((a ≡ b → ⊥) → P y) → P (if a == b then x else y)
if_same P a b x y same other = elim (eqb_tells a b) [ inl h ↦ rw h.0 (same h.1) | inr h ↦ rw h.0 (other h.1) ]

-- below the next number are the ones below this one, and this one
pub below_next : (s n : ℕ) → s < suc n → (s < n) ⊎ (s ≡ n)
below_next s n h = grind arith

-- tables that agree on the first n slots have the same flows from them
pub incoming-agree : (p : Subject) (table other : Table) (slot n : ℕ) → ((s : ℕ) → s < n → described table s ≡ described other s) → incoming p table slot n ≡ incoming p other slot n
unfolding incoming
incoming-agree p table other slot zero same = refl
incoming-agree p table other slot (suc n) same =
    let before : incoming p table slot n ≡ incoming p other slot n = incoming-agree p table other slot n (λ s h. same s (omega arith)) in
    ap (λ known. arrived slot known (flows_from p table n)) before ∙ ap (λ d. arrived slot (incoming p other slot n) (flows_by p n d)) (same n (omega arith))

-- before a slot the table says just what flows from the slots before each
abbrev pub IsTightBefore : Subject → Table → ℕ → Type 0
IsTightBefore p table n = (s : ℕ) → s < n → described table s ≡ incoming p table s s

-- two tables that are tight before a slot agree there
pub tables_agree : (p : Subject) (table other : Table) (n : ℕ) → IsTightBefore p table n → IsTightBefore p other n → (s : ℕ) → s < n → described table s ≡ described other s
tables_agree p table other zero t u s h = absurd (omega arith)
tables_agree p table other (suc n) t u s h =
    let before : (r : ℕ) → r < n → described table r ≡ described other r = tables_agree p table other n (λ r k. t r (omega arith)) (λ r k. u r (omega arith)) in
    elim (below_next s n h) [
      | inl below ↦ before s below
      | inr same ↦ rw same (t n (omega arith) ∙ incoming-agree p table other n n before ∙ sym (u n (omega arith)))
    ]

-- at least as much is known as a description says
abbrev pub IsUnder : Description → Option Description → Type 0
IsUnder d known = (e : Description) × (known ≡ Some e) × IsDescriptionBelow d e

pub IsDescription-known_with : (known : Option Description) (d : Description) → IfSome known IsDescription → IsDescription d → IsDescription (known_with known d)
IsDescription-known_with None d k q = q
IsDescription-known_with (Some e) d k q = join_is_description e d k q

below_joined : (known : Option Description) (d : Description) → IfSome known IsDescription → IsDescription d → IsDescriptionBelow d (known_with known d)
below_joined None d k q = description_below_self d
below_joined (Some e) d k q = below_join_right e d k q

under_joined : (c : Description) (known : Option Description) (d : Description) → IfSome known IsDescription → IsDescription d → IsUnder c known → IsUnder c (Some (known_with known d))
under_joined c None d k q (e, same, below) = absurd cc
under_joined c (Some b) d k q (e, same, below) =
    let P : Description → Type 0 = λ x. IsDescriptionBelow c x in
    let same' : e ≡ b = cc in
    (join_of b d, refl, description_below_trans c b (join_of b d) (subst P same' below) (below_join_left b d k q))

-- targets that lie elsewhere change nothing
pub arrived-elsewhere : (slot : ℕ) (known : Option Description) (targets : List (ℕ × Description)) → All (λ t. t.0 ≡ slot → ⊥) targets → arrived slot known targets ≡ known
arrived-elsewhere slot known [] other = refl
arrived-elsewhere slot known (t ∷ targets) other =
    let head : t.0 ≡ slot → ⊥ = All-head (λ t. t.0 ≡ slot → ⊥) t targets other in
    let P : Option Description → Type 0 = λ o. o ≡ known in
    let same : (if t.0 == slot then Some (known_with known t.1) else known) ≡ known = if_same P t.0 slot (Some (known_with known t.1)) known (λ e. absurd (head e)) (λ ne. refl) in
    ap (λ o. arrived slot o targets) same ∙ arrived-elsewhere slot known targets (All-tail (λ t. t.0 ≡ slot → ⊥) t targets other)

-- what arrives is a description of the verifier
pub IsDescription-arrived : (slot : ℕ) (known : Option Description) (targets : List (ℕ × Description)) → IfSome known IsDescription → AreDescribed targets → IfSome (arrived slot known targets) IsDescription
IsDescription-arrived slot known [] k q = k
IsDescription-arrived slot known (t ∷ targets) k q =
    let head : IsDescription t.1 = All-head (λ t. IsDescription t.1) t targets q in
    let next : IfSome (if t.0 == slot then Some (known_with known t.1) else known) IsDescription = if_same (λ o. IfSome o IsDescription) t.0 slot (Some (known_with known t.1)) known (λ e. IsDescription-known_with known t.1 k head) (λ e. k) in
    IsDescription-arrived slot (if t.0 == slot then Some (known_with known t.1) else known) targets next (All-tail (λ t. IsDescription t.1) t targets q)

-- no less is known once targets are reached
pub under_arrived : (c : Description) (slot : ℕ) (known : Option Description) (targets : List (ℕ × Description)) → IfSome known IsDescription → AreDescribed targets → IsUnder c known → IsUnder c (arrived slot known targets)
under_arrived c slot known [] k q u = u
under_arrived c slot known (t ∷ targets) k q u =
    let head : IsDescription t.1 = All-head (λ t. IsDescription t.1) t targets q in
    let next : IfSome (if t.0 == slot then Some (known_with known t.1) else known) IsDescription = if_same (λ o. IfSome o IsDescription) t.0 slot (Some (known_with known t.1)) known (λ e. IsDescription-known_with known t.1 k head) (λ e. k) in
    let under : IsUnder c (if t.0 == slot then Some (known_with known t.1) else known) = if_same (λ o. IsUnder c o) t.0 slot (Some (known_with known t.1)) known (λ e. under_joined c known t.1 k head u) (λ e. u) in
    under_arrived c slot (if t.0 == slot then Some (known_with known t.1) else known) targets next (All-tail (λ t. IsDescription t.1) t targets q) under

-- of each target at least as much is known at its slot as it says
pub targets_arrived : (known : ℕ → Option Description) (targets : List (ℕ × Description)) → ((s : ℕ) → IfSome (known s) IsDescription) → AreDescribed targets → All (λ t. IsUnder t.1 (arrived t.0 (known t.0) targets)) targets
targets_arrived known [] k q = All-nil (λ t. IsUnder t.1 (arrived t.0 (known t.0) []))
targets_arrived known (t ∷ targets) k q =
    let head : IsDescription t.1 = All-head (λ t. IsDescription t.1) t targets q in
    let rest : AreDescribed targets = All-tail (λ t. IsDescription t.1) t targets q in
    let next : ℕ → Option Description = λ s. if t.0 == s then Some (known_with (known s) t.1) else known s in
    let k' : (s : ℕ) → IfSome (next s) IsDescription = λ s. if_same (λ o. IfSome o IsDescription) t.0 s (Some (known_with (known s) t.1)) (known s) (λ e. IsDescription-known_with (known s) t.1 (k s) head) (λ e. k s) in
    let here : IsUnder t.1 (next t.0) = if_same (λ o. IsUnder t.1 o) t.0 t.0 (Some (known_with (known t.0) t.1)) (known t.0) (λ e. (known_with (known t.0) t.1, refl, below_joined (known t.0) t.1 (k t.0) head)) (λ ne. absurd (ne refl)) in
    All-cons (λ u. IsUnder u.1 (arrived u.0 (known u.0) (t ∷ targets))) t targets
    (under_arrived t.1 t.0 (next t.0) targets (k' t.0) rest here)
    (targets_arrived next targets k' rest)

pub IsDescription-incoming : (p : Subject) (table : Table) (slot n : ℕ) → FlowDescribed p table n → IfSome (incoming p table slot n) IsDescription
unfolding incoming
IsDescription-incoming p table slot zero f = if_same (λ o. IfSome o IsDescription) slot 0 (Some start_description) None (λ e. start_is_description) (λ ne. tt)
IsDescription-incoming p table slot (suc n) f =
    IsDescription-arrived slot (incoming p table slot n) (flows_from p table n) (IsDescription-incoming p table slot n (λ s h. f s (omega arith))) (f n (omega arith))

-- no less is known of a slot once more slots have flowed
pub under_incoming : (c : Description) (p : Subject) (table : Table) (slot n m : ℕ) → FlowDescribed p table m → n ≤ m → IsUnder c (incoming p table slot n) → IsUnder c (incoming p table slot m)
unfolding incoming
under_incoming c p table slot n zero f h u =
    let e : n ≡ 0 = omega arith in
    let P : ℕ → Type 0 = λ x. IsUnder c (incoming p table slot x) in
    subst P e u
under_incoming c p table slot n (suc m) f h u =
    let f' : FlowDescribed p table m = λ s k. f s (omega arith) in
    elim (at_most_next n m h) [
      | inl below ↦ under_arrived c slot (incoming p table slot m) (flows_from p table m) (IsDescription-incoming p table slot m f') (f m (omega arith)) (under_incoming c p table slot n m f' below u)
      | inr same ↦ let P : ℕ → Type 0 = λ x. IsUnder c (incoming p table slot x) in subst P same u
    ]
  where
    at_most_next : (n m : ℕ) → n ≤ suc m → (n ≤ m) ⊎ (n ≡ suc m)
    at_most_next n m h = grind arith
