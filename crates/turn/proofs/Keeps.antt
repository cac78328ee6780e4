-- The steps on the turn's word keep its rule.
use Rattle.std.proofs.Common.{◌≡◌, ◌≢◌, ◌∙◌, ℕ, ◌==◌, Bool, true, false, Option, Some, None, List, [], ◌∷◌, ◌++◌, set, slice_index, sym, refl, ap, subst, inl, inr, ⊎_elim, arith}
use mathlib.Core.Option.{some, none, some-injective}
use lib.ListN.{get_elem?}
use prog.Atomic.{either}
use Rattle.std.proofs.lemmas.Option.{same_Some}
use Rattle.atomic_table.specs.Table.{State, Me, step, Allows, Splits, Valid, stepped, carried_after, takes, keeps, gives, Final, Seen}
use Rattle.atomic_table.proofs.Lists.{set_again, set_else, at_longer}
use Rattle.page_table.specs.State.{MemoryState, part}
use Rattle.turn.specs.Views.{SeatView, Has, RemembersParts, Spares, holding, resting}
use Rattle.turn.specs.Rule.{Each, Apart, IsHome, IsOut, IsInTurn, Takes, Gives}
use Rattle.turn.proofs.Views.{at_set_same, Each-set, Each-more, Apart-set, Apart-split}

-- the state with these words, homes and views
abbrev state : List ℕ → List (mathlib.Core.Option.Option (Option MemoryState)) → List SeatView → State (Option MemoryState) SeatView
state words homes views = record { words = words; homes = homes; views = views }

-- what a take has to find, in a state
abbrev CanTake : ℕ → Me (Option MemoryState) SeatView → State (Option MemoryState) SeatView → Type 0
CanTake id me s =
    (w : SeatView) × (a : Rattle.atomic_table.specs.Table.Act (Option MemoryState)) × Valid s.homes me.1 a
    × IsInTurn (stepped s 0 (either (slice_index s.words 0 == 0) 1 (slice_index s.words 0)) id me.1 w a)
    × Takes (step 1 0 0 1 none) me (slice_index s.words 0) (w, carried_after me.1 a)

-- a take finds the memory home, and wins
take_wins : (id : ℕ) (me : Me (Option MemoryState) SeatView) (s : State (Option MemoryState) SeatView) (r : IsInTurn s)
    → IsHome s r.memory → get_elem? s.views id ≡ some me.0 → CanTake id me s
take_wins id me s r home there =
    let new = holding me.0 r.memory in
    let known = r.agree id me.0 there in
    let next : IsInTurn (state (1 ∷ []) (none ∷ []) (set s.views id new)) = record {
      memory = r.memory;
      apart = Apart-set s.views id me.0 new there (λ t has. has) r.apart;
      agree = Each-set s.views id new (λ i view. RemembersParts view r.memory) (λ t has. refl) (λ i view ne at. r.agree i view at);
      home_or_out = inr (record {
        word = refl;
        slot = refl;
        holder = id;
        view = new;
        there = at_set_same s.views id me.0 new there;
        holds = refl;
        seen = refl;
        alone = Each-set s.views id new (λ i other. other.holds ≡ true → i ≡ id) (λ holds. refl) (λ i other ne at holds. absurd (cc (home.unheld i other at)));
      });
    } in
    let found : CanTake id me (state (0 ∷ []) (some (Some r.memory) ∷ []) s.views) =
    (new, takes 0 (Some r.memory), refl, next, ((λ e. (r.memory, refl, known)), (λ ne. absurd (ne refl)))) in
    subst (λ (words : List ℕ). CanTake id me (state words s.homes s.views)) (sym home.word)
    (subst (λ (homes : List (mathlib.Core.Option.Option (Option MemoryState))). CanTake id me (state (0 ∷ []) homes s.views)) (sym home.slot) found)

-- a take finds the memory out, and loses
take_loses : (id : ℕ) (me : Me (Option MemoryState) SeatView) (s : State (Option MemoryState) SeatView) (r : IsInTurn s)
    → IsOut s r.memory → get_elem? s.views id ≡ some me.0 → CanTake id me s
take_loses id me s r out there =
    let same : IsInTurn (state (1 ∷ []) (none ∷ []) s.views) =
    subst (λ (homes : List (mathlib.Core.Option.Option (Option MemoryState))). IsInTurn (state (1 ∷ []) homes s.views)) out.slot
    (subst (λ (words : List ℕ). IsInTurn (state words s.homes s.views)) out.word r) in
    let next : IsInTurn (state (1 ∷ []) (none ∷ []) (set s.views id me.0)) =
    subst (λ (views : List SeatView). IsInTurn (state (1 ∷ []) (none ∷ []) views)) (sym (set_again s.views id me.0 there)) same in
    let found : CanTake id me (state (1 ∷ []) (none ∷ []) s.views) =
    (me.0, keeps, tt, next, ((λ e. absurd (omega arith)), (λ ne. refl))) in
    subst (λ (words : List ℕ). CanTake id me (state words s.homes s.views)) (sym out.word)
    (subst (λ (homes : List (mathlib.Core.Option.Option (Option MemoryState))). CanTake id me (state (1 ∷ []) homes s.views)) (sym out.slot) found)

-- whatever a take finds, the rule is kept, where it compares the word with 0 and writes 1
pub take_keeps : (slots id home out : ℕ) (me : Me (Option MemoryState) SeatView) → home ≡ 0 → out ≡ 1
    → Allows IsInTurn slots id me 0 (λ n. either (n == home) out n) (Takes (step 1 0 home out none) me)
take_keeps slots id home out me is_home is_out =
    subst (λ (h : ℕ). Allows IsInTurn slots id me 0 (λ n. either (n == h) out n) (Takes (step 1 0 h out none) me)) (sym is_home)
    (subst (λ (o : ℕ). Allows IsInTurn slots id me 0 (λ n. either (n == 0) o n) (Takes (step 1 0 0 o none) me)) (sym is_out)
    (λ s r len there small. ⊎_elim (λ home. take_wins id me s r home there) (λ out. take_loses id me s r out there) r.home_or_out))

-- the value of the slot that a seat took last
abbrev slot_of : List (ℕ × Option MemoryState) → Option MemoryState
slot_of [] = None
slot_of (x ∷ xs) = x.1

-- what a give has to find, in a state
abbrev CanGive : ℕ → SeatView → MemoryState → State (Option MemoryState) SeatView → Type 0
CanGive id view memory s =
    (w : SeatView) × (a : Rattle.atomic_table.specs.Table.Act (Option MemoryState)) × Valid s.homes ((0, Some memory) ∷ []) a
    × IsInTurn (stepped s 0 0 id ((0, Some memory) ∷ []) w a)
    × Gives (step 1 0 0 0 none) (view, (0, Some memory) ∷ []) 0 (w, carried_after ((0, Some memory) ∷ []) a)

-- a test that isn't true is false
false_of : (b : Bool) → (b ≡ true → ⊥) → b ≡ false
false_of false never = refl
false_of true never = absurd (never refl)

-- the seat that holds the memory gives one in which every other tenant's part is as it was taken
give_home : (id : ℕ) (view : SeatView) (memory : MemoryState) (s : State (Option MemoryState) SeatView) (r : IsInTurn s)
    → IsOut s r.memory → get_elem? s.views id ≡ some view → view.holds ≡ true → Spares view memory → CanGive id view memory s
give_home id view memory s r out there holds spares =
    let mine : id ≡ out.holder = out.alone id view there holds in
    let here : out.view ≡ view =
    some-injective out.view view (sym out.there ∙ ap (get_elem? s.views) (sym mine) ∙ there) in
    let taken : view.seen ≡ r.memory = ap (λ (v : SeatView). v.seen) (sym here) ∙ out.seen in
    let new = resting view memory in
    let next : IsInTurn (state (0 ∷ []) (some (Some memory) ∷ []) (set s.views id new)) = record {
      memory = memory;
      apart = Apart-set s.views id view new there (λ t has. has) r.apart;
      agree = Each-set s.views id new (λ i other. RemembersParts other memory) (λ t has. refl)
          (λ i other ne at t has.
          spares t (λ has'. ne (r.apart i other at id view there t has has'))
          ∙ ap (λ (m : MemoryState). part m t) taken
          ∙ r.agree i other at t has);
      home_or_out = inl (record {
        word = refl;
        slot = refl;
        unheld = Each-set s.views id new (λ i other. other.holds ≡ false) refl (λ i other ne at. false_of other.holds (λ held. ne (out.alone i other at held ∙ sym mine)));
      });
    } in
    let found : CanGive id view memory (state (1 ∷ []) (none ∷ []) s.views) =
    (new, gives, tt, next, (λ given e. let same : memory ≡ given = same_Some memory given (ap slot_of e) in ap (λ (m : MemoryState). (resting view m, [])) same)) in
    subst (λ (words : List ℕ). CanGive id view memory (state words s.homes s.views)) (sym out.word)
    (subst (λ (homes : List (mathlib.Core.Option.Option (Option MemoryState))). CanGive id view memory (state (1 ∷ []) homes s.views)) (sym out.slot) found)

-- a give by the seat that holds keeps the rule, where it writes 0
pub give_keeps : (slots id home : ℕ) (me : Me (Option MemoryState) SeatView) (memory : MemoryState) → home ≡ 0
    → me.1 ≡ (0, Some memory) ∷ [] → me.0.holds ≡ true → Spares me.0 memory
    → Allows IsInTurn slots id me 0 (λ _. home) (λ _. Gives (step 1 0 0 0 none) me 0)
give_keeps slots id home me memory is_home carried holds spares =
    let P : ℕ → List (ℕ × Option MemoryState) → Type 0 = λ h c. Allows IsInTurn slots id (me.0, c) 0 (λ _. h) (λ _. Gives (step 1 0 0 0 none) (me.0, c) 0) in
    subst (λ (h : ℕ). P h me.1) (sym is_home)
    (subst (P 0) (sym carried) (λ s r len there small.
    ⊎_elim
    (λ home. absurd (cc (home.unheld id me.0 there, holds)))
    (λ out. give_home id me.0 memory s r out there holds spares)
    r.home_or_out))

-- a seat that holds nothing may be cut in two
pub split_keeps : (id : ℕ) (old left right : SeatView) → left.seen ≡ old.seen → right.seen ≡ old.seen
    → old.holds ≡ false → left.holds ≡ false → right.holds ≡ false
    → ((t : ℕ) → Has left t → Has old t) → ((t : ℕ) → Has right t → Has old t) → ((t : ℕ) → Has left t → Has right t → ⊥)
    → Splits IsInTurn id old left right
split_keeps id old left right seen seen' idle idle_left idle_right less more cut s r there =
    let views = set s.views id left ++ right ∷ [] in
    let apart : Apart views = Apart-split s.views id old left right there less more cut r.apart in
    let known = r.agree id old there in
    let left_known : RemembersParts left r.memory = λ t has. known t (less t has) ∙ ap (λ (m : MemoryState). part m t) (sym seen) in
    let right_known : RemembersParts right r.memory = λ t has. known t (more t has) ∙ ap (λ (m : MemoryState). part m t) (sym seen') in
    let agree : Each views (λ i view. RemembersParts view r.memory) =
    Each-more (set s.views id left) right (λ i view. RemembersParts view r.memory) right_known
    (Each-set s.views id left (λ i view. RemembersParts view r.memory) left_known (λ i view ne at. r.agree i view at)) in
    let home : IsHome s r.memory → IsHome (state s.words s.homes views) r.memory = λ h. record {
      word = h.word;
      slot = h.slot;
      unheld = Each-more (set s.views id left) right (λ i view. view.holds ≡ false) idle_right
          (Each-set s.views id left (λ i view. view.holds ≡ false) idle_left (λ i view ne at. h.unheld i view at));
    } in
    let out : IsOut s r.memory → IsOut (state s.words s.homes views) r.memory = λ o.
    let other : o.holder ≢ id = λ same.
    let here : o.view ≡ old = some-injective o.view old (sym o.there ∙ ap (get_elem? s.views) same ∙ there) in
    absurd (cc (o.holds, idle, ap (λ (v : SeatView). v.holds) here)) in
    record {
      word = o.word;
      slot = o.slot;
      holder = o.holder;
      view = o.view;
      there = at_longer (set s.views id left) (right ∷ []) o.holder o.view (set_else s.views id o.holder left other ∙ o.there);
      holds = o.holds;
      seen = o.seen;
      alone = Each-more (set s.views id left) right (λ i view. view.holds ≡ true → i ≡ o.holder) (λ holds. absurd (cc (idle_right, holds)))
          (Each-set s.views id left (λ i view. view.holds ≡ true → i ≡ o.holder) (λ holds. absurd (cc (idle_left, holds))) (λ i view ne at. o.alone i view at));
    } in
    record {
      memory = r.memory;
      apart = apart;
      agree = agree;
      home_or_out = ⊎_elim (λ h. inl (home h)) (λ o. inr (out o)) r.home_or_out;
    }

-- where the word is 0 at the end, a memory in the slot has the seat's own parts
pub closes : (id : ℕ) (view : SeatView) (words : List ℕ) (slots : List (Option MemoryState)) (memory : MemoryState)
    → Final (Seen IsInTurn id view) words slots → get_elem? words 0 ≡ some 0 → get_elem? slots 0 ≡ some (Some memory) → RemembersParts view memory
closes id view words slots memory end home at =
    let s = end.0 in
    let r = end.1.0 in
    ⊎_elim
    (λ h.
    let kept : get_elem? slots 0 ≡ some (Some r.memory) = end.4 0 (Some r.memory) (ap (λ (homes : List (mathlib.Core.Option.Option (Option MemoryState))). get_elem? homes 0) h.slot) in
    let same : r.memory ≡ memory = same_Some r.memory memory (some-injective (Some r.memory) (Some memory) (sym kept ∙ at)) in
    subst (λ (x : MemoryState). RemembersParts view x) same (r.agree id view end.1.1))
    (λ o.
    let one : some 1 ≡ some 0 = ap (λ (ws : List ℕ). get_elem? ws 0) (sym o.word ∙ end.2) ∙ home in
    absurd (omega (arith, some-injective 1 0 one)))
    r.home_or_out
