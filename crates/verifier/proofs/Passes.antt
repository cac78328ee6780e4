-- One step of the pass over the slots of a program.
use Rattle.std.proofs.Common.{◌≡◌, ◌≢◌, ℕ, suc, ◌+◌, ◌/◌, ◌<◌, ◌≤◌, ◌==◌, Bool, true, false, if◌then◌else◌, List, [], ◌∷◌, length, get_or, ◌++◌, map, IfSome, Option, Some, None, Ok, Err, refl, sym, ap, subst, ◌∙◌, inl, inr, arith, add-one}
use Rattle.std.specs.Global.{Box}
use Rattle.std.proofs.lemmas.Bool.Decides.{eqb_tells}
use Rattle.std.proofs.lemmas.List.Elements.{All-nil}
use Rattle.std.proofs.lemmas.List.{get_or_read, length-map}
use Rattle.bpf_decode.specs.Opcodes.{wide_opcode}
use Rattle.bpf_decode.specs.Text.{slots_of, opcode_at, width_at, is_instruction, IsInstruction, IsWellFormed}
use Rattle.verifier_kinds.specs.declared.description.Description.{Description}
use Rattle.verifier_kinds.specs.Descriptions.{start_description, IsDescription}
use Rattle.verifier.specs.Subject.{Subject}
use Rattle.verifier.specs.Flow.{flow, target}
use Rattle.verifier.specs.Table.{Table, described, flows_by, flows_from, targets_of, known_with, arrived, incoming, tight_up_to, tight_table, Breaks, IsTightTable, IsRefusal, IsCleanBefore}
use Rattle.verifier.specs.Wide.{HasNoLawful}
use Rattle.verifier.specs.Known.{Kept}
use Rattle.verifier.specs.Pass.{AreDescribed, FlowDescribed, kinds_in, pending_at, falling, known_with_coming, next_at, IsPassed}
use Rattle.verifier.specs.Verified.{IsSubject, IsVerified}
use Rattle.verifier.proofs.Tables.{if_same, below_next, IsDescription-incoming}
use Rattle.verifier.proofs.Tight.{tight_is_tight, length-tight, kept_next}
use Rattle.verifier.proofs.Complete.{broken_leaves_none}
use Rattle.verifier.proofs.Lawful.{first_instruction, described_instruction, lawful_from_tight}

-- what is known at a slot before which the pass has come, in the tight table
at_slot : (p : Subject) (kept : Kept) (pending : List (Option (Box Description))) (coming : Option Description) (slot : ℕ) → slot < slots_of p.text → IsPassed p kept pending coming slot → described (tight_table p) slot ≡ arrived slot (pending_at pending slot) (target (next_at p.text slot) coming)
at_slot p kept pending coming slot h i = tight_is_tight p (slots_of p.text) slot h ∙ sym (i.ahead slot (omega arith) h)

-- what arrives from one target at its own slot
arrived_fulfilled : (slot : ℕ) (known coming : Option Description) → arrived slot known (target slot coming) ≡ known_with_coming known coming
arrived_fulfilled slot known None = refl
arrived_fulfilled slot known (Some d) = if_same (λ o. o ≡ Some (known_with known d)) slot slot (Some (known_with known d)) known (λ _. refl) (λ ne. absurd (ne refl))

-- at the slot of an instruction what jumped there is joined with what falls there
pub known_at : (p : Subject) (kept : Kept) (pending : List (Option (Box Description))) (coming : Option Description) (slot : ℕ) → IsInstruction p.text slot → IsPassed p kept pending coming slot → described (tight_table p) slot ≡ known_with_coming (pending_at pending slot) coming
known_at p kept pending coming slot instruction i =
    let here : next_at p.text slot ≡ slot = rw (instruction.begins) refl in
    at_slot p kept pending coming slot instruction.within i
    ∙ ap (λ s. arrived slot (pending_at pending slot) (target s coming)) here
    ∙ arrived_fulfilled slot (pending_at pending slot) coming

-- the tight table describes instructions alone
tight_instruction : (p : Subject) (slot : ℕ) → IsWellFormed p.text → slot < slots_of p.text → IfSome (described (tight_table p) slot) (λ d. IsInstruction p.text slot)
tight_instruction p slot w h = described_instruction p (tight_table p) (slots_of p.text) (first_instruction p.text w) (tight_is_tight p (slots_of p.text)) slot h

none_of : (begins : Bool) (known : Option Description) → begins ≡ false → IfSome known (λ d. begins ≡ true) → known ≡ None
none_of begins None wrong h = refl
none_of begins (Some d) wrong h = absurd cc

begun_if : (text : List ℕ) (slot : ℕ) (known : Option Description) → IfSome known (λ d. IsInstruction text slot) → IfSome known (λ d. is_instruction text slot ≡ true)
begun_if text slot None h = tt
begun_if text slot (Some d) h = h.begins

-- a slot at which no instruction begins isn't reached
not_reached : (p : Subject) (slot : ℕ) → IsWellFormed p.text → slot < slots_of p.text → is_instruction p.text slot ≡ false → described (tight_table p) slot ≡ None
not_reached p slot w h between = none_of (is_instruction p.text slot) (described (tight_table p) slot) between (begun_if p.text slot (described (tight_table p) slot) (tight_instruction p slot w h))

-- what is known of a slot that is reached is a description of the verifier
tight_description : (p : Subject) (slot : ℕ) → slot < slots_of p.text → FlowDescribed p (tight_table p) slot → IfSome (described (tight_table p) slot) IsDescription
tight_description p slot h f = subst (λ o. IfSome o IsDescription) (sym (tight_is_tight p (slots_of p.text) slot h)) (IsDescription-incoming p (tight_table p) slot slot f)

-- what is known at an instruction is a description of the verifier
pub known_description : (p : Subject) (kept : Kept) (pending : List (Option (Box Description))) (coming : Option Description) (slot : ℕ) (d : Description) → IsInstruction p.text slot → IsPassed p kept pending coming slot → Some d ≡ known_with_coming (pending_at pending slot) coming → IsDescription d
known_description p kept pending coming slot d instruction i is =
    subst (λ o. IfSome o IsDescription) (known_at p kept pending coming slot instruction i ∙ sym is) (tight_description p slot instruction.within i.flows)

-- a slot that breaks a rule refuses the text
pub known_refusal : (p : Subject) (kept : Kept) (pending : List (Option (Box Description))) (coming : Option Description) (slot number : ℕ) (d : Description) → IsInstruction p.text slot → IsPassed p kept pending coming slot → Some d ≡ known_with_coming (pending_at pending slot) coming → flow p slot d ≡ Err number → IsRefusal p (record { number = number; slot = slot })
known_refusal p kept pending coming slot number d instruction i is breaks =
    let within = instruction.within in
    record {
      table = tight_table p;
      within = within;
      tight = λ s k. tight_is_tight p (slots_of p.text) s (omega arith);
      first = i.clean;
      breaks = record { description = d; found = known_at p kept pending coming slot instruction i ∙ sym is; breaks = breaks };
    }

-- and leaves no lawful table
pub known_incomplete : (p : Subject) (kept : Kept) (pending : List (Option (Box Description))) (coming : Option Description) (slot number : ℕ) (d : Description) → IsInstruction p.text slot → IsPassed p kept pending coming slot → Some d ≡ known_with_coming (pending_at pending slot) coming → flow p slot d ≡ Err number → HasNoLawful p
known_incomplete p kept pending coming slot number d instruction i is breaks =
    let within = instruction.within in
    broken_leaves_none p (tight_table p) slot number i.flows (λ s h. tight_is_tight p (slots_of p.text) s (omega arith))
    (record { description = d; found = known_at p kept pending coming slot instruction i ∙ sym is; breaks = breaks })

-- the same slot breaks one rule at most, and none if it flows on
flows_or_breaks : (p : Subject) (slot rule : ℕ) (known : Option Description) → IfSome known (λ d. (targets : List (ℕ × Description)) × (flow p slot d ≡ Ok targets)) → (d : Description) → known ≡ Some d → flow p slot d ≡ Err rule → ⊥
flows_or_breaks p slot rule None f d e breaks = absurd cc
flows_or_breaks p slot rule (Some c) f d e breaks =
    let same : c ≡ d = cc in
    let also : flow p slot c ≡ flow p slot d = ap (flow p slot) same in
    absurd (cc (f.1, also, breaks))

-- what flows from a slot that has been passed over is entered
passed_on : (p : Subject) (kept after : Kept) (pending entered : List (Option (Box Description))) (coming next known : Option Description) (slot : ℕ) → slot < slots_of p.text → IsPassed p kept pending coming slot → described (tight_table p) slot ≡ known → IfSome known (λ d. (targets : List (ℕ × Description)) × (flow p slot d ≡ Ok targets)) → AreDescribed (flows_by p slot known) → after ≡ kept ++ kinds_in known ∷ [] → length entered ≡ length pending → ((s : ℕ) → slot < s → arrived s (pending_at entered s) (target (next_at p.text (suc slot)) next) ≡ arrived s (arrived s (pending_at pending s) (target (next_at p.text slot) coming)) (flows_by p slot known)) → IsPassed p after entered next (slot + 1)
unfolding incoming
passed_on p kept after pending entered coming next known slot h i found onward kinds put len flowed = rw add-one record {
  whole = len ∙ i.whole;
  kinds = put ∙ ap (λ ks. ks ++ kinds_in known ∷ []) i.kinds ∙ ap (λ o. map kinds_in (tight_up_to p slot) ++ kinds_in o ∷ []) (sym found) ∙ sym (kept_next p slot h);
  ahead = λ s k within.
      flowed s (omega arith)
      ∙ ap (λ o. arrived s o (flows_by p slot known)) (i.ahead s (omega arith) within)
      ∙ ap (λ o. arrived s (incoming p (tight_table p) s slot) (flows_by p slot o)) (sym found);
  clean = λ s rule k b. elim (below_next s slot k) [
    | inl below ↦ i.clean s rule below b
    | inr same ↦
        let Q : ℕ → Type 0 = λ s. Breaks p (tight_table p) s rule in
        let b' : Breaks p (tight_table p) slot rule = subst Q same b in
        flows_or_breaks p slot rule known onward b'.description (sym found ∙ b'.found) b'.breaks
  ];
  flows = λ s k. elim (below_next s slot k) [
    | inl below ↦ i.flows s below
    | inr same ↦
        let Q : ℕ → Type 0 = λ s. AreDescribed (flows_from p (tight_table p) s) in
        subst Q (sym same) (subst AreDescribed (ap (flows_by p slot) (sym found)) kinds)
  ];
}

-- after a slot at which no instruction begins one does
next_past : (text : List ℕ) (slot : ℕ) → is_instruction text slot ≡ false → next_at text (suc slot) ≡ next_at text slot
unfolding is_instruction
next_past text slot between = rw between refl

-- after an instruction the next one begins
pub next_following : (text : List ℕ) (slot : ℕ) → is_instruction text slot ≡ true → next_at text (suc slot) ≡ slot + width_at text slot
unfolding is_instruction
next_following text slot begins = elim (eqb_tells (opcode_at text slot) wide_opcode) [
  | inl wide ↦ let two : suc (suc slot) ≡ slot + 2 = omega arith in rw (begins, wide.0) two
  | inr narrow ↦ let one : suc slot ≡ slot + 1 = omega arith in rw (begins, narrow.0) one
]

-- a slot at which no instruction begins is passed over
pub passed_between : (p : Subject) (kept after : Kept) (pending : List (Option (Box Description))) (coming : Option Description) (slot : ℕ) → IsWellFormed p.text → slot < slots_of p.text → is_instruction p.text slot ≡ false → IsPassed p kept pending coming slot → after ≡ kept ++ None ∷ [] → IsPassed p after pending coming (slot + 1)
passed_between p kept after pending coming slot w h between i put =
    passed_on p kept after pending pending coming coming None slot h i (not_reached p slot w h between) tt (All-nil (λ t. IsDescription t.1)) put refl
    (λ s k. ap (λ to. arrived s (pending_at pending s) (target to coming)) (next_past p.text slot between))

-- what falls to a slot doesn't arrive after it
falls_here : (s slot : ℕ) (known coming : Option Description) → slot < s → arrived s known (target slot coming) ≡ known
falls_here s slot known None h = refl
falls_here s slot known (Some d) h = if_same (λ o. o ≡ known) slot s (Some (known_with known d)) known (λ e. absurd (omega arith)) (λ _. refl)

-- what the slots ahead have is as before, once what is known at an instruction is taken
before_ahead : (p : Subject) (pending : List (Option (Box Description))) (coming : Option Description) (slot s : ℕ) → is_instruction p.text slot ≡ true → slot < s → arrived s (pending_at pending s) (target (next_at p.text slot) coming) ≡ pending_at pending s
before_ahead p pending coming slot s begins h =
    let here : next_at p.text slot ≡ slot = rw begins refl in
    ap (λ to. arrived s (pending_at pending s) (target to coming)) here ∙ falls_here s slot (pending_at pending s) coming h

-- an instruction that isn't reached is passed over
pub passed_unreached : (p : Subject) (kept after : Kept) (pending taken : List (Option (Box Description))) (coming next : Option Description) (slot : ℕ) → IsInstruction p.text slot → IsPassed p kept pending coming slot → None ≡ known_with_coming (pending_at pending slot) coming → next ≡ None → after ≡ kept ++ None ∷ [] → length taken ≡ length pending → ((s : ℕ) → s ≢ slot → pending_at taken s ≡ pending_at pending s) → IsPassed p after taken next (slot + 1)
passed_unreached p kept after pending taken coming next slot instruction i is none put len others =
    passed_on p kept after pending taken coming next None slot instruction.within i (known_at p kept pending coming slot instruction i ∙ sym is) tt (All-nil (λ t. IsDescription t.1)) put len
    (λ s k.
    let other : s ≢ slot = omega arith in
    ap (λ o. arrived s (pending_at taken s) (target (next_at p.text (suc slot)) o)) none
    ∙ others s other ∙ sym (before_ahead p pending coming slot s instruction.begins k))

-- an instruction that is reached and flows on is passed over
pub passed_flow : (p : Subject) (kept after : Kept) (pending taken entered : List (Option (Box Description))) (coming next : Option Description) (slot : ℕ) (d : Description) (targets : List (ℕ × Description)) → IsInstruction p.text slot → IsPassed p kept pending coming slot → Some d ≡ known_with_coming (pending_at pending slot) coming → flow p slot d ≡ Ok targets → AreDescribed targets → after ≡ kept ++ Some d.registers ∷ [] → length taken ≡ length pending → ((s : ℕ) → s ≢ slot → pending_at taken s ≡ pending_at pending s) → length entered ≡ length taken → ((s : ℕ) → arrived s (pending_at entered s) (target (slot + width_at p.text slot) next) ≡ arrived s (pending_at taken s) targets) → IsPassed p after entered next (slot + 1)
passed_flow p kept after pending taken entered coming next slot d targets instruction i is e kinds put len others more flowed =
    let same : flows_by p slot (Some d) ≡ targets = ap targets_of e in
    passed_on p kept after pending entered coming next (Some d) slot instruction.within i (known_at p kept pending coming slot instruction i ∙ sym is) (targets, e)
    (subst AreDescribed (sym same) kinds) put (more ∙ len)
    (λ s k.
    let other : s ≢ slot = omega arith in
    ap (λ to. arrived s (pending_at entered s) (target to next)) (next_following p.text slot instruction.begins)
    ∙ flowed s
    ∙ ap (λ o. arrived s o targets) (others s other ∙ sym (before_ahead p pending coming slot s instruction.begins k))
    ∙ ap (arrived s (arrived s (pending_at pending s) (target (next_at p.text slot) coming))) (sym same))

-- what falls
pub falls_some : (falls : Bool) (d : Description) → falls ≡ true → falling falls d ≡ Some d
falls_some true d e = refl
falls_some false d e = absurd cc

pub falls_none : (falls : Bool) (d : Description) → falls ≡ false → falling falls d ≡ None
falls_none true d e = absurd cc
falls_none false d e = refl

-- before the first slot the start's description falls to it
pub passed_start : (p : Subject) (kept : Kept) (pending : List (Option (Box Description))) → IsWellFormed p.text → kept ≡ [] → length pending ≡ slots_of p.text → ((s : ℕ) → pending_at pending s ≡ None) → IsPassed p kept pending (Some start_description) 0
unfolding incoming tight_up_to is_instruction
passed_start p kept pending w empty whole none = record {
  whole = whole;
  kinds = empty;
  ahead = λ s k within.
      let start : Option Description = Some start_description in
      let P : Option Description → Type 0 = λ o. o ≡ (if s == 0 then start else None) in
      ap (λ o. if 0 == s then Some (known_with o start_description) else o) (none s)
      ∙ if_same P 0 s start None
      (λ e. if_same (λ o. start ≡ o) s 0 start None (λ _. refl) (λ ne. absurd (ne (sym e))))
      (λ ne. if_same (λ o. None ≡ o) s 0 start None (λ e. absurd (ne (sym e))) (λ _. refl));
  clean = λ s rule k b. omega arith;
  flows = λ s k. absurd (omega arith);
}

-- what an index of a table reads is what it describes
pub described_read : (table : Table) (slot : ℕ) (x : Option Description) → slot < length table → x ≡ get_or table slot x → described table slot ≡ x
described_read table slot x h e = sym (get_or_read table slot x h e None)

-- a pass over all slots finds the tight table, and it is lawful
pub passed_verified : (p : Subject) → IsSubject p → IsCleanBefore p (tight_table p) (slots_of p.text) → FlowDescribed p (tight_table p) (slots_of p.text) → IsVerified (record { subject = p; table = tight_table p })
passed_verified p s clean flows =
    let tight : IsTightTable p (tight_table p) = record { whole = length-tight p (slots_of p.text); tight = tight_is_tight p (slots_of p.text); clean = clean } in
    record { subject = s; tight = tight; lawful = lawful_from_tight p (tight_table p) s.text tight flows }

-- as many slots are kept as were passed, fewer than a text may have
pub passed_few : (p : Subject) (kept : Kept) (pending : List (Option (Box Description))) (coming : Option Description) (slot : ℕ) → IsWellFormed p.text → slot < slots_of p.text → IsPassed p kept pending coming slot → length kept < 4096
passed_few p kept pending coming slot w h i =
    let long : length kept ≡ slot = ap length i.kinds ∙ length-map (tight_up_to p slot) kinds_in ∙ length-tight p slot in
    few (length kept) (length p.text) (omega (arith, long, h)) w.sized.most
  where
    few : (kept bytes : ℕ) → kept < bytes / 8 → bytes ≤ 32768 → kept < 4096
    few kept bytes h k = omega arith
