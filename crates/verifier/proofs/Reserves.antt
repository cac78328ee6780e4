-- What the rest of a program may need.
use Rattle.std.proofs.Common.{◌≡◌, ℕ, zero, suc, ◌+◌, ◌-◌, ◌*◌, ◌/◌, ◌%◌, ◌<◌, ◌≤◌, ◌==◌, Bool, true, false, if◌then◌else◌, List, length, map, get_or, set, IfSome, Option, Some, None, option_map, unwrap_or, refl, inl, inr, sym, ap, subst, ◌∙◌, arith, add-one}
use Rattle.std.proofs.lemmas.Bool.{cases_lt}
use Rattle.std.proofs.lemmas.List.{get_or_past, get_or-set_same, get_or-set_other}
use Rattle.std.proofs.Math.ListN.{get_or-map}
use Rattle.host_types.specs.declared.helper.MapHelper.{MapHelper}
use Rattle.host_types.specs.declared.helper.MapHelper.TheVariants.{Update}
use Rattle.host_types.specs.declared.shape.Shape.{Shape}
use Rattle.host_types.specs.Helpers.{helper_of, update_charge}
use Rattle.host_types.specs.Shapes.{stride_of}
use Rattle.bpf_decode.specs.declared.operation.Size.{Size}
use Rattle.bpf_decode.specs.declared.operation.Source.{Source}
use Rattle.bpf_decode.specs.declared.operation.Operation.{Operation}
use Rattle.bpf_decode.specs.declared.operation.Operation.TheVariants.{Store, Call}
use Rattle.bpf_decode.specs.Opcodes.{operation_of, sign_extended}
use Rattle.bpf_decode.specs.Text.{insn_at, slots_of, IsInstruction, IsWellFormed}
use Rattle.verifier_kinds.specs.declared.kind.Kind.{Kind}
use Rattle.verifier_kinds.specs.declared.kind.Kind.TheVariants.{MapValue, MapName}
use Rattle.verifier_kinds.specs.declared.description.Description.{Description}
use Rattle.verifier_kinds.specs.Kinds.{shape_at}
use Rattle.verifier.specs.Subject.{Subject}
use Rattle.verifier.specs.Table.{Table, described, tight_table}
use Rattle.verifier.specs.Known.{Kept}
use Rattle.verifier.specs.Pass.{kinds_in}
use Rattle.verifier.specs.Verified.{Accepted, kind_at}
use Rattle.verifier.specs.Reserve.{store_cost, update_cost, call_cost, cost_by, cost_at, costs_from, reserve_from}
use Rattle.verifier.proofs.Tight.{tight_is_tight}
use Rattle.verifier.proofs.Lawful.{first_instruction, described_instruction}

-- none of the costs is above 2
one_or_two : (divides : Bool) → (if divides then 1 else 2) ≤ 2
one_or_two true = omega arith
one_or_two false = omega arith

charge_small : (shape : Option Shape) → unwrap_or (option_map update_charge shape) 0 ≤ 2
charge_small None = omega arith
charge_small (Some shape) = one_or_two (4096 % stride_of shape == 0)

store_small : (base : Option Kind) → store_cost base ≤ 2
store_small None = omega arith
store_small (Some (MapValue m offsets)) = omega arith
store_small (Some kind) = omega arith

update_small : (p : Subject) (name : Option Kind) → update_cost p name ≤ 2
update_small p None = omega arith
update_small p (Some (MapName m)) = charge_small (shape_at p.shapes m)
update_small p (Some kind) = omega arith

call_small : (p : Subject) (helper : Option MapHelper) (name : Option Kind) → call_cost p helper name ≤ 2
call_small p None name = omega arith
call_small p (Some Update) name = update_small p name
call_small p (Some helper) name = omega arith

cost_by-small : (p : Subject) (table : Table) (slot : ℕ) (operation : Option Operation) → cost_by p table slot operation ≤ 2
cost_by-small p table slot None = omega arith
cost_by-small p table slot (Some (Store size source)) = store_small (kind_at table slot (insn_at p.text slot).dst)
cost_by-small p table slot (Some Call) = call_small p (helper_of (sign_extended (insn_at p.text slot).imm)) (kind_at table slot 1)
cost_by-small p table slot (Some operation) = omega arith

-- no instruction needs more than 2 frames
pub cost_small : (v : Accepted) (slot : ℕ) → cost_at v slot ≤ 2
unfolding cost_at
cost_small v slot = cost_by-small v.subject v.table slot (operation_of (insn_at v.subject.text slot).opcode)

-- what a store may need
pub cost_store : (v : Accepted) (slot : ℕ) (size : Size) (source : Source) → operation_of (insn_at v.subject.text slot).opcode ≡ Some (Store size source) → cost_at v slot ≡ store_cost (kind_at v.table slot (insn_at v.subject.text slot).dst)
unfolding cost_at
cost_store v slot size source e = ap (cost_by v.subject v.table slot) e

-- what a call may need
pub cost_call : (v : Accepted) (slot : ℕ) → operation_of (insn_at v.subject.text slot).opcode ≡ Some Call → cost_at v slot ≡ call_cost v.subject (helper_of (sign_extended (insn_at v.subject.text slot).imm)) (kind_at v.table slot 1)
unfolding cost_at
cost_call v slot e = ap (cost_by v.subject v.table slot) e

-- the sums by their first slot
costs_next : (v : Accepted) (slot n : ℕ) → costs_from v slot (suc n) ≡ cost_at v slot + costs_from v (suc slot) n
unfolding costs_from
costs_next v slot n = refl

costs_none : (v : Accepted) (slot : ℕ) → costs_from v slot 0 ≡ 0
unfolding costs_from
costs_none v slot = refl

costs_small : (v : Accepted) (slot n : ℕ) → costs_from v slot n ≤ 2 * n
costs_small v slot zero = rw (costs_none v slot) (omega arith)
costs_small v slot (suc n) = rw (costs_next v slot n) (omega (arith, cost_small v slot, costs_small v (suc slot) n))

left_next : (slots slot : ℕ) → slot < slots → slots - slot ≡ suc (slots - suc slot)
left_next slots slot h = omega arith

none_left : (slots slot : ℕ) → slots ≤ slot → slots - slot ≡ 0
none_left slots slot h = omega arith

-- the reserve of a slot is what its instruction may need and the reserve of the next slot
pub reserve_next : (v : Accepted) (slot : ℕ) → slot < slots_of v.subject.text → reserve_from v slot ≡ cost_at v slot + reserve_from v (slot + 1)
reserve_next v slot h = rw add-one (ap (costs_from v slot) (left_next (slots_of v.subject.text) slot h) ∙ costs_next v slot (slots_of v.subject.text - suc slot))

-- after the text nothing is reserved
pub reserve_end : (v : Accepted) (slot : ℕ) → slots_of v.subject.text ≤ slot → reserve_from v slot ≡ 0
reserve_end v slot h = ap (costs_from v slot) (none_left (slots_of v.subject.text) slot h) ∙ costs_none v slot

-- a slot's reserve is at most 2 for each slot from there on
pub reserve_small : (v : Accepted) (slot : ℕ) → reserve_from v slot ≤ 2 * (slots_of v.subject.text - slot)
reserve_small v slot = costs_small v slot (slots_of v.subject.text - slot)

one_later : (v : Accepted) (slot : ℕ) → reserve_from v (slot + 1) ≤ reserve_from v slot
one_later v slot = elim (cases_lt slot (slots_of v.subject.text)) [
  | inl within ↦ least (reserve_from v slot) (cost_at v slot) (reserve_from v (slot + 1)) (reserve_next v slot within)
  | inr past ↦ none (reserve_from v slot) (reserve_from v (slot + 1)) (reserve_end v (slot + 1) (following (slots_of v.subject.text) slot past))
]
  where
    least : (all first rest : ℕ) → all ≡ first + rest → rest ≤ all
    least all first rest e = omega arith

    none : (all rest : ℕ) → rest ≡ 0 → rest ≤ all
    none all rest e = omega arith

    following : (slots slot : ℕ) → slots ≤ slot → slots ≤ slot + 1
    following slots slot h = omega arith

-- no later slot has a greater reserve
pub reserve_later : (v : Accepted) (slot n : ℕ) → reserve_from v (slot + n) ≤ reserve_from v slot
reserve_later v slot zero = same (reserve_from v slot) (reserve_from v (slot + 0)) (ap (reserve_from v) (none_more slot))
  where
    same : (all rest : ℕ) → rest ≡ all → rest ≤ all
    same all rest e = omega arith

    none_more : (slot : ℕ) → slot + 0 ≡ slot
    none_more slot = omega arith
reserve_later v slot (suc n) = below (reserve_from v slot) (reserve_from v (slot + n)) (reserve_from v (slot + n + 1)) (reserve_from v (slot + suc n)) (ap (reserve_from v) (one_more slot n)) (one_later v (slot + n)) (reserve_later v slot n)
  where
    below : (all more less rest : ℕ) → rest ≡ less → less ≤ more → more ≤ all → rest ≤ all
    below all more less rest e h k = omega arith

    one_more : (slot n : ℕ) → slot + suc n ≡ slot + n + 1
    one_more slot n = omega arith

-- the same by the later slot
pub reserve_below : (v : Accepted) (slot later : ℕ) → slot ≤ later → reserve_from v later ≤ reserve_from v slot
reserve_below v slot later h = subst (λ s. reserve_from v s ≤ reserve_from v slot) (further slot later h) (reserve_later v slot (later - slot))
  where
    further : (slot later : ℕ) → slot ≤ later → slot + (later - slot) ≡ later
    further slot later h = omega arith

-- What the instruction at a slot may need, and the reserve of any later slot, are at most the reserve of
-- the slot: each step of a run leads to a later slot.
pub reserve_covers : (v : Accepted) (slot later : ℕ) → slot < later → slot < slots_of v.subject.text → cost_at v slot + reserve_from v later ≤ reserve_from v slot
reserve_covers v slot later h within =
    covers (reserve_from v slot) (cost_at v slot) (reserve_from v (slot + 1)) (reserve_from v later) (reserve_next v slot within)
    (subst (λ s. reserve_from v s ≤ reserve_from v (slot + 1)) (further slot later h) (reserve_later v (slot + 1) (later - (slot + 1))))
  where
    covers : (all first next rest : ℕ) → all ≡ first + next → rest ≤ next → first + rest ≤ all
    covers all first next rest e h = omega arith

    further : (slot later : ℕ) → slot < later → slot + 1 + (later - (slot + 1)) ≡ later
    further slot later h = omega arith

-- with the cost of the slot before, a reserve is that slot's
pub reserve_before : (v : Accepted) (slot reserve cost : ℕ) → 0 < slot → slot ≤ slots_of v.subject.text → reserve ≡ reserve_from v slot → cost ≡ cost_at v (slot - 1) → reserve + cost ≡ reserve_from v (slot - 1)
reserve_before v slot reserve cost some within is costs =
    let next = reserve_next v (slot - 1) (before slot (slots_of v.subject.text) some within) in
    let here = ap (reserve_from v) (again slot some) in
    sums (reserve_from v (slot - 1)) (cost_at v (slot - 1)) (reserve_from v (slot - 1 + 1)) (reserve_from v slot) reserve cost next here is costs
  where
    before : (slot slots : ℕ) → 0 < slot → slot ≤ slots → slot - 1 < slots
    before slot slots h k = omega arith

    again : (slot : ℕ) → 0 < slot → slot - 1 + 1 ≡ slot
    again slot h = omega arith

    sums : (all first rest here reserve cost : ℕ) → all ≡ first + rest → rest ≡ here → reserve ≡ here → cost ≡ first → reserve + cost ≡ all
    sums all first rest here reserve cost e f g h = omega arith

-- at the end all that is kept is 0
pub reserves_none : (v : Accepted) (reserves : List ℕ) (slots : ℕ) → slots ≡ slots_of v.subject.text → length reserves ≡ slots → (s : ℕ) → slots ≤ s → get_or reserves s 0 ≡ reserve_from v s
reserves_none v reserves slots is whole s h =
    get_or_past reserves s 0 (past (length reserves) slots s whole h) ∙ sym (reserve_end v s (following slots (slots_of v.subject.text) s is h))
  where
    past : (n slots s : ℕ) → n ≡ slots → slots ≤ s → n ≤ s
    past n slots s e h = omega arith

    following : (n slots s : ℕ) → n ≡ slots → n ≤ s → slots ≤ s
    following n slots s e h = omega arith

-- one slot more is kept
pub reserves_set : (v : Accepted) (reserves : List ℕ) (slot sum : ℕ) → 0 < slot → slot ≤ length reserves → sum ≡ reserve_from v (slot - 1) → ((s : ℕ) → slot ≤ s → get_or reserves s 0 ≡ reserve_from v s) → (s : ℕ) → slot - 1 ≤ s → get_or (set reserves (slot - 1) sum) s 0 ≡ reserve_from v s
reserves_set v reserves slot sum some within is summed s h = elim (cases_lt (slot - 1) s) [
  | inl later ↦ get_or-set_other reserves (slot - 1) s sum 0 (omega arith) ∙ summed s (omega arith)
  | inr most ↦
      let here : s ≡ slot - 1 = omega arith in
      ap (λ n. get_or (set reserves (slot - 1) sum) n 0) here
      ∙ get_or-set_same reserves (slot - 1) sum 0 (omega arith)
      ∙ is ∙ ap (reserve_from v) (sym here)
]

-- the sum of the rest of a text fits
pub sum_fits : (v : Accepted) (slot reserve cost : ℕ) → IsWellFormed v.subject.text → reserve ≡ reserve_from v slot → cost ≡ cost_at v (slot - 1) → reserve + cost ≤ 8194
sum_fits v slot reserve cost w is costs =
    fits (reserve_from v slot) (cost_at v (slot - 1)) reserve cost (slots_of v.subject.text) slot (reserve_small v slot) (cost_small v (slot - 1)) (few (length v.subject.text) w.sized.most) is costs
  where
    few : (n : ℕ) → n ≤ 32768 → n / 8 ≤ 4096
    few n h = omega arith

    fits : (all first reserve cost slots slot : ℕ) → all ≤ 2 * (slots - slot) → first ≤ 2 → slots ≤ 4096 → reserve ≡ all → cost ≡ first → reserve + cost ≤ 8194
    fits all first reserve cost slots slot h k few e f = omega arith

-- the kinds that are kept for a slot
pub kept_at : (p : Subject) (kept : Kept) (slot : ℕ) → kept ≡ map kinds_in (tight_table p) → kinds_in (described (tight_table p) slot) ≡ get_or kept slot None
kept_at p kept slot is = sym (ap (λ kept. get_or kept slot None) is ∙ get_or-map kinds_in (tight_table p) slot None)

-- kinds are kept for instructions alone
pub kept_instruction : (p : Subject) (kept : Kept) (slot : ℕ) → IsWellFormed p.text → kept ≡ map kinds_in (tight_table p) → slot < slots_of p.text → IfSome (get_or kept slot None) (λ kinds. IsInstruction p.text slot)
kept_instruction p kept slot w is h =
    subst (λ o. IfSome o (λ kinds. IsInstruction p.text slot)) (kept_at p kept slot is)
    (some_kinds (described (tight_table p) slot) (IsInstruction p.text slot) (described_instruction p (tight_table p) (slots_of p.text) (first_instruction p.text w) (tight_is_tight p (slots_of p.text)) slot h))
  where
    some_kinds : (known : Option Description) (P : Type 0) → IfSome known (λ d. P) → IfSome (kinds_in known) (λ kinds. P)
    some_kinds None P h = tt
    some_kinds (Some d) P h = h

-- what an instruction may need, by the table of what flows
pub tight_cost : (p : Subject) (slot cost : ℕ) → cost ≡ cost_by p (tight_table p) slot (operation_of (insn_at p.text slot).opcode) → cost ≡ cost_at (record { subject = p; table = tight_table p }) slot
unfolding cost_at
tight_cost p slot cost e = e
