-- Which maps the rest of a program writes.
use Rattle.std.proofs.Common.{◌≡◌, ℕ, zero, suc, ◌+◌, ◌-◌, ◌<◌, ◌≤◌, ◌==◌, Bool, true, false, ◌||◌, if◌then◌else◌, List, length, get_or, set, nat_lt, Option, Some, refl, sym, ap, subst, ◌∙◌, inl, inr, arith}
use Rattle.std.proofs.Math.Bool.{or-false, or-true}
use Rattle.std.proofs.lemmas.Bool.{cases_lt, cases_eq}
use Rattle.std.proofs.lemmas.Bool.Decides.{nat_tests}
use Rattle.std.proofs.lemmas.List.{get_or-set_same, get_or-set_other}
use Rattle.host_types.specs.Helpers.{helper_of}
use Rattle.bpf_decode.specs.declared.operation.Operation.TheVariants.{Store, Call}
use Rattle.bpf_decode.specs.declared.operation.Size.{Size}
use Rattle.bpf_decode.specs.declared.operation.Source.{Source}
use Rattle.bpf_decode.specs.Opcodes.{operation_of, sign_extended}
use Rattle.bpf_decode.specs.Text.{insn_at, slots_of}
use Rattle.verifier.specs.Subject.{Subject}
use Rattle.verifier.specs.Table.{tight_table}
use Rattle.verifier.specs.Named.{is_map}
use Rattle.verifier.specs.Verified.{Accepted, kind_at}
use Rattle.verifier.specs.Writes.{store_map, call_map, map_by, written_map, writes_within, writes_from, AreLastWrites}

or_assoc : (a b c : Bool) → (a || (b || c)) ≡ ((a || b) || c)
or_assoc true b c = refl
or_assoc false b c = refl

-- one slot more at the end
within_more : (v : Accepted) (slot n m : ℕ) → writes_within v slot (suc n) m ≡ (writes_within v slot n m || is_map (written_map v (slot + n)) m)
unfolding writes_within
within_more v slot zero m =
    let here : slot + 0 ≡ slot = omega arith in
    or-false (is_map (written_map v slot) m) ∙ sym (ap (λ s. is_map (written_map v s) m) here)
within_more v slot (suc n) m =
    let further : suc slot + n ≡ slot + suc n = omega arith in
    ap (λ b. is_map (written_map v slot) m || b) (within_more v (suc slot) n m ∙ ap (λ s. writes_within v (suc slot) n m || is_map (written_map v s) m) further)
    ∙ or_assoc (is_map (written_map v slot) m) (writes_within v (suc slot) n m) (is_map (written_map v (slot + suc n)) m)

-- one slot earlier
within_next : (v : Accepted) (slot n m : ℕ) → writes_within v (suc slot) n m ≡ true → writes_within v slot (suc n) m ≡ true
unfolding writes_within
within_next v slot n m h = rw h (or-true (is_map (written_map v slot) m))

within_earlier : (v : Accepted) (slot n k m : ℕ) → writes_within v (slot + k) n m ≡ true → writes_within v slot (k + n) m ≡ true
within_earlier v slot n zero m h =
    let here : slot + 0 ≡ slot = omega arith in
    let as_many : n ≡ 0 + n = omega arith in
    subst (λ n. writes_within v slot n m ≡ true) as_many (subst (λ s. writes_within v s n m ≡ true) here h)
within_earlier v slot n (suc k) m h =
    let further : slot + suc k ≡ suc slot + k = omega arith in
    let more : suc (k + n) ≡ suc k + n = omega arith in
    subst (λ n. writes_within v slot n m ≡ true) more
    (within_next v slot (k + n) m (within_earlier v (suc slot) n k m (subst (λ s. writes_within v s n m ≡ true) further h)))

within_none : (v : Accepted) (slot m : ℕ) → writes_within v slot 0 m ≡ false
unfolding writes_within
within_none v slot m = refl

within_here : (v : Accepted) (slot n m : ℕ) → is_map (written_map v slot) m ≡ true → writes_within v slot (suc n) m ≡ true
unfolding writes_within
within_here v slot n m h = rw h refl

-- a map that is written from a later slot on is written from each slot before
pub writes_fall : (v : Accepted) (slot later m : ℕ) → slot ≤ later → writes_from v later m ≡ true → writes_from v slot m ≡ true
writes_fall v slot later m h is = elim (cases_lt later (slots_of v.subject.text)) [
  | inl within ↦
      let k : slot + (later - slot) ≡ later = omega (arith, h) in
      let n : later - slot + (slots_of v.subject.text - later) ≡ slots_of v.subject.text - slot = omega (arith, h, within) in
      subst (λ n. writes_within v slot n m ≡ true) n
      (within_earlier v slot (slots_of v.subject.text - later) (later - slot) m (subst (λ s. writes_within v s (slots_of v.subject.text - later) m ≡ true) (sym k) is))
  | inr past ↦
      let none : slots_of v.subject.text - later ≡ 0 = omega (arith, past) in
      absurd (let no = ap (λ n. writes_within v later n m) none ∙ within_none v later m in cc)
]

-- a map that a slot writes
pub writes_here : (v : Accepted) (slot m : ℕ) → slot < slots_of v.subject.text → is_map (written_map v slot) m ≡ true → writes_from v slot m ≡ true
writes_here v slot m within is =
    let n : suc (slots_of v.subject.text - suc slot) ≡ slots_of v.subject.text - slot = omega (arith, within) in
    subst (λ n. writes_within v slot n m ≡ true) n (within_here v slot (slots_of v.subject.text - suc slot) m is)

-- ---- what is kept

less_none : (n : ℕ) → nat_lt n 0 ≡ false
less_none n = grind (arith, nat_tests)

-- before the first slot nothing is written
pub lasts_none : (v : Accepted) (lasts : List ℕ) → ((m : ℕ) → get_or lasts m 0 ≡ 0) → AreLastWrites v 0 lasts
lasts_none v lasts none = record {
  most = λ m k. let is = none m in omega (arith, is);
  each = λ m slot k h.
      let start : slot ≡ 0 = omega (arith, h) in
      let nothing : 0 - slot ≡ 0 = omega arith in
      ap (λ n. writes_within v slot n m) nothing ∙ within_none v slot m ∙ sym (less_none slot) ∙ ap (nat_lt slot) (sym (none m));
}

less_yes : (slot n : ℕ) → slot < n → nat_lt slot n ≡ true
less_yes slot n h = grind (arith, nat_tests)

less_no : (slot n : ℕ) → n ≤ slot → nat_lt slot n ≡ false
less_no slot n h = grind (arith, nat_tests)

-- one slot more
pub lasts_more : (v : Accepted) (n : ℕ) (lasts more : List ℕ) (map : Option ℕ) → map ≡ written_map v n → AreLastWrites v n lasts
    → ((m : ℕ) → m < 8 → get_or more m 0 ≡ (if is_map map m then n + 1 else get_or lasts m 0)) → AreLastWrites v (n + 1) more
lasts_more v n lasts more map is are noted = record {
  most = λ m k. by_most m k (is_map map m) refl;
  each = λ m slot k h. elim (cases_lt slot (n + 1)) [
    | inl below ↦ inside m slot k (omega (arith, below)) (is_map map m) refl
    | inr past ↦
        let end : n + 1 - slot ≡ 0 = omega (arith, past) in
        let few = by_most m k (is_map map m) refl in
        ap (λ n. writes_within v slot n m) end ∙ within_none v slot m ∙ sym (less_no slot (get_or more m 0) (omega (arith, few, past)))
  ];
}
  where
    now : (m : ℕ) → m < 8 → (b : Bool) → is_map map m ≡ b → get_or more m 0 ≡ (if b then n + 1 else get_or lasts m 0)
    now m k b e = noted m k ∙ ap (λ (b : Bool). if b then n + 1 else get_or lasts m 0) e

    by_most : (m : ℕ) → m < 8 → (b : Bool) → is_map map m ≡ b → get_or more m 0 ≤ n + 1
    by_most m k true e = let same = now m k true e in omega (arith, same)
    by_most m k false e = let same = now m k false e in let few = are.most m k in omega (arith, same, few)

    inside : (m slot : ℕ) → m < 8 → slot ≤ n → (b : Bool) → is_map map m ≡ b → writes_within v slot (n + 1 - slot) m ≡ nat_lt slot (get_or more m 0)
    inside m slot k h b e =
        let longer : n + 1 - slot ≡ suc (n - slot) = omega (arith, h) in
        let end : slot + (n - slot) ≡ n = omega (arith, h) in
        ap (λ n. writes_within v slot n m) longer ∙ within_more v slot (n - slot) m
        ∙ ap (λ s. writes_within v slot (n - slot) m || is_map (written_map v s) m) end
        ∙ ap (λ o. writes_within v slot (n - slot) m || is_map o m) (sym is)
        ∙ ap (λ c. writes_within v slot (n - slot) m || c) e ∙ by_case b e
      where
        by_case : (b : Bool) → is_map map m ≡ b → (writes_within v slot (n - slot) m || b) ≡ nat_lt slot (get_or more m 0)
        by_case true e = or-true (writes_within v slot (n - slot) m) ∙ sym (ap (nat_lt slot) (now m k true e) ∙ less_yes slot (n + 1) (omega (arith, h)))
        by_case false e = or-false (writes_within v slot (n - slot) m) ∙ are.each m slot k h ∙ sym (ap (nat_lt slot) (now m k false e))

-- what is kept says of each slot, also of one after the text
pub last_learns : (v : Accepted) (lasts : List ℕ) (m slot : ℕ) → AreLastWrites v (slots_of v.subject.text) lasts → m < 8 → writes_from v slot m ≡ nat_lt slot (get_or lasts m 0)
last_learns v lasts m slot are k = elim (cases_lt slot (slots_of v.subject.text)) [
  | inl within ↦ are.each m slot k (omega (arith, within))
  | inr past ↦
      let none : slots_of v.subject.text - slot ≡ 0 = omega (arith, past) in
      let few = are.most m k in
      ap (λ n. writes_within v slot n m) none ∙ within_none v slot m ∙ sym (less_no slot (get_or lasts m 0) (omega (arith, few, past)))
]

-- a number that is noted
pub last_set : (lasts : List ℕ) (n end m : ℕ) → n < length lasts → get_or (set lasts n end) m 0 ≡ (if n == m then end else get_or lasts m 0)
last_set lasts n end m within = elim (cases_eq m n) [
  | inl same ↦ let is : (n == m) ≡ true = grind (arith, nat_tests, same) in rw (is, same) (get_or-set_same lasts n end 0 within)
  | inr other ↦ let is : (n == m) ≡ false = grind (arith, nat_tests, other) in rw is (get_or-set_other lasts n m end 0 other)
]

-- what is noted stays of a map that isn't written
pub last_kept : (lasts : List ℕ) (map : Option ℕ) (end m : ℕ) → is_map map m ≡ false → get_or lasts m 0 ≡ (if is_map map m then end else get_or lasts m 0)
last_kept lasts map end m other = rw other refl

-- the map that an instruction writes, by the table of what flows
pub tight_map : (p : Subject) (slot : ℕ) (map : Option ℕ) → map ≡ map_by p (tight_table p) slot (operation_of (insn_at p.text slot).opcode) → map ≡ written_map (record { subject = p; table = tight_table p }) slot
unfolding written_map
tight_map p slot map e = e

-- what a store writes
pub written_store : (v : Accepted) (slot : ℕ) (size : Size) (source : Source) → operation_of (insn_at v.subject.text slot).opcode ≡ Some (Store size source) → written_map v slot ≡ store_map (kind_at v.table slot (insn_at v.subject.text slot).dst)
unfolding written_map
written_store v slot size source e = ap (map_by v.subject v.table slot) e

-- what a call writes
pub written_call : (v : Accepted) (slot : ℕ) → operation_of (insn_at v.subject.text slot).opcode ≡ Some Call → written_map v slot ≡ call_map (helper_of (sign_extended (insn_at v.subject.text slot).imm)) (kind_at v.table slot 1)
unfolding written_map
written_call v slot e = ap (map_by v.subject v.table slot) e

-- a map is itself
pub is_itself : (m : ℕ) → is_map (Some m) m ≡ true
is_itself m = grind (arith, nat_tests)
