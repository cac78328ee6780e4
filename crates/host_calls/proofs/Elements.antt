-- Tenants and elements that are there, and values byte by byte.
use Rattle.std.proofs.Common.{◌≡◌, ◌≢◌, ◌∙◌, ℕ, zero, suc, ◌+◌, ◌*◌, ◌<◌, ◌≤◌, ◌==◌, nat_le, nat_lt, Bool, true, false, not, if◌then◌else◌, List, [], ◌∷◌, ◌++◌, take, drop, length, slice_index_or, inl, inr, Option, Some, None, option_map, unwrap_or, IfSome, IsSomeAnd, refl, sym, ap, arith, All}
use Rattle.std.proofs.lemmas.Bool.Decides.{nat_tests}
use Rattle.std.proofs.lemmas.List.{drop-drop}
use Rattle.std.proofs.Math.Seq.{take-add}
use Rattle.host_types.specs.declared.fault.Fault.{Fault}
use Rattle.host_types.specs.declared.fault.Fault.TheVariants.{NoFrames, BadShape, NoMap, NoElement, OutOfMemory, BadTenant}
use Rattle.host_types.specs.declared.shape.Shape.{Shape}
use Rattle.host_types.specs.Bytes.{part_of, number_of}
use Rattle.host_types.specs.Helpers.{element_at, update_charge}
use Rattle.host_types.specs.Memory.{FlatMap, map_at}
use Rattle.host_types.specs.Tenant.{TenantPart, IsFlatMap}
use Rattle.host_types.proofs.Elements.{element-in-map}
use Rattle.host_types.proofs.Lists.{length-part_of}
use Rattle.page_table.specs.State.{MemoryState, part, have_of}
use Rattle.page_table.proofs.Recording.{length-part}
use Rattle.host_calls.specs.Calls.{RefusesLookup, RefusesUpdate, NamesHave, lookup_refusal_in, or_bad_tenant, refused_lookup, refused_update, update_refusal_in}

-- a tenant is there just where the memory has it
module _ (memory : MemoryState) (t : ℕ) (all : length memory.maps ≡ length memory.tenants * 8) where
  pub tenant-inside : length (part memory t).maps ≡ 8 → t < length memory.tenants
  unfolding part
  tenant-inside eight = let short = length-part memory.maps (t * 8) 8 in omega (arith, short, all, eight)

  pub tenant-there : t < length memory.tenants → length (part memory t).maps ≡ 8
  unfolding part
  tenant-there inside = let short = length-part memory.maps (t * 8) 8 in omega (arith, short, all, inside)

  pub tenant-missing : length memory.tenants ≤ t → ¬ (length (part memory t).maps ≡ 8)
  tenant-missing past eight = let inside = tenant-inside eight in absurd (omega (arith, past, inside))

-- the shape and the bytes of what may be a map
abbrev pub shape_in : Option FlatMap → Option Shape
shape_in found = option_map (λ (flat : FlatMap). flat.shape) found

abbrev pub bytes_in : Option FlatMap → List ℕ
bytes_in found = unwrap_or (option_map (λ (flat : FlatMap). flat.bytes) found) []

-- a test says whether a tenant has eight entries for maps
pub eight-answered : (owned : TenantPart) → length owned.maps ≡ 8 → (length owned.maps == 8) ≡ true
eight-answered owned is = rw is refl

pub eight-missing : (owned : TenantPart) → ¬ (length owned.maps ≡ 8) → (length owned.maps == 8) ≡ false
eight-missing owned none = by_test (length owned.maps == 8) refl
  where
    by_test : (b : Bool) → (length owned.maps == 8) ≡ b → (length owned.maps == 8) ≡ false
    by_test true answered = absurd (none (grind (arith, nat_tests)))
    by_test false answered = answered

-- what is refused of a tenant that is there
pub or_bad-there : (owned : TenantPart) (refusal first : Option Fault) → length owned.maps ≡ 8 → refusal ≡ first → or_bad_tenant owned refusal ≡ first
or_bad-there owned refusal first eight is = ap (λ b. if b then refusal else Some BadTenant) (eight-answered owned eight) ∙ is

pub or_bad-missing : (owned : TenantPart) (refusal : Option Fault) → ¬ (length owned.maps ≡ 8) → or_bad_tenant owned refusal ≡ Some BadTenant
or_bad-missing owned refusal none = ap (λ b. if b then refusal else Some BadTenant) (eight-missing owned none)

-- where nothing is refused, the tenant is there
there-free : (owned : TenantPart) (refusal : Option Fault) → or_bad_tenant owned refusal ≡ None → length owned.maps ≡ 8
there-free owned refusal free = by_test (length owned.maps == 8) refl
  where
    by_test : (b : Bool) → (length owned.maps == 8) ≡ b → length owned.maps ≡ 8
    by_test true answered = grind (arith, nat_tests)
    by_test false answered = absurd (let bad : or_bad_tenant owned refusal ≡ Some BadTenant = ap (λ b. if b then refusal else Some BadTenant) answered in cc)

-- ---- Lookups and updates of a tenant's map that are refused, by what may be the map

-- of a map that isn't there
pub map-missing : (found : Option FlatMap) (key : ℕ) → shape_in found ≡ None → lookup_refusal_in found key ≡ Some NoMap
map-missing None key none = refl
map-missing (Some flat) key none = absurd (cc)

-- of an element that isn't there, and of one that is
module _ (shape : Shape) (key : ℕ) where
  pub element-refused : (found : Option FlatMap) → shape_in found ≡ Some shape → shape.entries ≤ key → lookup_refusal_in found key ≡ Some NoElement
  element-refused None is past = absurd (cc)
  element-refused (Some flat) is past =
      let same : flat.shape ≡ shape = cc in
      let answered : nat_le flat.shape.entries key ≡ true = grind (arith, nat_tests, ap (λ (s : Shape). s.entries) same) in
      ap (λ b. if b then Some NoElement else None) answered

  pub element-allowed : (found : Option FlatMap) → shape_in found ≡ Some shape → key < shape.entries → lookup_refusal_in found key ≡ None
  element-allowed None is less = absurd (cc)
  element-allowed (Some flat) is less =
      let same : flat.shape ≡ shape = cc in
      let answered : nat_le flat.shape.entries key ≡ false = grind (arith, nat_tests, ap (λ (s : Shape). s.entries) same) in
      ap (λ b. if b then Some NoElement else None) answered

-- an update is refused where a lookup is
update-element : (found : Option FlatMap) (key : ℕ) (value : List ℕ) (have : ℕ) (fault : Fault) → lookup_refusal_in found key ≡ Some fault → update_refusal_in found key value have ≡ Some fault
update-element None key value have fault refused = refused
update-element (Some flat) key value have fault refused = by_test (nat_le flat.shape.entries key) refl
  where
    by_test : (b : Bool) → nat_le flat.shape.entries key ≡ b → update_refusal_in (Some flat) key value have ≡ Some fault
    by_test true answered = rw answered (rw answered at refused)
    by_test false answered = absurd (let none = rw answered at refused in cc)

-- numbers that differ
differs : (a b : ℕ) → a ≢ b → (a == b) ≡ false
differs a b other = by_test (a == b) refl
  where
    by_test : (c : Bool) → (a == b) ≡ c → (a == b) ≡ false
    by_test true answered = absurd (other (grind (arith, nat_tests)))
    by_test false answered = answered

-- what holds of an update of each map of a shape holds of the one that is found
by_map : (first : Option Fault) (key have : ℕ) (value : List ℕ) (shape : Shape) (found : Option FlatMap) → shape_in found ≡ Some shape → ((flat : FlatMap) → flat.shape ≡ shape → update_refusal_in (Some flat) key value have ≡ first) → update_refusal_in found key value have ≡ first
by_map first key have value shape None is each = absurd (cc)
by_map first key have value shape (Some flat) is each = each flat (cc)

-- what a refusal of a lookup is not: memory that ran out
refused-not_out_of_memory : (found : Option FlatMap) (key : ℕ) (fault : Fault) → lookup_refusal_in found key ≡ Some fault → fault ≢ OutOfMemory
refused-not_out_of_memory None key fault refused is_out = absurd (cc)
refused-not_out_of_memory (Some flat) key fault refused is_out = by_test (nat_le flat.shape.entries key) refl
  where
    by_test : (b : Bool) → nat_le flat.shape.entries key ≡ b → ⊥
    by_test true answered = absurd (let is = rw answered at refused in cc)
    by_test false answered = absurd (let is = rw answered at refused in cc)

-- what a refusal of a lookup says of frames: nothing
answered-nothing : (memory : MemoryState) (found : Option FlatMap) (key : ℕ) (fault : Fault) → lookup_refusal_in found key ≡ Some fault → NamesHave memory fault
answered-nothing memory None key fault refused = let same : fault ≡ NoMap = cc in rw same tt
answered-nothing memory (Some flat) key fault refused = by_test (nat_le flat.shape.entries key) refl
  where
    by_test : (b : Bool) → nat_le flat.shape.entries key ≡ b → NamesHave memory fault
    by_test true answered = let is = rw answered at refused in let same : fault ≡ NoElement = cc in rw same tt
    by_test false answered = absurd (let none = rw answered at refused in cc)

module _ (memory : MemoryState) (t m key : ℕ) (value : List ℕ) where
  abbrev owned : TenantPart
  owned = part memory t

  abbrev found : Option FlatMap
  found = map_at owned.maps m

  by_there : (P : Type 0) → ((length owned.maps == 8) ≡ true → P) → ((length owned.maps == 8) ≡ false → P) → P
  by_there P is_there is_missing = by_test (length owned.maps == 8) refl
    where
      by_test : (b : Bool) → (length owned.maps == 8) ≡ b → P
      by_test true answered = is_there answered
      by_test false answered = is_missing answered

  pub update_first : (fault : Fault) → refused_lookup memory t m key ≡ Some fault → refused_update memory t m key value ≡ Some fault
  update_first fault refused =
      by_there (refused_update memory t m key value ≡ Some fault)
      (λ answered. or_bad-there owned (update_refusal_in found key value (have_of memory)) (Some fault) (grind (arith, nat_tests))
      (update-element found key value (have_of memory) fault (sym (ap (λ b. if b then lookup_refusal_in found key else Some BadTenant) answered) ∙ refused)))
      (λ answered. ap (λ b. if b then update_refusal_in found key value (have_of memory) else Some BadTenant) answered ∙ (sym (ap (λ b. if b then lookup_refusal_in found key else Some BadTenant) answered) ∙ refused))

  pub lookup_answered : (fault : Fault) → refused_lookup memory t m key ≡ Some fault → NamesHave memory fault
  lookup_answered fault refused =
      by_there (NamesHave memory fault)
      (λ answered. answered-nothing memory found key fault (sym (ap (λ b. if b then lookup_refusal_in found key else Some BadTenant) answered) ∙ refused))
      (λ answered. let is : Some BadTenant ≡ Some fault = sym (ap (λ b. if b then lookup_refusal_in found key else Some BadTenant) answered) ∙ refused in let same : fault ≡ BadTenant = cc in rw same tt)

  pub lookup_takes_none : (fault : Fault) → refused_lookup memory t m key ≡ Some fault → fault ≢ OutOfMemory
  lookup_takes_none fault refused =
      by_there (fault ≢ OutOfMemory)
      (λ answered. refused-not_out_of_memory found key fault (sym (ap (λ b. if b then lookup_refusal_in found key else Some BadTenant) answered) ∙ refused))
      (λ answered is_out. let is : Some BadTenant ≡ Some fault = sym (ap (λ b. if b then lookup_refusal_in found key else Some BadTenant) answered) ∙ refused in absurd (cc))

  pub lookup_refuses : (fault : Fault) → refused_lookup memory t m key ≡ Some fault → RefusesLookup owned m key fault
  lookup_refuses fault refused = inl refused

  pub lookup_lacks : refused_lookup memory t m key ≡ None → RefusesLookup owned m key OutOfMemory
  lookup_lacks free = inr (refl, free)

  pub update_refuses : (fault : Fault) → refused_update memory t m key value ≡ Some fault → RefusesUpdate owned m key value fault
  update_refuses fault refused = (have_of memory, refused)

  module _ (shape : Shape) (free : refused_lookup memory t m key ≡ None) (is : shape_in found ≡ Some shape) (less : key < shape.entries) where
    eight : length owned.maps ≡ 8
    eight = there-free owned (lookup_refusal_in found key) free

    refusal : (flat : FlatMap) → flat.shape ≡ shape → update_refusal_in (Some flat) key value (have_of memory)
        ≡ (if length value == shape.value_size then (if nat_lt (have_of memory) (update_charge shape) then Some (NoFrames (update_charge shape) (have_of memory)) else None) else Some BadShape)
    refusal flat same =
        let past : nat_le shape.entries key ≡ false = grind (arith, nat_tests) in
        ap (λ (s : Shape). update_refusal_of s) same ∙ ap (λ b. if b then Some NoElement else sized) past ∙ sides (length value == shape.value_size)
      where
        update_refusal_of : Shape → Option Fault
        update_refusal_of s = update_refusal_in (Some (record flat { shape = s })) key value (have_of memory)

        sized : Option Fault
        sized = if not (length value == shape.value_size) then Some BadShape else (if nat_lt (have_of memory) (update_charge shape) then Some (NoFrames (update_charge shape) (have_of memory)) else None)

        sides : (b : Bool) → (if not b then Some BadShape else (if nat_lt (have_of memory) (update_charge shape) then Some (NoFrames (update_charge shape) (have_of memory)) else None))
            ≡ (if b then (if nat_lt (have_of memory) (update_charge shape) then Some (NoFrames (update_charge shape) (have_of memory)) else None) else Some BadShape)
        sides true = refl
        sides false = refl

    pub value_refused : ¬ (length value ≡ shape.value_size) → refused_update memory t m key value ≡ Some BadShape
    value_refused other =
        let answered : (length value == shape.value_size) ≡ false = differs (length value) shape.value_size other in
        or_bad-there owned (update_refusal_in found key value (have_of memory)) (Some BadShape) eight (by_map (Some BadShape) key (have_of memory) value shape found is (λ flat same. refusal flat same ∙ ap (λ b. if b then (if nat_lt (have_of memory) (update_charge shape) then Some (NoFrames (update_charge shape) (have_of memory)) else None) else Some BadShape) answered))

    pub frames_refused : (need have : ℕ) → length value ≡ shape.value_size → need ≡ update_charge shape → have ≡ have_of memory → have < need → refused_update memory t m key value ≡ Some (NoFrames need have)
    frames_refused need have sized charge answered few =
        let same_size : (length value == shape.value_size) ≡ true = grind (arith, nat_tests) in
        let missing : nat_lt (have_of memory) (update_charge shape) ≡ true = grind (arith, nat_tests) in
        let numbers : Some (NoFrames (update_charge shape) (have_of memory)) ≡ Some (NoFrames need have) = rw (charge, answered) refl in
        or_bad-there owned (update_refusal_in found key value (have_of memory)) (Some (NoFrames need have)) eight (by_map (Some (NoFrames need have)) key (have_of memory) value shape found is (λ flat same. refusal flat same
        ∙ ap (λ b. if b then (if nat_lt (have_of memory) (update_charge shape) then Some (NoFrames (update_charge shape) (have_of memory)) else None) else Some BadShape) same_size
        ∙ ap (λ b. if b then Some (NoFrames (update_charge shape) (have_of memory)) else None) missing ∙ numbers))

    pub update_free : length value ≡ shape.value_size → update_charge shape ≤ have_of memory → refused_update memory t m key value ≡ None
    update_free sized enough =
        let same_size : (length value == shape.value_size) ≡ true = grind (arith, nat_tests) in
        let missing : nat_lt (have_of memory) (update_charge shape) ≡ false = grind (arith, nat_tests) in
        or_bad-there owned (update_refusal_in found key value (have_of memory)) None eight (by_map None key (have_of memory) value shape found is (λ flat same. refusal flat same
        ∙ ap (λ b. if b then (if nat_lt (have_of memory) (update_charge shape) then Some (NoFrames (update_charge shape) (have_of memory)) else None) else Some BadShape) same_size
        ∙ ap (λ b. if b then Some (NoFrames (update_charge shape) (have_of memory)) else None) missing))

-- two parts of a list, one after the other
pub part-joined : (xs : List ℕ) (at first second : ℕ) → part_of xs at first ++ part_of xs (at + first) second ≡ part_of xs at (first + second)
unfolding part_of
part-joined xs at first second =
    sym (take-add first second (drop at xs) ∙ ap (λ (rest : List ℕ). take first (drop at xs) ++ take second rest) (drop-drop first at xs))

-- the bytes that were read are the element's value
pub value-read : (shape : Shape) (key : ℕ) (bytes : List ℕ) (found : Option FlatMap) → shape_in found ≡ Some shape → key < shape.entries
    → bytes ≡ part_of (bytes_in found) (element_at shape key) shape.value_size
    → IsSomeAnd found (λ flat. (key < flat.shape.entries) × (bytes ≡ part_of flat.bytes (element_at flat.shape key) flat.shape.value_size))
value-read shape key bytes None is there e = absurd (cc)
value-read shape key bytes (Some flat) is there e = let same : flat.shape ≡ shape = cc in rw (same) (there, e)

-- bytes that haven't the length of the element's value stay as they are
pub value-left : (shape : Shape) (key : ℕ) (old : List ℕ) (found : Option FlatMap) → shape_in found ≡ Some shape → IfSome found IsFlatMap → key < shape.entries → length old ≢ shape.value_size
    → (value : List ℕ) × IsSomeAnd found (λ flat. (key < flat.shape.entries) × (value ≡ part_of flat.bytes (element_at flat.shape key) flat.shape.value_size))
    × (shape.value_size ≡ length value) × (old ≡ (if length value == length old then value else old))
value-left shape key old None is valid there other = absurd (cc)
value-left shape key old (Some flat) is valid there other =
    let same : flat.shape ≡ shape = cc in
    let value : List ℕ = part_of flat.bytes (element_at flat.shape key) flat.shape.value_size in
    let less : key < flat.shape.entries = rw same there in
    let inside = element-in-map flat.shape key less in
    let sized : length value ≡ flat.shape.value_size = length-part_of flat.bytes (element_at flat.shape key) flat.shape.value_size (omega (arith, inside, valid.sized)) in
    let size : length value ≡ shape.value_size = sized ∙ ap (λ (s : Shape). s.value_size) same in
    let unlike : (length value == length old) ≡ false = differs (length value) (length old) (λ e. other (sym e ∙ size)) in
    (value, (less, refl), sym size, sym (ap (λ b. if b then value else old) unlike))
