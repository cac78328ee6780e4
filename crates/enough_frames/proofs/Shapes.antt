-- A step of a run keeps the shapes of its maps.
use Rattle.std.proofs.Common.{◌≡◌, ◌∙◌, ℕ, zero, suc, ◌+◌, ◌==◌, Bool, true, false, if◌then◌else◌, ℤ, pos, negsuc, ◌+ℤ◌, ◌%◌, List, [], ◌∷◌, map, sum_by, slice_set, Option, Some, None, option_map, unwrap_or, refl, sym, ap, subst, arith}
use Rattle.std.specs.Bool.{⊤}
use Rattle.std.proofs.lemmas.List.Sums.{sum_by-cons}
use Rattle.host_types.specs.declared.helper.MapHelper.{MapHelper}
use Rattle.host_types.specs.declared.helper.MapHelper.TheVariants.{Lookup, Update, Delete}
use Rattle.host_types.specs.declared.shape.Shape.{Shape}
use Rattle.host_types.specs.Bytes.{bytes_of, with_part}
use Rattle.host_types.specs.Helpers.{helper, update_answer, element_at, map_updated, maps_updated}
use Rattle.host_types.specs.Memory.{FlatMap, FlatMaps, FlatMemory, Location, InContext, InStack, InMap, map_at, location_of, with_bytes, fetch, write_number, ◌>>=◌}
use Rattle.bpf_decode.specs.declared.insn.Insn.{Insn}
use Rattle.bpf_decode.specs.declared.operation.AluCode.{AluCode}
use Rattle.bpf_decode.specs.declared.operation.Comparison.{Comparison}
use Rattle.bpf_decode.specs.declared.operation.Extension.{Extension}
use Rattle.bpf_decode.specs.declared.operation.Operation.{Operation}
use Rattle.bpf_decode.specs.declared.operation.Operation.TheVariants.{Alu, Load, Store, LoadImmediate, Jump, Branch, Call, Exit}
use Rattle.bpf_decode.specs.declared.operation.Size.{Size}
use Rattle.bpf_decode.specs.declared.operation.Source.{Source}
use Rattle.bpf_decode.specs.declared.operation.Width.{Width}
use Rattle.bpf_decode.specs.Opcodes.{byte_count, distance_of}
use Rattle.bpf_decode.specs.Text.{insn_at, width_at}
use Rattle.insn_alu.specs.Arithmetic.{alu}
use Rattle.insn_alu.specs.Comparisons.{holds}
use Rattle.page_table.specs.Limits.{page_count}
use Rattle.interp.specs.Machine.{MachineState, Outcome, Next, Exits, register, first_operand, operand, with_register, address_of, extended, wide_number, helper_call, value_arguments, operation_at, fallen, at_slot, jumped, step_alu, step_load, step_load_immediate, step_store, step_call, step_branch, step_by, step}
use Rattle.enough_frames.specs.Frames.{map_pages, pages_in}

-- the shapes of maps by number
abbrev pub shapes_of : FlatMaps → List (Option Shape)
shapes_of maps = map (option_map (λ (flat : FlatMap). flat.shape)) maps

-- where something is there, its maps have the shapes of some others
abbrev AlikeIn : {T : Type 0} → (T → FlatMaps) → FlatMaps → Option T → Type 0
AlikeIn maps_in maps None = ⊤
AlikeIn maps_in maps (Some t) = shapes_of (maps_in t) ≡ shapes_of maps

after : {A T : Type 0} (maps_in : T → FlatMaps) (maps : FlatMaps) (o : Option A) (f : A → Option T) → ((x : A) → o ≡ Some x → AlikeIn maps_in maps (f x))
    → AlikeIn maps_in maps (o >>= f)
after maps_in maps None f h = tt
after maps_in maps (Some x) f h = h x refl

set-shapes : (maps : FlatMaps) (m : ℕ) (flat new : FlatMap) → map_at maps m ≡ Some flat → new.shape ≡ flat.shape → shapes_of (slice_set maps m (Some new)) ≡ shapes_of maps
set-shapes [] m flat new e same = refl
set-shapes (slot ∷ maps) zero flat new e same =
    ap (λ (shape : Option Shape). shape ∷ shapes_of maps) (ap Some same ∙ sym (ap (option_map (λ (f : FlatMap). f.shape)) e))
set-shapes (slot ∷ maps) (suc m) flat new e same =
    ap (λ (shapes : List (Option Shape)). option_map (λ (f : FlatMap). f.shape) slot ∷ shapes) (set-shapes maps m flat new e same)

-- ---- what writes to maps

abbrev maps_of_memory : FlatMemory → FlatMaps
maps_of_memory memory = memory.maps

stored : (memory : FlatMemory) (found : Location) (bytes : List ℕ) → AlikeIn maps_of_memory memory.maps (with_bytes memory found bytes)
unfolding with_bytes
stored memory (InContext at) bytes = tt
stored memory (InStack at) bytes = refl
stored memory (InMap m at) bytes =
    after maps_of_memory memory.maps (map_at memory.maps m) _ (λ flat e. set-shapes memory.maps m flat (record flat { bytes = with_part flat.bytes at bytes }) e refl)

written : (memory : FlatMemory) (address size number : ℕ) → AlikeIn maps_of_memory memory.maps (write_number memory address size number)
unfolding write_number
written memory address size number = after maps_of_memory memory.maps (if address % size == 0 then location_of memory address size else None) _ (λ found e. stored memory found (bytes_of size number))

updated : (key flags : ℕ) (value : List ℕ) (flat : FlatMap) → (map_updated key value flags flat).shape ≡ flat.shape
unfolding map_updated
updated key flags value flat = by_test (update_answer flat.shape key flags == 0)
  where
    by_test : (b : Bool) → (if b then record flat { bytes = with_part flat.bytes (element_at flat.shape key) value } else flat).shape ≡ flat.shape
    by_test true = refl
    by_test false = refl

abbrev maps_of_answer : ℕ × FlatMaps → FlatMaps
maps_of_answer answered = answered.1

helped : (asked : MapHelper) (maps : FlatMaps) (m key : ℕ) (value : List ℕ) (flags : ℕ) → AlikeIn maps_of_answer maps (helper asked maps m key value flags)
unfolding helper maps_updated
helped Lookup maps m key value flags = after maps_of_answer maps (map_at maps m) _ (λ flat e. refl)
helped Update maps m key value flags =
    after maps_of_answer maps (map_at maps m) _ (λ flat e.
    subst (λ (slot : Option FlatMap). shapes_of (slice_set maps m slot) ≡ shapes_of maps) (sym (ap (option_map (map_updated key value flags)) e))
    (set-shapes maps m flat (map_updated key value flags flat) e (updated key flags value flat)))
helped Delete maps m key value flags = after maps_of_answer maps (map_at maps m) _ (λ flat e. refl)

-- ---- the steps

abbrev maps_of_state : MachineState → FlatMaps
maps_of_state s = s.memory.maps

-- the maps that an outcome has
abbrev pub maps_after : Outcome → FlatMaps
maps_after (Next s) = s.memory.maps
maps_after (Exits number maps) = maps

alu_step : (code : AluCode) (width : Width) (source : Source) (insn : Insn) (s : MachineState) → AlikeIn maps_of_state s.memory.maps (step_alu code width source insn s)
unfolding step_alu
alu_step code width source insn s =
    after maps_of_state s.memory.maps (first_operand code insn s) _ (λ a e. after maps_of_state s.memory.maps (operand source insn s) _ (λ b f.
    after maps_of_state s.memory.maps (with_register s insn.dst (alu code width insn.offset a b)) _ (λ registers g. refl)))

load_step : (size : Size) (extension : Extension) (insn : Insn) (s : MachineState) → AlikeIn maps_of_state s.memory.maps (step_load size extension insn s)
unfolding step_load
load_step size extension insn s =
    after maps_of_state s.memory.maps (register s insn.src) _ (λ base e. after maps_of_state s.memory.maps (fetch s.memory (address_of base insn.offset) (byte_count size)) _ (λ number f.
    after maps_of_state s.memory.maps (with_register s insn.dst (extended size extension number)) _ (λ registers g. refl)))

wide_step : (insn : Insn) (s : MachineState) → AlikeIn maps_of_state s.memory.maps (step_load_immediate insn s)
unfolding step_load_immediate
wide_step insn s =
    after maps_of_state s.memory.maps (wide_number s.memory.maps insn) _ (λ number e. after maps_of_state s.memory.maps (with_register s insn.dst number) _ (λ registers f. refl))

store_step : (size : Size) (source : Source) (insn : Insn) (s : MachineState) → AlikeIn maps_of_state s.memory.maps (step_store size source insn s)
unfolding step_store
store_step size source insn s =
    after maps_of_state s.memory.maps (register s insn.dst) _ (λ base e. after maps_of_state s.memory.maps (operand source insn s) _ (λ number f.
    after maps_of_state s.memory.maps (write_number s.memory (address_of base insn.offset) (byte_count size) number) _ (λ memory g.
    subst (AlikeIn maps_of_memory s.memory.maps) g (written s.memory (address_of base insn.offset) (byte_count size) number))))

call_step : (insn : Insn) (s : MachineState) → AlikeIn maps_of_state s.memory.maps (step_call insn s)
unfolding step_call
call_step insn s =
    after maps_of_state s.memory.maps (helper_call insn s) _ (λ call e. after maps_of_state s.memory.maps (value_arguments call.helper s call.map) _ (λ arguments f.
    after maps_of_state s.memory.maps (helper call.helper s.memory.maps call.map call.key arguments.0 arguments.1) _ (λ answered g.
    subst (AlikeIn maps_of_answer s.memory.maps) g (helped call.helper s.memory.maps call.map call.key arguments.0 arguments.1))))

jump_step : (s : MachineState) (to : ℤ) → AlikeIn maps_after s.memory.maps (at_slot s to)
jump_step s (pos to) = refl
jump_step s (negsuc n) = tt

jumped_step : (text : List ℕ) (distance : ℤ) (s : MachineState) → AlikeIn maps_after s.memory.maps (jumped text distance s)
jumped_step text distance s = jump_step s (pos (s.slot + width_at text s.slot) +ℤ distance)

branch_step : (text : List ℕ) (comparison : Comparison) (width : Width) (source : Source) (insn : Insn) (s : MachineState)
    → AlikeIn maps_after s.memory.maps (step_branch text comparison width source insn s)
unfolding step_branch
branch_step text comparison width source insn s =
    after maps_after s.memory.maps (register s insn.dst) _ (λ a e. after maps_after s.memory.maps (operand source insn s) _ (λ b f. by_test (holds comparison width a b)))
  where
    by_test : (b : Bool) → AlikeIn maps_after s.memory.maps (if b then jumped text insn.offset s else Some (fallen text s))
    by_test true = jumped_step text insn.offset s
    by_test false = refl

operation_step : (text : List ℕ) (operation : Operation) (s : MachineState) → AlikeIn maps_after s.memory.maps (step_by text operation s)
unfolding step_by
operation_step text (Alu code width source) s =
    after maps_after s.memory.maps (step_alu code width source (insn_at text s.slot) s) _ (λ t e. subst (AlikeIn maps_of_state s.memory.maps) e (alu_step code width source (insn_at text s.slot) s))
operation_step text (Load size extension) s =
    after maps_after s.memory.maps (step_load size extension (insn_at text s.slot) s) _ (λ t e. subst (AlikeIn maps_of_state s.memory.maps) e (load_step size extension (insn_at text s.slot) s))
operation_step text (Store size source) s =
    after maps_after s.memory.maps (step_store size source (insn_at text s.slot) s) _ (λ t e. subst (AlikeIn maps_of_state s.memory.maps) e (store_step size source (insn_at text s.slot) s))
operation_step text LoadImmediate s =
    after maps_after s.memory.maps (step_load_immediate (insn_at text s.slot) s) _ (λ t e. subst (AlikeIn maps_of_state s.memory.maps) e (wide_step (insn_at text s.slot) s))
operation_step text (Jump distance) s = jumped_step text (distance_of distance (insn_at text s.slot)) s
operation_step text (Branch comparison width source) s = branch_step text comparison width source (insn_at text s.slot) s
operation_step text Call s =
    after maps_after s.memory.maps (step_call (insn_at text s.slot) s) _ (λ t e. subst (AlikeIn maps_of_state s.memory.maps) e (call_step (insn_at text s.slot) s))
operation_step text Exit s = after maps_after s.memory.maps (register s 0) _ (λ number e. refl)

any_step : (text : List ℕ) (s : MachineState) → AlikeIn maps_after s.memory.maps (step text s)
unfolding step
any_step text s = after maps_after s.memory.maps (operation_at text s.slot) _ (λ operation e. operation_step text operation s)

pub step-shapes : (text : List ℕ) (s : MachineState) (outcome : Outcome) → step text s ≡ Some outcome → shapes_of (maps_after outcome) ≡ shapes_of s.memory.maps
step-shapes text s outcome e = subst (AlikeIn maps_after s.memory.maps) e (any_step text s)

-- ---- maps of the same shapes have as many pages

abbrev shape_pages : Option Shape → ℕ
shape_pages shape = unwrap_or (option_map page_count shape) 0

one-shape : (slot : Option FlatMap) → map_pages slot ≡ shape_pages (option_map (λ (flat : FlatMap). flat.shape) slot)
one-shape None = refl
one-shape (Some flat) = refl

by-shapes : (maps : FlatMaps) → pages_in maps ≡ sum_by shape_pages (shapes_of maps)
by-shapes [] = refl
by-shapes (slot ∷ maps) =
    let split = sum_by-cons map_pages slot maps in
    let shaped = sum_by-cons shape_pages (option_map (λ (flat : FlatMap). flat.shape) slot) (shapes_of maps) in
    let one = one-shape slot in
    let rest = by-shapes maps in
    omega (arith, split, shaped, one, rest)

pub pages-shapes : (a b : FlatMaps) → shapes_of a ≡ shapes_of b → pages_in a ≡ pages_in b
pages-shapes a b same = by-shapes a ∙ ap (sum_by shape_pages) same ∙ sym (by-shapes b)
