-- Updates by a value that is there.
use Rattle.std.proofs.Common.{◌≡◌, ℕ, ◌+◌, ◌≤◌, nat_le, if◌then◌else◌, true, List, length, Option, Some, None, IsSomeAnd, refl}
use Rattle.std.proofs.lemmas.Bool.{le-leb}
use Rattle.host_types.specs.Bytes.{part_of}
use Rattle.host_types.specs.Helpers.{update_answer, maps_updated}
use Rattle.host_types.specs.Layout.{stack_size}
use Rattle.host_types.specs.Memory.{FlatMap, FlatMaps, FlatMemory, map_at, all_set, only_if, ◌>>=◌}
use Rattle.reference_machine.specs.Calls.{updated_by, updated_from_context, updated_from_stack}

-- a value of the size of the map's values, wherever it is read
by_value : (memory : FlatMemory) (m key flags size answer : ℕ) (value : List ℕ) (maps : FlatMaps) (read : ℕ → Option (List ℕ))
    → IsSomeAnd (map_at memory.maps m) (λ flat. size ≡ flat.shape.value_size) → read size ≡ Some value
    → IsSomeAnd (map_at memory.maps m) (λ flat. answer ≡ update_answer flat.shape key flags) → maps ≡ maps_updated memory.maps m key value flags
    → (map_at memory.maps m >>= λ flat. read flat.shape.value_size >>= updated_by memory m key flags) ≡ Some (answer, record memory { maps = maps })
by_value memory m key flags size answer value maps read sized is answers after = by_map (map_at memory.maps m) refl
  where
    by_map : (o : Option FlatMap) → map_at memory.maps m ≡ o → (map_at memory.maps m >>= λ flat. read flat.shape.value_size >>= updated_by memory m key flags) ≡ Some (answer, record memory { maps = maps })
    by_map None e = absurd (rw e at sized)
    by_map (Some flat) e =
        let size_is : size ≡ flat.shape.value_size = rw e at sized in
        let answer_is : answer ≡ update_answer flat.shape key flags = rw e at answers in
        rw (e, ← size_is, is, e, answer_is, after) refl

-- a value in the context
pub by_context : (memory : FlatMemory) (m key at flags size answer : ℕ) (value : List ℕ) (maps : FlatMaps)
    → IsSomeAnd (map_at memory.maps m) (λ flat. size ≡ flat.shape.value_size) → at + size ≤ length memory.context → value ≡ part_of memory.context at size
    → IsSomeAnd (map_at memory.maps m) (λ flat. answer ≡ update_answer flat.shape key flags) → maps ≡ maps_updated memory.maps m key value flags
    → updated_from_context memory m key at flags ≡ Some (answer, record memory { maps = maps })
by_context memory m key at flags size answer value maps sized within is answers after =
    let test : nat_le (at + size) (length memory.context) ≡ true = le-leb (at + size) (length memory.context) within in
    by_value memory m key flags size answer value maps (λ n. only_if (nat_le (at + n) (length memory.context)) (part_of memory.context at n)) sized (rw (test, is) refl) answers after

-- one in the stack, each of whose bytes is set
pub by_stack : (memory : FlatMemory) (m key at flags size answer : ℕ) (value : List ℕ) (maps : FlatMaps)
    → IsSomeAnd (map_at memory.maps m) (λ flat. size ≡ flat.shape.value_size) → at + size ≤ stack_size → all_set (part_of memory.stack at size) ≡ Some value
    → IsSomeAnd (map_at memory.maps m) (λ flat. answer ≡ update_answer flat.shape key flags) → maps ≡ maps_updated memory.maps m key value flags
    → updated_from_stack memory m key at flags ≡ Some (answer, record memory { maps = maps })
by_stack memory m key at flags size answer value maps sized within is answers after =
    let test : nat_le (at + size) stack_size ≡ true = le-leb (at + size) stack_size within in
    by_value memory m key flags size answer value maps (λ n. if nat_le (at + n) stack_size then all_set (part_of memory.stack at n) else None) sized (rw test is) answers after
