-- How a program of an object file is written to the struct that C has of it.
use Rattle.std.specs.Prelude.{◌≡◌, ℕ, ◌-◌, ◌<◌, ◌≤◌, List, ◌++◌, length, take, replicate, slice_get, slice_index_or, MatchOption, string_bytes}
use Rattle.host_types.specs.Bytes.{with_part}
use Rattle.object_file.specs.declared.map.Map.{Map}
use Rattle.host_handle.specs.declared.object.BpfHostObject.{BpfHostObject}
use Rattle.host_handle.specs.declared.object.BpfHostObjectMap.{BpfHostObjectMap}
use Rattle.host_handle.specs.declared.structs.BpfHostShape.{BpfHostShape}

-- the shape of a map, as C has it
abbrev pub shape_for_c : Map → BpfHostShape
shape_for_c map = record { value_size = map.shape.value_size; entries = map.shape.entries }

-- Words at the beginning of a buffer, and zeros after them up to its end, one at least. Words for which there is no room are cut.
pub record AreWords (words old new : List ℕ) : Type 0 where
  pub kept : ℕ
  pub room : kept < length old
  pub of_words : kept ≤ length words
  pub whole : length words < length old → kept ≡ length words
  pub are : new ≡ take kept words ++ replicate (length old - kept) 0

-- a map: its shape, its name, and the bytes of value 0 at the start
pub record IsMapWritten (map : Map) (old new : BpfHostObjectMap) : Type 0 where
  pub shape : new.shape ≡ shape_for_c map
  pub name : AreWords (string_bytes map.name) old.name new.name
  pub first_len : new.first_len ≡ length map.first.items
  pub first : new.first ≡ with_part old.first 0 map.first.items

-- each map at its number; what stands at the other numbers stays
abbrev pub AreMapsWritten : List Map → List BpfHostObjectMap → List BpfHostObjectMap → Type 0
AreMapsWritten maps old new = (number : ℕ) (other : BpfHostObjectMap) → number < length old →
    MatchOption (slice_get maps number) (slice_index_or new number other ≡ slice_index_or old number other)
    (λ map. IsMapWritten map (slice_index_or old number other) (slice_index_or new number other))

-- a program with its maps; bytes after its text stay
pub record IsProgramWritten (program : List ℕ) (used : List Map) (size : ℕ) (old new : BpfHostObject) : Type 0 where
  pub context_size : new.context_size ≡ size
  pub text_len : new.text_len ≡ length program
  pub text : new.text ≡ with_part old.text 0 program
  pub maps_len : new.maps_len ≡ length used
  pub maps : AreMapsWritten used old.maps new.maps
  pub why : new.why ≡ old.why
