-- What an event's table must have by what it does: the other half of `IsEvent`, which says when a table is no event's.
use Rattle.std.specs.Prelude.{ℕ, List, [], ◌∷◌, codes, Option, Bool, true}
use Rattle.host_types.specs.declared.options.Opt.{Opt}
use Rattle.toml.specs.Data.{Members}
use Rattle.host_file.specs.declared.key.Key.{Key}
use Rattle.host_file.specs.declared.key.Key.TheVariants as key
use Rattle.host_file.specs.HostFile.{HasOnly, HasNumber, HasNumberOr, HasAnyNumber, HasFlagOr, HasHex, HasOption}

-- what events do
pub data Kind : Type 0 where
  map : Kind
  load : Kind
  begin : Kind
  step : Kind
  finish : Kind
  run : Kind
  visit : Kind
  update : Kind
  lookup : Kind
  set : Kind
  unmerge : Kind
  counters : Kind
  unload : Kind
  drop : Kind

-- the word for it at `do`
abbrev pub word_of : Kind → List ℕ
word_of map = codes "map"
word_of load = codes "load"
word_of begin = codes "begin"
word_of step = codes "step"
word_of finish = codes "finish"
word_of run = codes "run"
word_of visit = codes "visit"
word_of update = codes "update"
word_of lookup = codes "lookup"
word_of set = codes "set"
word_of unmerge = codes "unmerge"
word_of counters = codes "counters"
word_of unload = codes "unload"
word_of drop = codes "drop"

-- some number, or some bytes, stand at a key
abbrev pub SomeNumber : Members → Key → Type 0
SomeNumber ms key = (n : ℕ) × HasNumber ms key n

abbrev pub SomeHex : Members → Key → Type 0
SomeHex ms key = (bytes : List ℕ) × HasHex ms key bytes

-- a table has all that an event needs which does this, each of its kind, and nothing else
abbrev pub IsComplete : Members → Kind → Type 0
IsComplete ms map =
    HasOnly ms (key.Do ∷ key.Tenant ∷ key.ValueSize ∷ key.Entries ∷ key.Mergeable ∷ [])
    × SomeNumber ms key.Tenant × SomeNumber ms key.ValueSize × SomeNumber ms key.Entries
    × ((flag : Bool) × HasFlagOr true ms key.Mergeable flag)
IsComplete ms load =
    HasOnly ms (key.Do ∷ key.Tenant ∷ key.Hex ∷ key.Context ∷ [])
    × SomeNumber ms key.Tenant × SomeHex ms key.Hex × SomeNumber ms key.Context
IsComplete ms begin =
    HasOnly ms (key.Do ∷ key.Tenant ∷ key.Program ∷ key.Context ∷ [])
    × SomeNumber ms key.Tenant × SomeNumber ms key.Program × SomeHex ms key.Context
IsComplete ms step =
    HasOnly ms (key.Do ∷ key.Tenant ∷ key.Count ∷ [])
    × SomeNumber ms key.Tenant × ((n : ℕ) × HasNumberOr 1 ms key.Count n)
IsComplete ms finish = HasOnly ms (key.Do ∷ key.Tenant ∷ []) × SomeNumber ms key.Tenant
IsComplete ms run =
    HasOnly ms (key.Do ∷ key.Tenant ∷ key.Program ∷ key.Context ∷ [])
    × SomeNumber ms key.Tenant × SomeNumber ms key.Program × SomeHex ms key.Context
IsComplete ms visit = HasOnly ms (key.Do ∷ key.Count ∷ []) × ((count : Option ℕ) × HasAnyNumber ms key.Count count)
IsComplete ms update =
    HasOnly ms (key.Do ∷ key.Tenant ∷ key.Map ∷ key.Key ∷ key.Value ∷ [])
    × SomeNumber ms key.Tenant × SomeNumber ms key.Map × SomeNumber ms key.Key × SomeHex ms key.Value
IsComplete ms lookup =
    HasOnly ms (key.Do ∷ key.Tenant ∷ key.Map ∷ key.Key ∷ [])
    × SomeNumber ms key.Tenant × SomeNumber ms key.Map × SomeNumber ms key.Key
IsComplete ms set =
    HasOnly ms (key.Do ∷ key.Option ∷ key.Value ∷ []) × ((opt : Opt) × HasOption ms opt) × SomeNumber ms key.Value
IsComplete ms unmerge = HasOnly ms (key.Do ∷ [])
IsComplete ms counters = HasOnly ms (key.Do ∷ [])
IsComplete ms unload =
    HasOnly ms (key.Do ∷ key.Tenant ∷ key.Program ∷ []) × SomeNumber ms key.Tenant × SomeNumber ms key.Program
IsComplete ms drop = HasOnly ms (key.Do ∷ key.Tenant ∷ key.Map ∷ []) × SomeNumber ms key.Tenant × SomeNumber ms key.Map
