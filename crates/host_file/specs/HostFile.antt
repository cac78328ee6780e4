-- Host files (this project's own format, docs/HOST.md): what a TOML document says.
use Rattle.std.specs.Prelude.{◌≡◌, ℕ, ◌≤◌, ◌==◌, ◌||◌, pos, List, [], ◌∷◌, length, codes, count_by, Any, MatchOption, Option, Some, None, Ok, Bool, true}
use Rattle.host_types.specs.declared.options.Opt.{Opt}
use Rattle.host_types.specs.declared.options.Options.{Options}
use Rattle.host_types.specs.OptionTable.{default_options, option_name}
use Rattle.hex.specs.Hex.{decode_of}
use Rattle.host_types.specs.declared.event.Event.{Event}
use Rattle.host_types.specs.declared.event.Event.TheVariants.{CreateMap, Load, Begin, HostUpdate, HostLookup, Set, Unmerge, Counters, Unload, DropMap}
use Rattle.toml.specs.Parse.{parse_document}
use Rattle.toml.specs.Data.{Data, string, integer, boolean, array, table, Items, no_items, item, Members, no_members, member, get_member}
use Rattle.host_file.specs.declared.key.Key.{Key}
use Rattle.host_file.specs.declared.key.Key.TheVariants as key
use Rattle.host_file.specs.declared.command.Command.{Command}
use Rattle.host_file.specs.declared.command.Command.TheVariants.{Apply, Step, Finish, Run, Visit}
use Rattle.host_file.specs.declared.file.HostFile.{HostFile}

-- the keys as they are written
abbrev pub key_name : Key → List ℕ
key_name key.Tenants = codes "tenants"
key_name key.Frames = codes "frames"
key_name key.Options = codes "options"
key_name key.Event = codes "event"
key_name key.PagesToScan = codes "pages_to_scan"
key_name key.Run = codes "run"
key_name key.UseZeroPages = codes "use_zero_pages"
key_name key.MaxPageSharing = codes "max_page_sharing"
key_name key.Do = codes "do"
key_name key.Tenant = codes "tenant"
key_name key.Hex = codes "hex"
key_name key.Context = codes "context"
key_name key.Program = codes "program"
key_name key.Count = codes "count"
key_name key.ValueSize = codes "value_size"
key_name key.Entries = codes "entries"
key_name key.Mergeable = codes "mergeable"
key_name key.Map = codes "map"
key_name key.Key = codes "key"
key_name key.Value = codes "value"
key_name key.Option = codes "option"

-- the value at a key of a table
abbrev pub value_at : Members → Key → Option Data
value_at ms key = get_member (key_name key) ms

-- each name of a table is that of one of these keys
abbrev pub HasOnly : Members → List Key → Type 0
HasOnly no_members keys = Unit {0}
HasOnly (member name value ms) keys = Any (λ key. key_name key ≡ name) keys × HasOnly ms keys

-- a number is an integer from 0 to 4294967295
abbrev pub IsNumber : Data → ℕ → Type 0
IsNumber value n = (value ≡ integer (pos n)) × (n ≤ 4294967295)

-- a table has a number at a key
abbrev pub HasNumber : Members → Key → ℕ → Type 0
HasNumber ms key n = MatchOption (value_at ms key) ⊥ (λ value. IsNumber value n)

-- a table has a number at a key, or the key is missing and the number is the default
abbrev pub HasNumberOr : ℕ → Members → Key → ℕ → Type 0
HasNumberOr default ms key n = MatchOption (value_at ms key) (n ≡ default) (λ value. IsNumber value n)

-- a table has a number at a key, or none where the key is missing
abbrev pub HasAnyNumber : Members → Key → Option ℕ → Type 0
HasAnyNumber ms key None = value_at ms key ≡ None
HasAnyNumber ms key (Some n) = HasNumber ms key n

-- a table has true or false at a key, or the key is missing and it is the default
abbrev pub HasFlagOr : Bool → Members → Key → Bool → Type 0
HasFlagOr default ms key flag = MatchOption (value_at ms key) (flag ≡ default) (λ value. value ≡ boolean flag)

-- a table has a string at a key
abbrev pub HasString : Members → Key → List ℕ → Type 0
HasString ms key text = value_at ms key ≡ Some (string text)

-- a table has bytes at a key, as hex text
abbrev pub HasHex : Members → Key → List ℕ → Type 0
HasHex ms key bytes = (text : List ℕ) × HasString ms key text × (decode_of text ≡ Ok bytes)

-- a table names an option
abbrev pub HasOption : Members → Opt → Type 0
HasOption ms opt = HasString ms key.Option (option_name opt)

-- a table of options; an option that it doesn't name is as by default
pub record IsOptionTable (ms : Members) (options : Options) : Type 0 where
  pub keys : HasOnly ms (key.PagesToScan ∷ key.Run ∷ key.UseZeroPages ∷ key.MaxPageSharing ∷ [])
  pub pages_to_scan : HasNumberOr default_options.pages_to_scan ms key.PagesToScan options.pages_to_scan
  pub run : HasNumberOr default_options.run ms key.Run options.run
  pub use_zero_pages : HasNumberOr default_options.use_zero_pages ms key.UseZeroPages options.use_zero_pages
  pub max_page_sharing : HasNumberOr default_options.max_page_sharing ms key.MaxPageSharing options.max_page_sharing

abbrev pub IsOptionData : Data → Options → Type 0
IsOptionData (table ms) options = IsOptionTable ms options
IsOptionData _ options = ⊥

-- the options of a document; with no table of them all are as by default
abbrev pub HasOptions : Members → Options → Type 0
HasOptions ms options = MatchOption (value_at ms key.Options) (options ≡ default_options) (λ value. IsOptionData value options)

-- a table does what it says, and has none but these keys
abbrev pub IsRow : Members → List ℕ → List Key → Type 0
IsRow ms kind keys = HasString ms key.Do kind × HasOnly ms keys

-- the table of an event of the host, by what it does
abbrev pub IsHostEvent : Members → Event → Type 0
IsHostEvent ms (CreateMap tenant value_size entries mergeable) =
    IsRow ms (codes "map") (key.Do ∷ key.Tenant ∷ key.ValueSize ∷ key.Entries ∷ key.Mergeable ∷ [])
    × HasNumber ms key.Tenant tenant × HasNumber ms key.ValueSize value_size × HasNumber ms key.Entries entries
    × HasFlagOr true ms key.Mergeable mergeable
IsHostEvent ms (Load tenant text context_size) =
    IsRow ms (codes "load") (key.Do ∷ key.Tenant ∷ key.Hex ∷ key.Context ∷ [])
    × HasNumber ms key.Tenant tenant × HasHex ms key.Hex text × HasNumber ms key.Context context_size
IsHostEvent ms (Begin tenant program context) =
    IsRow ms (codes "begin") (key.Do ∷ key.Tenant ∷ key.Program ∷ key.Context ∷ [])
    × HasNumber ms key.Tenant tenant × HasNumber ms key.Program program × HasHex ms key.Context context
IsHostEvent ms (HostUpdate tenant map number value) =
    IsRow ms (codes "update") (key.Do ∷ key.Tenant ∷ key.Map ∷ key.Key ∷ key.Value ∷ [])
    × HasNumber ms key.Tenant tenant × HasNumber ms key.Map map × HasNumber ms key.Key number × HasHex ms key.Value value
IsHostEvent ms (HostLookup tenant map number) =
    IsRow ms (codes "lookup") (key.Do ∷ key.Tenant ∷ key.Map ∷ key.Key ∷ [])
    × HasNumber ms key.Tenant tenant × HasNumber ms key.Map map × HasNumber ms key.Key number
IsHostEvent ms (Set opt value) =
    IsRow ms (codes "set") (key.Do ∷ key.Option ∷ key.Value ∷ []) × HasOption ms opt × HasNumber ms key.Value value
IsHostEvent ms Unmerge = IsRow ms (codes "unmerge") (key.Do ∷ [])
IsHostEvent ms Counters = IsRow ms (codes "counters") (key.Do ∷ [])
IsHostEvent ms (Unload tenant program) =
    IsRow ms (codes "unload") (key.Do ∷ key.Tenant ∷ key.Program ∷ [])
    × HasNumber ms key.Tenant tenant × HasNumber ms key.Program program
IsHostEvent ms (DropMap tenant map) =
    IsRow ms (codes "drop") (key.Do ∷ key.Tenant ∷ key.Map ∷ [])
    × HasNumber ms key.Tenant tenant × HasNumber ms key.Map map
IsHostEvent ms _ = ⊥

-- the table of an event, by what it does
abbrev pub IsEvent : Members → Command → Type 0
IsEvent ms (Apply event) = IsHostEvent ms event
IsEvent ms (Step tenant count) =
    IsRow ms (codes "step") (key.Do ∷ key.Tenant ∷ key.Count ∷ [])
    × HasNumber ms key.Tenant tenant × HasNumberOr 1 ms key.Count count
IsEvent ms (Finish tenant) =
    IsRow ms (codes "finish") (key.Do ∷ key.Tenant ∷ []) × HasNumber ms key.Tenant tenant
IsEvent ms (Run tenant program context) =
    IsRow ms (codes "run") (key.Do ∷ key.Tenant ∷ key.Program ∷ key.Context ∷ [])
    × HasNumber ms key.Tenant tenant × HasNumber ms key.Program program × HasHex ms key.Context context
IsEvent ms (Visit count) = IsRow ms (codes "visit") (key.Do ∷ key.Count ∷ []) × HasAnyNumber ms key.Count count

abbrev pub IsEventTable : Data → Command → Type 0
IsEventTable (table ms) command = IsEvent ms command
IsEventTable _ command = ⊥

-- the values of an array, each the table of an event, in their order
abbrev pub AreEvents : Items → List Command → Type 0
AreEvents no_items [] = Unit {0}
AreEvents no_items (command ∷ commands) = ⊥
AreEvents (item value values) [] = ⊥
AreEvents (item value values) (command ∷ commands) = IsEventTable value command × AreEvents values commands

abbrev pub IsEventArray : Data → List Command → Type 0
IsEventArray (array values) commands = AreEvents values commands
IsEventArray _ commands = ⊥

-- the events of a document; with no array of them there is none
abbrev pub HasEvents : Members → List Command → Type 0
HasEvents ms commands = MatchOption (value_at ms key.Event) (commands ≡ []) (λ value. IsEventArray value commands)

-- a document is a host file
pub record IsHostFile (ms : Members) (file : HostFile) : Type 0 where
  pub keys : HasOnly ms (key.Tenants ∷ key.Frames ∷ key.Options ∷ key.Event ∷ [])
  pub tenants : HasNumber ms key.Tenants file.tenants
  pub frames : HasNumber ms key.Frames file.frames
  pub options : HasOptions ms file.options
  pub events : HasEvents ms file.commands

-- a character that opens an array, a table or a header of one, or parts a key (`.`, `[` and `{`)
abbrev pub opens : ℕ → Bool
opens c = (c == 46 || c == 91) || c == 123

-- the character that stands between a key and its value (`=`)
abbrev pub is_equals : ℕ → Bool
is_equals c = c == 61

-- the most bytes that a host file may have, the most characters that open something, and the most of `=`
abbrev pub max_bytes : ℕ
max_bytes = 16777216

abbrev pub max_openings : ℕ
max_openings = 300000

abbrev pub max_equals : ℕ
max_equals = 1000000

-- a text is within the limits, wherever in it the characters stand
pub record IsSmall (text : List ℕ) : Type 0 where
  pub bytes : length text ≤ max_bytes
  pub openings : count_by opens text ≤ max_openings
  pub equals : count_by is_equals text ≤ max_equals

-- a text within the limits is a TOML document that is a host file
abbrev pub IsFileText : List ℕ → HostFile → Type 0
IsFileText text file = (ms : Members) × IsSmall text × (parse_document text ≡ Some ms) × IsHostFile ms file
