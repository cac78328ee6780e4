-- Texts that call no functions.
use Rattle.std.specs.Prelude.{◌≡◌, ◌≢◌, ℕ, ◌+◌, ◌*◌, ◌/◌, ◌%◌, ◌<◌, ◌≤◌, ◌⊎◌, List, [], length, slice_index, slice_get, Option, Some, None}
use Rattle.call_copies.specs.declared.inlined.Inlined.{Inlined}
use Rattle.call_copies.specs.declared.order.Function.{Function}

-- a slot that isn't a call (0x85) with source 1
abbrev pub CallsNoFunction : List ℕ → ℕ → Type 0
CallsNoFunction text slot = (slice_index text (8 * slot) ≢ 0x85) ⊎ (slice_index text (8 * slot + 1) / 16 ≢ 1)

-- a text of whole slots, at most 4096 of them, without such calls
pub record IsWholeText (text : List ℕ) : Type 0 where
  pub slots : length text % 8 ≡ 0
  pub short : length text ≤ 32768
  pub no_calls : (slot : ℕ) → slot < length text / 8 → CallsNoFunction text slot

-- such a text, and an origin of each of its slots
pub record IsInlined (inlined : Inlined) : Type 0 where
  pub whole : IsWholeText inlined.text.items
  pub origins : length inlined.origins.items ≡ length inlined.text.items / 8

-- the text of a function, or none where there is none
abbrev pub text_in : Option Function → List ℕ
text_in None = []
text_in (Some function) = function.text.now

-- the text of the first function
abbrev pub first_text : List Function → List ℕ
first_text functions = text_in (slice_get functions 0)
