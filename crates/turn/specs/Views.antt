-- What a seat knows of the one memory: the parts of its own tenants.
use Rattle.std.specs.Prelude.{◌≡◌, ◌<◌, ◌≤◌, ℕ, length, Bool, true, false, List, [], ◌∷◌, ◌++◌}
use Rattle.host_types.specs.Tenant.{AreFlatMaps}
use Rattle.page_table.specs.State.{MemoryState, part}

-- A view: the seat's own tenants, the first and the one after the last; whether it holds the memory; a memory that has
-- the parts which it knows; and the turns that it made, in order, each the memory as it was taken and as it was given.
-- `seen` of a new seat is the memory with which the turn was made; while it holds, the memory that it took; after it gave,
-- the memory that it gave. Of that only its own tenants' parts are still so: others have had turns since.
pub record SeatView : Type 0 where
  pub first : ℕ
  pub end : ℕ
  pub holds : Bool
  pub seen : MemoryState
  pub turns : List (MemoryState × MemoryState)

-- the tenant is one of the view's own
abbrev pub Has : SeatView → ℕ → Type 0
Has view t = (view.first ≤ t) × (t < view.end)

-- the view's own tenants have in the memory the parts that the view remembers
abbrev pub RemembersParts : SeatView → MemoryState → Type 0
RemembersParts view memory = (t : ℕ) → Has view t → part memory t ≡ part view.seen t

-- every other tenant has in the memory the part that the view remembers
abbrev pub Spares : SeatView → MemoryState → Type 0
Spares view memory = (t : ℕ) → ¬ (Has view t) → part memory t ≡ part view.seen t

-- the view's own tenants are there, with eight entries for maps, and each map has as many bytes as its shape says
abbrev pub HasMaps : SeatView → MemoryState → Type 0
HasMaps view memory = (t : ℕ) → Has view t → AreFlatMaps (part memory t).maps

-- the same of the memory that the view remembers
abbrev pub KnowsMaps : SeatView → Type 0
KnowsMaps view = HasMaps view view.seen

-- the view's own tenants are there: they have eight entries for maps
abbrev pub AreThere : SeatView → MemoryState → Type 0
AreThere view memory = (t : ℕ) → Has view t → length (part memory t).maps ≡ 8

-- the view of a new seat: its tenants' parts of a memory, and no turn
abbrev pub new_view : ℕ → ℕ → MemoryState → SeatView
new_view first end memory = record { first = first; end = end; holds = false; seen = memory; turns = [] }

-- the view while it holds the memory: all parts as they were taken
abbrev pub holding : SeatView → MemoryState → SeatView
holding view memory = record view { holds = true; seen = memory }

-- the view after it gave a memory: its own parts of that one, and one more turn, which began with the memory as it
-- was taken
abbrev pub resting : SeatView → MemoryState → SeatView
resting view memory =
    record view { holds = false; seen = memory; turns = view.turns ++ (view.seen, memory) ∷ [] }
