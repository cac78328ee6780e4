-- What a call does that makes the maps of an object and loads its program: events of the host, in their order.
use Rattle.std.specs.Prelude.{◌≡◌, ◌≢◌, ◌==◌, ◌≤◌, ◌<◌, ◌⊎◌, ℕ, zero, suc, Bool, if◌then◌else◌, List, [], ◌∷◌, ◌++◌, take, IsSome, Option, Some, None}
use Rattle.std.specs.List.{All}
use Rattle.host_types.specs.declared.event.Event.{Event}
use Rattle.host_types.specs.declared.event.Event.TheVariants.{CreateMap, HostUpdate, Load, DropMap}
use Rattle.host_types.specs.declared.fault.Fault.{Fault}
use Rattle.host_types.specs.Memory.{map_at}
use Rattle.page_table.specs.State.{part}
use Rattle.host_core.specs.declared.reply.Reply.{Reply}
use Rattle.host_core.specs.declared.reply.Reply.TheVariants.{Refused}
use Rattle.host_core.specs.Happens.{AllHappen}
use Rattle.host_core.specs.HostView.{HostView}
use Rattle.host_handle.specs.declared.answer.Answer.TheVariants.{Replied}
use Rattle.host_handle.specs.declared.object.BpfHostObject.{BpfHostObject}
use Rattle.host_handle.specs.declared.object.BpfHostObjectMap.{BpfHostObjectMap}
use Rattle.host_handle.specs.declared.structs.BpfHostRefused.{BpfHostRefused}
use Rattle.host_handle.specs.Answered.{Goes}
use Rattle.host_handle.specs.Codes.{call_code, new_program_number, refused_written}

-- a reply that refuses nothing
abbrev pub RefusesNothing : Reply → Type 0
RefusesNothing reply = (fault : Fault) → reply ≢ Refused fault

-- events happen in their order, with these replies
abbrev pub HappenWith : List Event → List Reply → HostView → HostView → Type 0
HappenWith events replies old new = Goes (λ x x'. AllHappen x events replies x') old new

-- Events happen in their order: all of them, or up to the first that is refused.
abbrev pub HappenUpTo : List Event → Option Fault → HostView → HostView → Type 0
HappenUpTo events None old new = (replies : List Reply) × All RefusesNothing replies × HappenWith events replies old new
HappenUpTo events (Some fault) old new =
    (before : List Event) × (event : Event) × (after : List Event) × (events ≡ before ++ event ∷ after)
    × ((replies : List Reply) × All RefusesNothing replies × HappenWith (before ++ event ∷ []) (replies ++ Refused fault ∷ []) old new)

-- a map of an object is made, and the bytes of its first value are written if it has any
abbrev pub events_of_map : ℕ → Bool → ℕ → BpfHostObjectMap → List Event
events_of_map t mergeable number made =
    CreateMap t made.shape.value_size made.shape.entries mergeable
    ∷ (if made.first_len == 0 then [] else HostUpdate t number 0 (take made.first_len made.first) ∷ [])

-- so are all its maps, by number
unfoldable pub events_of_maps : ℕ → Bool → ℕ → List BpfHostObjectMap → List Event
events_of_maps t mergeable number [] = []
events_of_maps t mergeable number (made ∷ more) = events_of_map t mergeable number made ++ events_of_maps t mergeable (suc number) more

-- and then its program is loaded
abbrev pub events_of_object : ℕ → Bool → BpfHostObject → List Event
events_of_object t mergeable object =
    events_of_maps t mergeable 0 (take object.maps_len object.maps) ++ Load t (take object.text_len object.text) object.context_size ∷ []

-- the first n maps of a tenant are dropped
unfoldable pub drops_of : ℕ → ℕ → List Event
drops_of t zero = []
drops_of t (suc n) = drops_of t n ++ DropMap t n ∷ []

-- What happens to the host: all events of the object, and the last reply is that to its program. Or it stops at the first that is refused, and
-- then each of the tenant's eight maps is to be dropped: one that an older program names stays.
abbrev pub LoadsObject : ℕ → Bool → BpfHostObject → Reply → HostView → HostView → Type 0
LoadsObject t mergeable object (Refused fault) old new =
    (between : HostView) × HappenUpTo (events_of_object t mergeable object) (Some fault) old between
    × ((replies : List Reply) × HappenWith (drops_of t 8) replies between new)
LoadsObject t mergeable object last old new =
    (replies : List Reply) × All RefusesNothing replies × HappenWith (events_of_object t mergeable object) (replies ++ last ∷ []) old new

-- its lengths are none that its arrays don't have
pub record HasRightLengths (object : BpfHostObject) : Type 0 where
  pub text : object.text_len ≤ 32768
  pub maps : object.maps_len ≤ 8
  pub first : All (λ (made : BpfHostObjectMap). made.first_len ≤ 4096) (take object.maps_len object.maps)

-- a tenant has a map
abbrev pub HasAnyMap : ℕ → HostView → Type 0
HasAnyMap t host = (m : ℕ) × (m < 8) × IsSome (map_at (part host.memory t).maps m)

-- why nothing happens: the lengths, or a map that the tenant has already
abbrev pub RefusesLoading : ℕ → BpfHostObject → HostView → ℕ → Type 0
RefusesLoading t object host code =
    ((code ≡ 102) × ¬ (HasRightLengths object)) ⊎ ((code ≡ 104) × HasRightLengths object × HasAnyMap t host)

-- what the call answers: a closed handle stays closed, and nothing is written
abbrev pub AnswersLoading : ℕ → Bool → BpfHostObject → ℕ → ℕ → ℕ → BpfHostRefused → BpfHostRefused → Option HostView → Option HostView → Type 0
AnswersLoading t mergeable object code program number refused shown None None = (code ≡ 100) × (number ≡ program) × (shown ≡ refused)
AnswersLoading t mergeable object code program number refused shown (Some old) (Some new) =
    (RefusesLoading t object old code × (number ≡ program) × (shown ≡ refused) × (new ≡ old))
    ⊎ ((last : Reply) × (code ≡ call_code (Replied last)) × (number ≡ new_program_number (Replied last) program)
    × (shown ≡ refused_written (Replied last) refused) × HasRightLengths object × ¬ (HasAnyMap t old) × LoadsObject t mergeable object last old new)
AnswersLoading t mergeable object code program number refused shown old new = ⊥
