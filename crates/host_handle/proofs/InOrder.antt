-- Events that happen one after the other.
use Rattle.std.proofs.Common.{◌≡◌, ◌<◌, ◌+◌, ℕ, suc, Bool, List, [], ◌∷◌, ◌++◌, length, take, drop, Option, Some, None, sym, ap, subst, refl, ◌∙◌, arith, add-zero, add-one}
use Rattle.std.specs.List.{All}
use Rattle.std.proofs.lemmas.List.{append_assoc, append-nil, length-take, take-append-drop}
use Rattle.std.proofs.lemmas.List.Elements.{All-append, All-cons}
use Rattle.host_types.specs.declared.event.Event.{Event}
use Rattle.host_types.specs.declared.event.Event.TheVariants.{DropMap}
use Rattle.host_types.specs.declared.fault.Fault.{Fault}
use Rattle.host_core.specs.declared.reply.Reply.{Reply}
use Rattle.host_core.specs.declared.reply.Reply.TheVariants.{Refused, Map, Program, Begun, Stepped, Ended, Visited, Done, Value, Counters}
use Rattle.host_core.specs.HostView.{HostView}
use Rattle.host_core.proofs.Joined.{AllHappen-join}
use Rattle.host_handle.specs.declared.object.BpfHostObject.{BpfHostObject}
use Rattle.host_handle.specs.declared.object.BpfHostObjectMap.{BpfHostObjectMap}
use Rattle.host_handle.specs.Answered.{Goes, Serves}
use Rattle.host_handle.specs.Loading.{RefusesNothing, HappenWith, HappenUpTo, LoadsObject, events_of_map, events_of_maps, events_of_object, drops_of}

no_reply : All RefusesNothing []
no_reply k d less = absurd (omega (arith, less))

-- one list of events after another
pub happen_join : (events more : List Event) (replies further : List Reply) (old mid new : HostView) → HappenWith events replies old mid → HappenWith more further mid new → HappenWith (events ++ more) (replies ++ further) old new
happen_join events more replies further old mid new first second x stands =
    let (m, there, all) = first x stands in
    let (n, here, rest) = second m there in
    (n, here, AllHappen-join x m n events more replies further all rest)

pub none_happen : (host : HostView) → HappenWith [] [] host host
none_happen host x stands = (x, stands, refl)

pub one_happens : (event : Event) (reply : Reply) (old new : HostView) → Goes (Serves event reply) old new → HappenWith (event ∷ []) (reply ∷ []) old new
one_happens event reply old new served x stands =
    let (m, there, (happens, promised, covered)) = served x stands in
    (m, there, (m, happens, promised, covered, refl))

pub up_to_none : (host : HostView) → HappenUpTo [] None host host
up_to_none host = ([], no_reply, none_happen host)

pub up_to_one : (event : Event) (reply : Reply) (old new : HostView) → RefusesNothing reply → Goes (Serves event reply) old new → HappenUpTo (event ∷ []) None old new
up_to_one event reply old new accepted served = (reply ∷ [], All-cons RefusesNothing reply [] accepted no_reply, one_happens event reply old new served)

pub up_to_refused : (event : Event) (more : List Event) (fault : Fault) (old new : HostView) → Goes (Serves event (Refused fault)) old new → HappenUpTo (event ∷ more) (Some fault) old new
up_to_refused event more fault old new served = ([], event, more, refl, ([], no_reply, one_happens event (Refused fault) old new served))

pub up_to_join : (events more : List Event) (stopped : Option Fault) (old mid new : HostView) → HappenUpTo events None old mid → HappenUpTo more stopped mid new → HappenUpTo (events ++ more) stopped old new
up_to_join events more None old mid new (replies, accepted, all) (further, also, rest) =
    (replies ++ further, All-append RefusesNothing replies further accepted also, happen_join events more replies further old mid new all rest)
up_to_join events more (Some fault) old mid new (replies, accepted, all) (before, event, after, is, (further, also, rest)) =
    let joined = happen_join events (before ++ event ∷ []) replies (further ++ Refused fault ∷ []) old mid new all rest in (
      events ++ before,
      event,
      after,
      ap (λ list. events ++ list) is ∙ sym (append_assoc events before (event ∷ after)),
      (
        replies ++ further,
        All-append RefusesNothing replies further accepted also,
        subst (λ list. HappenWith list ((replies ++ further) ++ Refused fault ∷ []) old new) (sym (append_assoc events before (event ∷ [])))
            (subst (λ list. HappenWith (events ++ (before ++ event ∷ [])) list old new) (sym (append_assoc replies further (Refused fault ∷ []))) joined),
      ),
    )

-- what is refused before the end is refused before a later one
pub up_to_more : (events more : List Event) (fault : Fault) (old new : HostView) → HappenUpTo events (Some fault) old new → HappenUpTo (events ++ more) (Some fault) old new
up_to_more events more fault old new (before, event, after, is, rest) =
    (before, event, after ++ more, ap (λ list. list ++ more) is ∙ append_assoc before (event ∷ after) more, rest)

-- the maps of an object, in two parts
pub events_joined : (t : ℕ) (mergeable : Bool) (number : ℕ) (maps more : List BpfHostObjectMap)
    → events_of_maps t mergeable number (maps ++ more) ≡ events_of_maps t mergeable number maps ++ events_of_maps t mergeable (number + length maps) more
unfolding events_of_maps
events_joined t mergeable number [] more = ap (λ n. events_of_maps t mergeable n more) (sym (add-zero number))
events_joined t mergeable number (made ∷ maps) more =
    let later = events_joined t mergeable (suc number) maps more in
    let count : suc number + length maps ≡ number + length (made ∷ maps) = omega arith in
    let rest = later ∙ ap (λ n. events_of_maps t mergeable (suc number) maps ++ events_of_maps t mergeable n more) count in
    ap (λ list. events_of_map t mergeable number made ++ list) rest
    ∙ sym (append_assoc (events_of_map t mergeable number made) (events_of_maps t mergeable (suc number) maps) (events_of_maps t mergeable (number + length (made ∷ maps)) more))

one_map : (t : ℕ) (mergeable : Bool) (number : ℕ) (made : BpfHostObjectMap) → events_of_maps t mergeable number (made ∷ []) ≡ events_of_map t mergeable number made
unfolding events_of_maps
one_map t mergeable number made = append-nil (events_of_map t mergeable number made)

-- before the first one
pub up_to_start : (t : ℕ) (mergeable : Bool) (host : HostView) → HappenUpTo (events_of_maps t mergeable 0 []) None host host
unfolding events_of_maps
up_to_start t mergeable host = up_to_none host

-- one map more, and those that are left
pub events_next : (t : ℕ) (mergeable : Bool) (maps : List BpfHostObjectMap) (number : ℕ) (made : BpfHostObjectMap) → number < length maps → take (number + 1) maps ≡ take number maps ++ made ∷ []
    → events_of_maps t mergeable 0 (take (number + 1) maps) ≡ events_of_maps t mergeable 0 (take number maps) ++ events_of_map t mergeable number made
events_next t mergeable maps number made less more =
    let taken = length-take number maps in
    let count : 0 + length (take number maps) ≡ number = omega (arith, taken, less) in
    ap (events_of_maps t mergeable 0) more ∙ events_joined t mergeable 0 (take number maps) (made ∷ [])
    ∙ ap (λ n. events_of_maps t mergeable 0 (take number maps) ++ events_of_maps t mergeable n (made ∷ [])) count
    ∙ ap (λ list. events_of_maps t mergeable 0 (take number maps) ++ list) (one_map t mergeable number made)

pub events_left : (t : ℕ) (mergeable : Bool) (maps : List BpfHostObjectMap) (number : ℕ) → events_of_maps t mergeable 0 maps ≡ events_of_maps t mergeable 0 (take number maps) ++ events_of_maps t mergeable (0 + length (take number maps)) (drop number maps)
events_left t mergeable maps number =
    ap (events_of_maps t mergeable 0) (sym (take-append-drop number maps)) ∙ events_joined t mergeable 0 (take number maps) (drop number maps)

-- an object that is loaded
pub loads : (t : ℕ) (mergeable : Bool) (object : BpfHostObject) (last : Reply) (old new : HostView) → RefusesNothing last
    → (replies : List Reply) × All RefusesNothing replies × HappenWith (events_of_object t mergeable object) (replies ++ last ∷ []) old new → LoadsObject t mergeable object last old new
loads t mergeable object (Refused fault) old new accepted all = absurd (accepted fault refl)
loads t mergeable object (Map number) old new accepted all = all
loads t mergeable object (Program number) old new accepted all = all
loads t mergeable object Begun old new accepted all = all
loads t mergeable object Stepped old new accepted all = all
loads t mergeable object (Ended number steps) old new accepted all = all
loads t mergeable object (Visited visited) old new accepted all = all
loads t mergeable object Done old new accepted all = all
loads t mergeable object (Value bytes) old new accepted all = all
loads t mergeable object (Counters counters) old new accepted all = all

pub maps_next : (t : ℕ) (mergeable : Bool) (maps : List BpfHostObjectMap) (number : ℕ) (made : BpfHostObjectMap) (stopped : Option Fault) (old mid new : HostView) → number < length maps → take (number + 1) maps ≡ take number maps ++ made ∷ []
    → HappenUpTo (events_of_maps t mergeable 0 (take number maps)) None old mid → HappenUpTo (events_of_map t mergeable number made) stopped mid new → HappenUpTo (events_of_maps t mergeable 0 (take (number + 1) maps)) stopped old new
maps_next t mergeable maps number made stopped old mid new less more before one =
    subst (λ events. HappenUpTo events stopped old new) (sym (events_next t mergeable maps number made less more))
    (up_to_join (events_of_maps t mergeable 0 (take number maps)) (events_of_map t mergeable number made) stopped old mid new before one)

pub maps_stopped : (t : ℕ) (mergeable : Bool) (maps : List BpfHostObjectMap) (number : ℕ) (fault : Fault) (old new : HostView) → HappenUpTo (events_of_maps t mergeable 0 (take number maps)) (Some fault) old new → HappenUpTo (events_of_maps t mergeable 0 maps) (Some fault) old new
maps_stopped t mergeable maps number fault old new stopped =
    subst (λ events. HappenUpTo events (Some fault) old new) (sym (events_left t mergeable maps number))
    (up_to_more (events_of_maps t mergeable 0 (take number maps)) _ fault old new stopped)

-- maps that are dropped, by number
pub drops_start : (t : ℕ) (host : HostView) → (replies : List Reply) × HappenWith (drops_of t 0) replies host host
unfolding drops_of
drops_start t host = ([], none_happen host)

pub drops_next : (t n : ℕ) (replies : List Reply) (reply : Reply) (old mid new : HostView) → HappenWith (drops_of t n) replies old mid → Goes (Serves (DropMap t n) reply) mid new → HappenWith (drops_of t (n + 1)) (replies ++ reply ∷ []) old new
unfolding drops_of
drops_next t n replies reply old mid new before served =
    rw (add-one n) (happen_join (drops_of t n) (DropMap t n ∷ []) replies (reply ∷ []) old mid new before (one_happens (DropMap t n) reply mid new served))
