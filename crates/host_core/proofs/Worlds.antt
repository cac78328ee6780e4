-- A list in which the item at an index changed, and worlds in which one tenant did.
use Rattle.std.proofs.Common.{◌≡◌, ℕ, zero, suc, ◌<◌, List, [], ◌∷◌, length, set, Option, Some, None, MatchOption, ◌≢◌, set-set, sym, ap, refl, ◌∙◌, subst, arith}
use Rattle.std.specs.List.{slice_get, AllZip}
use Rattle.std.proofs.lemmas.List.{set-get_or, get_or-set_same, length-set}
use Rattle.std.proofs.lemmas.Option.{get_or_from_slice_get, slice_get_within, slice_get-get_or}
use Rattle.host_types.specs.declared.fault.Fault.{Fault}
use Rattle.host_types.specs.declared.fault.Fault.TheVariants as fault
use Rattle.host_core.specs.declared.reply.Reply.{Reply}
use Rattle.host_core.specs.declared.reply.Reply.TheVariants.{Refused}
use Rattle.host_types.specs.Sharing.{Sharing}
use Rattle.host_core.specs.World.{Tenant, World, System}
use Rattle.host_core.specs.Happens.{Answers, RefusedOr, OfTenant, changed_system}

-- an item that is written over itself
pub set-same : {X : Type 0} (xs : List X) (i : ℕ) (x : X) → slice_get xs i ≡ Some x → set xs i x ≡ xs
set-same xs i x e =
    let read = get_or_from_slice_get xs i x x e in
    subst (λ y. set xs i y ≡ xs) read (set-get_or xs i x)

-- the item that was written
pub slice_get-set : {X : Type 0} (xs : List X) (i : ℕ) (x y : X) → slice_get xs i ≡ Some x → slice_get (set xs i y) i ≡ Some y
slice_get-set xs i x y e =
    let within = slice_get_within xs i x e in
    let read = get_or-set_same xs i y y within in
    let there : i < length (set xs i y) = omega (arith, length-set xs i y) in
    slice_get-get_or (set xs i y) i y there ∙ ap Some read

-- a pair of items written to two lists that agree
pub AllZip-set : {A B : Type 0} (R : A → B → Type 0) (xs : List A) (ys : List B) (i : ℕ) (x : A) (y : B) → AllZip R xs ys → R x y → AllZip R (set xs i x) (set ys i y)
AllZip-set R [] [] i x y h r = h
AllZip-set R [] (b ∷ ys) i x y h r = absurd h
AllZip-set R (a ∷ xs) [] i x y h r = absurd h
AllZip-set R (a ∷ xs) (b ∷ ys) zero x y h r = (r, h.1)
AllZip-set R (a ∷ xs) (b ∷ ys) (suc i) x y h r = (h.0, AllZip-set R xs ys i x y h.1 r)

-- what stands at the same index of the other list
pub AllZip-found : {A B : Type 0} (R : A → B → Type 0) (xs : List A) (ys : List B) (i : ℕ) (x : A) → AllZip R xs ys → slice_get xs i ≡ Some x → (y : B) × (slice_get ys i ≡ Some y) × R x y
AllZip-found R [] ys i x h e = absurd (cc)
AllZip-found R (a ∷ xs) [] i x h e = absurd h
AllZip-found R (a ∷ xs) (b ∷ ys) zero x h e =
    let same : a ≡ x = cc in
    (b, refl, subst (λ z. R z b) same h.0)
AllZip-found R (a ∷ xs) (b ∷ ys) (suc i) x h e = AllZip-found R xs ys i x h.1 e

-- where nothing stands in one list, nothing stands in the other
pub AllZip-missing : {A B : Type 0} (R : A → B → Type 0) (xs : List A) (ys : List B) (i : ℕ) → AllZip R xs ys → slice_get xs i ≡ None → slice_get ys i ≡ None
AllZip-missing R [] [] i h e = refl
AllZip-missing R [] (b ∷ ys) i h e = absurd h
AllZip-missing R (a ∷ xs) [] i h e = absurd h
AllZip-missing R (a ∷ xs) (b ∷ ys) zero h e = absurd (cc)
AllZip-missing R (a ∷ xs) (b ∷ ys) (suc i) h e = AllZip-missing R xs ys i h.1 e

-- the item at another index
pub slice_get-set-other : {X : Type 0} (xs : List X) (i j : ℕ) (y : X) → j ≢ i → slice_get (set xs i y) j ≡ slice_get xs j
slice_get-set-other [] i j y other = refl
slice_get-set-other (x ∷ xs) zero zero y other = absurd (other refl)
slice_get-set-other (x ∷ xs) zero (suc j) y other = refl
slice_get-set-other (x ∷ xs) (suc i) zero y other = refl
slice_get-set-other (x ∷ xs) (suc i) (suc j) y other = slice_get-set-other xs i j y (λ same. other (ap suc same))

-- a system in which a tenant is written over itself, and the pages are what they were
pub changed_system-same : (x : System) (t : ℕ) (tenant : Tenant) → slice_get x.world t ≡ Some tenant → changed_system x t tenant x.sharing ≡ x
changed_system-same x t tenant there = ap (λ (w : World). record x { world = w }) (set-same x.world t tenant there)

-- a system in which a tenant changed twice
pub changed_system-twice : (x : System) (t : ℕ) (one two : Tenant) (first second : Sharing) → changed_system (changed_system x t one first) t two second ≡ changed_system x t two second
changed_system-twice x t one two first second = ap (λ (w : World). record x { world = w; sharing = second }) (set-set x.world t one two)

-- what happens to the tenant that is there
pub OfTenant-there : (x : System) (t : ℕ) (reply : Reply) (x' : System) (Happening : Tenant → Type 0) (tenant : Tenant) → slice_get x.world t ≡ Some tenant → Happening tenant → OfTenant x t reply x' Happening
OfTenant-there x t reply x' Happening tenant e h =
    subst (λ found. MatchOption found (Answers x (Refused fault.BadTenant) reply x') Happening) (sym e) h

-- where there is no tenant the event is refused
pub OfTenant-missing : (x : System) (t : ℕ) (reply : Reply) (x' : System) (Happening : Tenant → Type 0) → slice_get x.world t ≡ None → Answers x (Refused fault.BadTenant) reply x' → OfTenant x t reply x' Happening
OfTenant-missing x t reply x' Happening e h =
    subst (λ found. MatchOption found (Answers x (Refused fault.BadTenant) reply x') Happening) (sym e) h

-- an event with a refusal
pub RefusedOr-refused : (refusal : Option Fault) (x : System) (reply : Reply) (x' : System) (Happening : Type 0) (fault : Fault) → refusal ≡ Some fault → Answers x (Refused fault) reply x' → RefusedOr refusal x reply x' Happening
RefusedOr-refused refusal x reply x' Happening fault e h =
    subst (λ found. RefusedOr found x reply x' Happening) (sym e) h

-- an event with no refusal
pub RefusedOr-else : (refusal : Option Fault) (x : System) (reply : Reply) (x' : System) (Happening : Type 0) → refusal ≡ None → Happening → RefusedOr refusal x reply x' Happening
RefusedOr-else refusal x reply x' Happening e h =
    subst (λ found. RefusedOr found x reply x' Happening) (sym e) h
