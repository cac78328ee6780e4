-- A new map, an update and a lookup, in two systems that agree on the tenant.
use Rattle.std.proofs.Common.{◌≡◌, ◌<◌, ℕ, ◌∷◌, nat_le, inl, inr, Bool, true, false, if◌then◌else◌, List, [], Option, Some, None, IsSomeAnd, sym, ap, refl, ◌∙◌, subst}
use Rattle.std.specs.List.{slice_get}
use Rattle.std.proofs.Math.ListN.{set}
use Rattle.host_types.specs.declared.fault.Fault.{Fault}
use Rattle.host_types.specs.declared.fault.Fault.TheVariants as fault
use Rattle.host_types.specs.declared.shape.Shape.{Shape}
use Rattle.host_types.specs.Bytes.{part_of}
use Rattle.host_types.specs.Helpers.{element_at}
use Rattle.host_types.specs.Memory.{FlatMap, FlatMaps, map_at}
use Rattle.page_table.specs.Changes.{zero_map}
use Rattle.host_calls.specs.Calls.{first_refusal, lookup_refusal_in, update_refusal_in}
use Rattle.host_core.specs.declared.reply.Reply.{Reply}
use Rattle.host_core.specs.declared.reply.Reply.TheVariants.{Map, Done, Value, Refused}
use Rattle.host_core.specs.World.{Tenant, System, have_in}
use Rattle.host_core.specs.Happens.{Answers, Leaves, RefusedOr, MayLackMemory, CreateHappens, UpdateHappens}
use Rattle.isolation.specs.Tenants.{Seen, seen_by, seen_tenant, is_scarce}
use Rattle.isolation.proofs.Happenings.{CreateOf, UpdateOf, LookupOf}
use Rattle.isolation.proofs.Alike.{Alike, idle, of_idle, of_tenant, shows-change, alike-shown, alike-answered, alike-replied}
use Rattle.isolation.proofs.Leaving.{GoesAlike}

-- two refusals that are the same in both systems come before the one that says of frames
with_frames : (t : ℕ) (x y x' y' : System) (tenant : Tenant) (reply other : Reply) (H K : Type 0) → slice_get x.world t ≡ Some tenant → slice_get y.world t ≡ Some tenant
    → (one two first second : Bool) (f g : Fault) (need have more : ℕ) → (H → K → Alike t reply other x' y')
    → RefusedOr (first_refusal ((one, f) ∷ (two, g) ∷ (first, fault.NoFrames need have) ∷ [])) x reply x' H
    → RefusedOr (first_refusal ((one, f) ∷ (two, g) ∷ (second, fault.NoFrames need more) ∷ [])) y other y' K → Alike t reply other x' y'
with_frames t x y x' y' tenant reply other H K there found true two first second f g need have more both h k =
    alike-answered t x y x' y' tenant (Refused f) reply other there found h k
with_frames t x y x' y' tenant reply other H K there found false true first second f g need have more both h k =
    alike-answered t x y x' y' tenant (Refused g) reply other there found h k
with_frames t x y x' y' tenant reply other H K there found false false true second f g need have more both h k = inl (ap is_scarce h.0)
with_frames t x y x' y' tenant reply other H K there found false false false true f g need have more both h k = inr (inl (ap is_scarce k.0))
with_frames t x y x' y' tenant reply other H K there found false false false false f g need have more both h k = both h k

creates : (t : ℕ) (x y x' y' : System) (tenant : Tenant) (shape : Shape) (mergeable : Bool) (reply other : Reply) → slice_get x.world t ≡ Some tenant → slice_get y.world t ≡ Some tenant
    → CreateHappens x t tenant shape mergeable reply x' → CreateHappens y t tenant shape mergeable other y' → Alike t reply other x' y'
creates t x y x' y' tenant shape mergeable reply other there found (m, free, h) (n, taken, k) =
    let same : n ≡ m = cc (free, taken) in
    let next : ℕ → Tenant = λ number. record tenant { maps = set tenant.maps number (Some (zero_map shape)) } in
    let changed = subst (λ (number : ℕ). seen_by t y' ≡ Some (seen_tenant (next number))) same (shows-change t y y' tenant (next n) _ (Map n) other found k).1 in
    alike-shown t x' y' reply other (Map m) (seen_tenant (next m)) (shows-change t x x' tenant (next m) _ (Map m) reply there h) (k.0 ∙ ap Map same, changed)

abbrev maps_after : Option (ℕ × FlatMaps) → FlatMaps
maps_after None = []
maps_after (Some after) = after.1

updates : (t : ℕ) (x y x' y' : System) (tenant : Tenant) (m key : ℕ) (value : List ℕ) (reply other : Reply) → slice_get x.world t ≡ Some tenant → slice_get y.world t ≡ Some tenant
    → UpdateHappens x t tenant m key value reply x' → UpdateHappens y t tenant m key value other y' → Alike t reply other x' y'
updates t x y x' y' tenant m key value reply other there found (maps, is, h) (others, are, k) =
    let same : others ≡ maps = ap maps_after (sym are ∙ is) in
    let next : FlatMaps → Tenant = λ all. record tenant { maps = all } in
    let changed = subst (λ (all : FlatMaps). seen_by t y' ≡ Some (seen_tenant (next all))) same (shows-change t y y' tenant (next others) _ Done other found k).1 in
    alike-shown t x' y' reply other Done (seen_tenant (next maps)) (shows-change t x x' tenant (next maps) _ Done reply there h) (k.0, changed)

pub alike-create : (t : ℕ) (shape : Shape) (mergeable : Bool) (x y : System) (reply : Reply) (x' : System) (other : Reply) (y' : System) → GoesAlike t x y reply x' other y' (CreateOf t shape mergeable)
alike-create t shape mergeable x y reply x' other y' = of_idle t x y x' y' reply other (CreateOf t shape mergeable) (λ z z' a r some h. h) (λ a there found.
    with_frames t x y x' y' (idle a) reply other _ _ there found _ _ _ _ fault.TooManyMaps fault.BadShape _ (have_in x) (have_in y) (creates t x y x' y' (idle a) shape mergeable reply other there found))

updates_in : (t : ℕ) (x y x' y' : System) (tenant : Tenant) (reply other : Reply) (H K : Type 0) → slice_get x.world t ≡ Some tenant → slice_get y.world t ≡ Some tenant
    → (map : Option FlatMap) (key : ℕ) (value : List ℕ) → (H → K → Alike t reply other x' y')
    → RefusedOr (update_refusal_in map key value (have_in x)) x reply x' H → RefusedOr (update_refusal_in map key value (have_in y)) y other y' K → Alike t reply other x' y'
updates_in t x y x' y' tenant reply other H K there found None key value both h k = alike-answered t x y x' y' tenant (Refused fault.NoMap) reply other there found h k
updates_in t x y x' y' tenant reply other H K there found (Some flat) key value both h k =
    with_frames t x y x' y' tenant reply other H K there found _ _ _ _ fault.NoElement fault.BadShape _ (have_in x) (have_in y) both h k

pub alike-update : (t m key : ℕ) (value : List ℕ) (x y : System) (reply : Reply) (x' : System) (other : Reply) (y' : System) → GoesAlike t x y reply x' other y' (UpdateOf t m key value)
alike-update t m key value x y reply x' other y' = of_idle t x y x' y' reply other (UpdateOf t m key value) (λ z z' a r some h. h) (λ a there found.
    updates_in t x y x' y' (idle a) reply other _ _ there found (map_at a.maps m) key value (updates t x y x' y' (idle a) m key value reply other there found))

-- what a lookup in what may be a map answers
abbrev ValueOf : Option FlatMap → ℕ → System → Reply → System → Type 0
ValueOf map key x reply x' = MayLackMemory x reply x' ((bytes : List ℕ)
    × IsSomeAnd map (λ flat. (key < flat.shape.entries) × (bytes ≡ part_of flat.bytes (element_at flat.shape key) flat.shape.value_size)) × Answers x (Value bytes) reply x')

looks : (t : ℕ) (x y x' y' : System) (a b : Tenant) (reply other : Reply) → slice_get x.world t ≡ Some a → slice_get y.world t ≡ Some b → seen_tenant a ≡ seen_tenant b
    → (flat : FlatMap) (key : ℕ) (past : Bool) → RefusedOr (first_refusal ((past, fault.NoElement) ∷ [])) x reply x' (ValueOf (Some flat) key x reply x')
    → RefusedOr (first_refusal ((past, fault.NoElement) ∷ [])) y other y' (ValueOf (Some flat) key y other y') → Alike t reply other x' y'
looks t x y x' y' a b reply other there found same flat key true h k = alike-replied t x y x' y' a b (Refused fault.NoElement) reply other there found same h k
looks t x y x' y' a b reply other there found same flat key false (inl h) k = inl (ap is_scarce h.0)
looks t x y x' y' a b reply other there found same flat key false (inr h) (inl k) = inr (inl (ap is_scarce k.0))
looks t x y x' y' a b reply other there found same flat key false (inr (bytes, is, h)) (inr (others, are, k)) =
    alike-replied t x y x' y' a b (Value bytes) reply other there found same h (k.0 ∙ ap Value (are.1 ∙ sym is.1), k.1)

looks_in : (t : ℕ) (x y x' y' : System) (a b : Tenant) (reply other : Reply) → slice_get x.world t ≡ Some a → slice_get y.world t ≡ Some b → seen_tenant a ≡ seen_tenant b
    → (key : ℕ) (map : Option FlatMap) → RefusedOr (lookup_refusal_in map key) x reply x' (ValueOf map key x reply x') → RefusedOr (lookup_refusal_in map key) y other y' (ValueOf map key y other y')
    → Alike t reply other x' y'
looks_in t x y x' y' a b reply other there found same key None h k = alike-replied t x y x' y' a b (Refused fault.NoMap) reply other there found same h k
looks_in t x y x' y' a b reply other there found same key (Some flat) h k = looks t x y x' y' a b reply other there found same flat key (nat_le flat.shape.entries key) h k

pub alike-lookup : (t m key : ℕ) (x y : System) (reply : Reply) (x' : System) (other : Reply) (y' : System) → GoesAlike t x y reply x' other y' (LookupOf t m key)
alike-lookup t m key x y reply x' other y' agree = of_tenant t x y x' y' reply other (LookupOf t m key) agree (λ a b there found same h k.
    looks_in t x y x' y' a b reply other there found same key (map_at a.maps m) h (on_same a b same k))
  where
    on_same : (a b : Tenant) → seen_tenant a ≡ seen_tenant b → RefusedOr (lookup_refusal_in (map_at b.maps m) key) y other y' (ValueOf (map_at b.maps m) key y other y')
        → RefusedOr (lookup_refusal_in (map_at a.maps m) key) y other y' (ValueOf (map_at a.maps m) key y other y')
    on_same a b same k = subst (λ (s : Seen). RefusedOr (lookup_refusal_in (map_at s.maps m) key) y other y' (ValueOf (map_at s.maps m) key y other y')) (sym same) k
