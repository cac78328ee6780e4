-- Jobs that are begun and ended one after the other.
use Rattle.std.proofs.Common.{◌≡◌, suc, List, [], ◌∷◌, ◌++◌, length, map, append_assoc, append-nil, ap, refl, subst, Result, Ok, Err, arith}
use Rattle.std.specs.declared.thread.PromisedHandle.{PromisedHandle}
use Rattle.tenant_workers.specs.declared.threads.Becomes.{Becomes}
use Rattle.tenant_workers.specs.Jobs.{AreEach, IsJobBegun, IsJobDone}

-- whatever is made of the rest is to follow what is made
abbrev pub Awaits : {X Y : Type 0} → (X → Y → Type 0) → List X → List X → List Y → Type 0
Awaits {X} {Y} R all rest made = (later : List Y) → AreEach R rest later → AreEach R all (made ++ later)

-- nothing is made yet
pub awaits-all : {X Y : Type 0} (R : X → Y → Type 0) (all rest : List X) (made : List Y) → rest ≡ all → made ≡ [] → Awaits R all rest made
awaits-all R all rest made same none later each = rw (none, ← same) each

-- one more is made
pub awaits-next : {X Y : Type 0} (R : X → Y → Type 0) (all rest after : List X) (x : X) (made : List Y) (y : Y)
    → rest ≡ x ∷ after → R x y → Awaits R all rest made → Awaits R all after (made ++ y ∷ [])
awaits-next R all rest after x made y is one kept later each =
    rw (append_assoc made (y ∷ []) later) (kept (y ∷ later) (rw is (one, each)))

-- all is made
pub awaits-none : {X Y : Type 0} (R : X → Y → Type 0) (all rest : List X) (made : List Y) → length rest ≡ 0 → Awaits R all rest made → AreEach R all made
awaits-none R all [] made none kept = rw (append-nil) at (kept [] tt)
awaits-none R all (x ∷ rest) made none kept = absurd (omega (arith, none))

pub each-length : {X Y : Type 0} (R : X → Y → Type 0) (xs : List X) (ys : List Y) → AreEach R xs ys → length ys ≡ length xs
each-length R [] [] each = refl
each-length R [] (y ∷ ys) each = absurd each
each-length R (x ∷ xs) [] each = absurd each
each-length R (x ∷ xs) (y ∷ ys) (one, rest) = ap suc (each-length R xs ys rest)

-- what may come of the jobs came of them
pub each-ended : {T : Type 0} (becomes : T → T → Type 0) (jobs : List T) (begun : List (Result (PromisedHandle T (Becomes T)) T)) (done : List T)
    → AreEach (IsJobBegun becomes) jobs begun → AreEach (IsJobDone becomes) begun done → AreEach becomes jobs done
each-ended becomes [] [] [] first second = tt
each-ended becomes [] [] (z ∷ zs) first second = absurd second
each-ended becomes [] (y ∷ ys) zs first second = absurd first
each-ended becomes (x ∷ xs) [] zs first second = absurd first
each-ended becomes (x ∷ xs) (y ∷ ys) [] first second = absurd second
each-ended becomes (x ∷ xs) (y ∷ ys) (z ∷ zs) (one, rest) (two, more) = (two x one, each-ended becomes xs ys zs rest more)

-- a thread kept its promise
pub kept_ended : {T : Type 0} (becomes : T → T → Type 0) (thread : PromisedHandle T (Becomes T)) (done : T) → becomes thread.promise.0.value done → IsJobDone becomes (Ok thread) done
kept_ended becomes thread done kept job is = subst (λ was. becomes was done) is kept

-- a job that was refused
pub refused_ended : {T : Type 0} (becomes : T → T → Type 0) (done : T) → IsJobDone becomes (Err done) done
refused_ended becomes done job is = is

-- what is reported of what elements are mapped to
pub each-mapped : {X Y : Type 0} (f : X → Y) (R : Y → Y → Type 0) (xs ys : List X) → AreEach (λ x y. R (f x) (f y)) xs ys → AreEach R (map f xs) (map f ys)
each-mapped f R [] [] each = tt
each-mapped f R [] (y ∷ ys) each = absurd each
each-mapped f R (x ∷ xs) [] each = absurd each
each-mapped f R (x ∷ xs) (y ∷ ys) (one, rest) = (one, each-mapped f R xs ys rest)
