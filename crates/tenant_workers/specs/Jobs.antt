-- Jobs that threads do.
use Rattle.std.specs.Prelude.{◌≡◌, ◌⊎◌, ◌≤◌, ℕ, List, [], ◌∷◌, MatchResult, Result, vec_capacity}
use Rattle.std.specs.declared.thread.PromisedHandle.{PromisedHandle}
use Rattle.tenant_workers.specs.declared.threads.Becomes.{Becomes}
use Rattle.tenant_workers.specs.declared.threads.Room.{Room}

-- the lists are of one length, and what stands at one index of both is so related
abbrev pub AreEach : {X Y : Type 0} → (X → Y → Type 0) → List X → List Y → Type 0
AreEach R [] [] = Unit {0}
AreEach R (x ∷ xs) (y ∷ ys) = R x y × AreEach R xs ys
AreEach R xs ys = ⊥

-- what may come of a job: it was done, or it was refused
abbrev pub MayBecome : {T : Type 0} → (T → T → Type 0) → (T → T → Type 0) → T → T → Type 0
MayBecome done refused old new = done old new ⊎ refused old new

-- a job was begun: its thread promises what may come of it, or that came of it at once
abbrev pub IsJobBegun : {T : Type 0} → (T → T → Type 0) → T → Result (PromisedHandle T (Becomes T)) T → Type 0
IsJobBegun becomes job begun = MatchResult begun (λ thread. thread.promise.0.value ≡ job) (becomes job)

-- this may come of the job that was begun
abbrev pub IsJobDone : {T : Type 0} → (T → T → Type 0) → Result (PromisedHandle T (Becomes T)) T → T → Type 0
IsJobDone {T} becomes begun done = (job : T) → IsJobBegun becomes job begun → becomes job done

-- there is room for so many jobs, and none is begun or done
pub record HasRoomForJobs {T : Type 0} (jobs : ℕ) (room : Room T) : Type 0 where
  pub none_begun : room.begun.items ≡ []
  pub room_begun : jobs ≤ vec_capacity room.begun
  pub none_done : room.done.items ≡ []
  pub room_done : jobs ≤ vec_capacity room.done
