-- Steps of an open run one by one.
use Rattle.std.proofs.Common.{◌≡◌, ◌≢◌, ◌⊎◌, inl, inr, ℕ, zero, suc, ◌<◌, [], ◌∷◌, ◌++◌, replicate, Option, Some, None, unwrap_or, refl, arith}
use Rattle.host_types.specs.declared.event.Event.TheVariants.{Step}
use Rattle.host_core.specs.declared.reply.Reply.{Reply}
use Rattle.host_core.specs.declared.reply.Reply.TheVariants.{Stepped}
use Rattle.host_core.specs.World.{System}
use Rattle.host_core.specs.Happens.{AllHappen, StepsHappen}
use Rattle.library_calls.specs.Calls.{Serves}

-- steps up to a limit: the run goes on after each but the last, to which the reply is another one
abbrev pub Walks : ℕ → ℕ → Reply → System → System → Type 0
Walks t zero reply x x' = (reply ≡ Stepped) × (x' ≡ x)
Walks t (suc limit) reply x x' =
    (next : System) × ((made : Reply) × (Serves (Step t) made x next
    × (((made ≢ Stepped) × (reply ≡ made) × (x' ≡ next)) ⊎ ((made ≡ Stepped) × Walks t limit reply next x'))))

-- as many steps as the limit says
all_steps : (t limit : ℕ) (x x' : System) → AllHappen x (replicate limit (Step t)) (replicate limit Stepped) x' → Walks t limit Stepped x x'
all_steps t zero x x' h = (refl, h)
all_steps t (suc limit) x x' (next, happens, promised, covered, rest) = (next, (Stepped, ((happens, promised, covered), inr (refl, all_steps t limit next x' rest))))

-- fewer, with another reply to the last one
fewer_steps : (t n limit : ℕ) (last : Reply) (x x' : System) → n < limit → last ≢ Stepped
    → AllHappen x (replicate n (Step t) ++ Step t ∷ []) (replicate n Stepped ++ last ∷ []) x' → Walks t limit last x x'
fewer_steps t n zero last x x' few other h = absurd (omega (arith, few))
fewer_steps t zero (suc limit) last x x' few other (next, happens, promised, covered, end) = (next, (last, ((happens, promised, covered), inl (other, refl, end))))
fewer_steps t (suc n) (suc limit) last x x' few other (next, happens, promised, covered, rest) =
    (next, (Stepped, ((happens, promised, covered), inr (refl, fewer_steps t n limit last next x' (omega (arith, few)) other rest))))

pub steps_walk : (t limit : ℕ) (last : Option Reply) (x x' : System) → StepsHappen x t limit last x' → Walks t limit (unwrap_or last Stepped) x x'
steps_walk t limit None x x' (events, replies, are, h) = all_steps t limit x x' (rw (are.0, are.1) at h)
steps_walk t limit (Some last) x x' (events, replies, (n, few, other, is, also), h) = fewer_steps t n limit last x x' few other (rw (is, also) at h)
