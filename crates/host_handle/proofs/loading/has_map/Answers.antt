use Rattle.std.proofs.Common.{◌≡◌, Option, Some, None, IsSome, is_some, false, arith}
use Rattle.host_handle.proofs.loading.has_map.Goals as goal

none_there : {X : Type 0} (found : Option X) → is_some found ≡ false → IsSome found → ⊥
none_there None none some = absurd (cc)
none_there (Some x) none some = absurd (cc)

pub returns : goal.returns
returns c = (λ is. absurd (cc), λ (m, less, some). absurd (none_there _ (c.loop-map.invariant m (omega (arith, less, c.loop-map-test.false))) some))
