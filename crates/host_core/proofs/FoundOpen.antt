-- A run that begins where it was fulfilled.
use Rattle.std.proofs.Common.{sym, refl, subst, add-zero}
use Rattle.interp.specs.Machine.{Next}
use Rattle.host_core.specs.World.{Leads, FoundIsOpen}

pub found_is_open : FoundIsOpen
found_is_open r begins few = record {
  reached = subst (λ b. Leads r.program.text b r.steps (Next r.state)) (sym begins) (0, add-zero r.steps, refl);
  steps = few;
}
