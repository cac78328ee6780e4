use Rattle.std.proofs.Common.{refl}
use Rattle.serving.specs.Served.{unserved}
use Rattle.serving.proofs.file.serve_document.Goals as goal

pub returns-in_ok-refuse-in-Err-clause-served : goal.returns-in_ok-refuse-in-Err-clause-served
returns-in_ok-refuse-in-Err-clause-served g c = unserved c.in-Err.fault c.in-Err.ensures.refused refl c.in_ok-refuse-in-Err.ensures.line
