use Rattle.isolation.proofs.Isolated.{tenants_are_isolated}
use Rattle.isolation.proofs.hosts.both.Goals as goal

pub returns-clause-isolated : goal.returns-clause-isolated
returns-clause-isolated c = λ t x y stands found agree same.
    let left = c.in_ok-replies.ensures.happen x stands in
    let right = c.in_ok-further.ensures.happen y found in (
      left.0,
      right.0,
      left.1,
      right.1,
      tenants_are_isolated t x y left.0 right.0 c.args.events.now c.args.others.now c.in_ok-replies.replies.items c.in_ok-further.further.items agree same left.2 right.2,
    )
