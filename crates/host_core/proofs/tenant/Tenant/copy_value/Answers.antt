use Rattle.host_core.proofs.Serving.{lookup-copied}
use Rattle.host_core.proofs.tenant.Tenant.copy_value.Goals as goal

pub returns-clause-copied : goal.returns-clause-copied
returns-clause-copied c =
    let call = c.host_lookup_into.ensures in
    lookup-copied c.args.number c.args.self.now c.args.memory.now c.args.map c.args.key c.host_lookup_into.result c.args.value.now c.host_lookup_into.new.value call.allowed call.value call.first call.unchanged
