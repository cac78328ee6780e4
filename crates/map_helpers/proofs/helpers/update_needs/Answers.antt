use Rattle.std.proofs.Common.{◌≡◌, ◌∙◌, ◌≤◌, Some, None, is_none, sym, ap, subst}
use Rattle.host_types.specs.declared.shape.Shape.{Shape}
use Rattle.host_types.specs.Helpers.{update_charge}
use Rattle.host_types.specs.Memory.{map_at}
use Rattle.page_table.specs.State.{part}
use Rattle.map_helpers.proofs.Charges.{cost-charged}
use Rattle.map_helpers.proofs.Updates.{shape_in, cost-none, cost-refused, cost-written, of_shape, shape-valid}
use Rattle.map_helpers.proofs.helpers.update_needs.Goals as goal

pub returns-in_default-clause-needs : goal.returns-in_default-clause-needs
returns-in_default-clause-needs c =
    let none : shape_in (map_at (part c.args.memory.now c.args.tenant).maps c.args.map) ≡ None = sym c.shape.ensures.shape ∙ c.in_default.is in
    sym (cost-none (record { value_size = 0; entries = 0 }) c.args.memory.now.sharing c.args.tenant c.args.map c.args.key c.args.flags (map_at (part c.args.memory.now c.args.tenant).maps c.args.map) none)

pub returns-in-Some-update_error-clause-needs : goal.returns-in-Some-update_error-clause-needs
returns-in-Some-update_error-clause-needs c =
    let there : shape_in (map_at (part c.args.memory.now c.args.tenant).maps c.args.map) ≡ Some c.in-Some.shape = sym c.shape.ensures.shape ∙ c.in-Some.is in
    let refused = c.update_error.ensures.refused ∙ ap is_none c.in-Some-update_error.is in
    sym (cost-refused c.in-Some.shape c.args.memory.now.sharing c.args.tenant c.args.map c.args.key c.args.flags (map_at (part c.args.memory.now c.args.tenant).maps c.args.map) there refused)

pub returns-in-None-clause-needs : goal.returns-in-None-clause-needs
returns-in-None-clause-needs c =
    let there : shape_in (map_at (part c.args.memory.now c.args.tenant).maps c.args.map) ≡ Some c.in-Some.shape = sym c.shape.ensures.shape ∙ c.in-Some.is in
    let answered = c.update_error.ensures.refused ∙ ap is_none c.in-None.is in
    let cost = cost-written c.in-Some.shape c.args.memory.now.sharing c.args.tenant c.args.map c.args.key c.args.flags (map_at (part c.args.memory.now c.args.tenant).maps c.args.map) there answered in
    rw (c.element_at.ensures.offset) at c.needs.ensures.cost ∙ sym cost

pub returns-in-None-clause-charged : goal.returns-in-None-clause-charged
returns-in-None-clause-charged c =
    let there : shape_in (map_at (part c.args.memory.now c.args.tenant).maps c.args.map) ≡ Some c.in-Some.shape = sym c.shape.ensures.shape ∙ c.in-Some.is in
    let valid = shape-valid c.in-Some.shape (map_at (part c.args.memory.now c.args.tenant).maps c.args.map) there c.shape.ensures.valid in
    let charged = cost-charged c.args.memory.now.sharing c.args.tenant c.args.map c.args.key c.in-Some.shape valid in
    let few : c.needs.result ≤ update_charge c.in-Some.shape = subst (λ n. n ≤ update_charge c.in-Some.shape) (sym (rw (c.element_at.ensures.offset) at c.needs.ensures.cost)) charged in
    of_shape (λ (shape : Shape). c.needs.result ≤ update_charge shape) c.in-Some.shape (map_at (part c.args.memory.now c.args.tenant).maps c.args.map) there few
