use Rattle.std.proofs.Common.{◌≡◌, sym, ap, ◌∙◌, List, Option, true, false, slice_index_or, None}
use Rattle.host_types.specs.declared.shape.Shape.{Shape}
use Rattle.verifier.specs.Named.{names, named_shapes}
use Rattle.verifier.proofs.NamedMaps.{named_shape}
use Rattle.tenant_runs.proofs.whole_run.named_shape.Goals as goal

pub returns-then-names : goal.returns-then-names
returns-then-names c =
    let p = c.args.program.now.subject in
    let is : names p.text c.args.map ≡ true = sym c.names.ensures ∙ c.if-names.true in
    let named : slice_index_or (named_shapes p) c.args.map None ≡ slice_index_or p.shapes c.args.map None = rw is at (named_shape p c.args.map) in
    c.shape_at.ensures ∙ ap (λ (shapes : List (Option Shape)). slice_index_or shapes c.args.map None) c.shapes.ensures ∙ sym named

pub returns-else-names : goal.returns-else-names
returns-else-names c =
    let p = c.args.program.now.subject in
    let is : names p.text c.args.map ≡ false = sym c.names.ensures ∙ c.if-names.false in
    sym (rw is at (named_shape p c.args.map))
