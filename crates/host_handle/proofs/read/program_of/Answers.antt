use Rattle.std.proofs.Common.{◌≡◌, List, ℕ, map, ap, ◌∙◌, subst}
use Rattle.host_handle.specs.declared.structs.BpfHostShape.{BpfHostShape}
use Rattle.host_handle.specs.Texts.{RefusesLowering}
use Rattle.host_handle.specs.Written.{shape_for_c}
use Rattle.host_handle.proofs.Reasons.{of_text}
use Rattle.host_handle.proofs.read.program_of.Goals as goal

pub returns-in-Err-clause-refused : goal.returns-in-Err-clause-refused
returns-in-Err-clause-refused c =
    let object = c.in_ok-object.object in
    let size = c.args.context_size in
    let fault = c.in-Err.not_made.fault in
    let shapes : c.as_slice-3.result.now ≡ map shape_for_c object.maps.items = c.as_slice-3.ensures.value ∙ (c.in-Ok.ensures ∙ ap (map shape_for_c) c.as_slice.ensures.value) in
    let of_items = subst (λ (text : List ℕ). RefusesLowering text c.as_slice-3.result.now size fault) c.as_slice-2.ensures.value c.in-Err.ensures.refused in
    of_text size fault c.explained.result c.explained.ensures (c.is_context_size.ensures.0 c.if-not-is_context_size.false)
    (object.text.items, object.maps.items, c.in_ok-object.ensures.text, c.in_ok-object.ensures.maps, subst (λ (given : List BpfHostShape). RefusesLowering object.text.items given size fault) shapes of_items)
