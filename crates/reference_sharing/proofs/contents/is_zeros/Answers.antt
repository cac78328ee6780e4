use Rattle.std.proofs.Common.{◌≡◌, bytes_eq, refl, ap, ◌∙◌}
use Rattle.host_types.specs.Pages.{zero_page}
use Rattle.host_types.proofs.Pages.{replicate-zero_page}
use Rattle.reference_sharing.proofs.contents.is_zeros.Goals as goal

pub returns : goal.returns
returns c =
    let zeros : c.as_slice.result.now ≡ zero_page = c.as_slice.ensures ∙ replicate-zero_page 4096 refl in
    c.are_same.ensures ∙ ap (bytes_eq c.args.bytes.now) zeros
