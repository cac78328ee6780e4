use Rattle.std.proofs.Common.{◌∙◌, ap, sym, option_copied}
use Rattle.reference_sharing.specs.View.{plain_contents}
use Rattle.reference_sharing.proofs.Lists.{first_bytes, no_bytes}
use Rattle.reference_sharing.proofs.contents.group_bytes.Goals as goal

pub returns-in-Some : goal.returns-in-Some
returns-in-Some c =
    c.bytes_at.ensures ∙ sym (first_bytes (plain_contents c.args.contents.now) c.args.group.now _ (sym c.first.ensures.value ∙ ap option_copied c.in-Some.is))

pub returns-in-None : goal.returns-in-None
returns-in-None c = sym (no_bytes (plain_contents c.args.contents.now) c.args.group.now (sym c.first.ensures.value ∙ ap option_copied c.in-None.is))
