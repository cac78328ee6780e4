use Rattle.std.proofs.Common.{◌≡◌, ◌+◌, ◌-◌, ◌++◌, ◌∷◌, [], length, slice_set, Some, None, ap, ◌∙◌, arith}
use Rattle.std.proofs.lemmas.List.{length-append}
use Rattle.verifier.specs.Known.{kept_in}
use Rattle.verifier.proofs.Numbers.{row_added}
use Rattle.verifier.proofs.known.KnownKinds.push.Goals as goal

pub returns : goal.returns
returns c =
    let known = c.self.inside in
    let after = c.number.new.kinds.items in
    let pushed = c.in_ok-push.ensures.items in
    let one_more : length c.push.new.self.items ≡ length known.rows.items + 1 = ap length pushed ∙ length-append known.rows.items (None ∷ []) in
    let here : length known.rows.items ≡ c.len-added.result - 1 = omega (arith, one_more, c.len-added.ensures) in
    let added = row_added known.kinds.items after 11 known.rows.items c.number.new.row c.args.registers.now (c.len-added.result - 1) c.in_ok-number.ensures.kept c.self.invariant.each c.in_ok-number.ensures.numbered here in
    ap (λ rows. kept_in after (slice_set rows (c.len-added.result - 1) (Some c.number.new.row))) pushed ∙ added ∙ ap (λ kept. kept ++ Some c.args.registers.now ∷ []) c.self.view_is
