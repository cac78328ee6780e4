use Rattle.std.proofs.Common.{◌≡◌, ◌∙◌, ℕ, List, refl, sym, subst, length, arith}
use Rattle.std.proofs.lemmas.List.{with_items_is}
use Rattle.object_file.proofs.Standing.{text_filled}
use Rattle.object_file.specs.Texts.{IsFilled}
use Rattle.object_file.proofs.text.Text.fill_in.Goals as goal

pub returns-clause-kept : goal.returns-clause-kept
returns-clause-kept c = λ file stands.
    let at_bytes = rw c.as_mut_slice.ensures.value at c.fill.ensures in
    let same = with_items_is c.args.self.now.bytes c.fill.new.text (c.fill.ensures.same_length ∙ c.as_mut_slice.ensures.len) in
    let P : List ℕ → Type 0 = λ xs. IsFilled c.args.self.now.bytes.items xs c.args.at c.args.with in
    text_filled file c.args.self.now _ c.args.at c.args.with
    (subst P (sym same) at_bytes) refl c.in_ok-push.ensures.items stands
