use Rattle.std.proofs.Common.{◌≡◌, ◌+◌, ◌*◌, nat_lt, true, subst, refl, arith}
use Rattle.std.proofs.lemmas.Bool.Decides.{nat_tests}
use Rattle.host_types.specs.Helpers.{lookup_answer}
use Rattle.map_helpers.specs.Updates.{LeadsToElement}
use Rattle.map_helpers.proofs.Elements.{element_found}
use Rattle.map_helpers.proofs.helpers.lookup.Goals as goal

answer : (c : goal.After-from-2) → lookup_answer c.args.shape c.args.map c.args.key ≡ (16 + c.from.result) * 4294967296 + c.from-2.result
unfolding lookup_answer
answer c =
    let counted : nat_lt c.args.key c.args.shape.entries ≡ true = grind (arith, nat_tests) in
    rw (counted, c.from.ensures, c.from-2.ensures, c.element_at.ensures.offset) refl

pub returns-clause-element : goal.returns-clause-element
returns-clause-element c there =
    subst (LeadsToElement c.args.shape c.args.map c.args.key) (answer c)
    (λ memory at size is some fits. element_found c.args.shape c.args.map c.args.key memory at size c.requires.shape is there some fits)
