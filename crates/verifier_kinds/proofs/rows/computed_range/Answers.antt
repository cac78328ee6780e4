use Rattle.std.proofs.Common.{to_z, of_z, w16}
use Rattle.verifier_kinds.proofs.Computed.{row_starts, row_is_normal}
use Rattle.verifier_kinds.proofs.rows.computed_range.Goals as goal

pub normalized-requires : goal.normalized-requires
normalized-requires c = rw c.row.ensures (row_starts c.args.code c.args.width (to_z w16 (of_z w16 c.args.offset)) c.args.a c.args.b c.requires.left c.requires.right c.requires.left_fits c.requires.right_fits)

pub returns-else-is_constant-clause-normal : goal.returns-else-is_constant-clause-normal
returns-else-is_constant-clause-normal c = rw (c.normalized.ensures, c.row.ensures) (row_is_normal c.args.code c.args.width (to_z w16 (of_z w16 c.args.offset)) c.args.a c.args.b c.requires.left c.requires.right c.requires.left_fits c.requires.right_fits)
