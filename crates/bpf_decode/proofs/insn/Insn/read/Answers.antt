use Rattle.std.proofs.Common.{refl, rules}
use Rattle.std.proofs.lemmas.Int.{to_z-of_z}
use Rattle.std.specs.Int.{w16, w32}
use mir.Val.{SFits}
use Rattle.bpf_decode.specs.Text.{insn_at}
use Rattle.bpf_decode.proofs.insn.Insn.read.Goals as goal

pub returns : goal.returns
unfolding insn_at
returns c =
    let offset : SFits w16 c.i16_at.result = search rules in
    let imm : SFits w32 c.i32_at.result = search rules in
    simp to_z-of_z (rw (c.i16_at.ensures, c.i32_at.ensures, c.next_imm_at.ensures) refl)
