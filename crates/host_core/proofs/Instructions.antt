-- How many instructions there are before one of them.
use Rattle.std.proofs.Common.{◌≡◌, ◌+◌, ◌-◌, ◌<◌, ◌≤◌, ℕ, List, subst, arith}
use Rattle.bpf_decode.specs.Text.{instructions_before, instructions_of, slots_of, IsInstruction}
use Rattle.bpf_decode.proofs.Numbering.{instructions_past, instructions_grow}

-- an instruction is one of those of the text
pub instructions_before-within : (text : List ℕ) (slot : ℕ) → IsInstruction text slot → instructions_before text slot < instructions_of text
instructions_before-within text slot i =
    let past = instructions_past text slot i.begins in
    let later = instructions_grow text (slot + 1) (slots_of text - (slot + 1)) in
    let end : slot + 1 + (slots_of text - (slot + 1)) ≡ slots_of text = omega (arith, i.within) in
    let whole = subst (λ s. instructions_before text (slot + 1) ≤ instructions_before text s) end later in
    omega (arith, past, whole)
