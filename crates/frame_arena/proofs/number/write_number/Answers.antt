use Rattle.std.proofs.Common.{◌≡◌, ◌∙◌, length, arith}
use Rattle.frame_arena.proofs.Numbers.{written-whole, bytes_of-one}
use Rattle.host_types.proofs.LittleEndian.{bytes_of-two, bytes_of-four}
use Rattle.frame_arena.proofs.number.write_number.Goals as goal

pub returns-in-1 : goal.returns-in-1
returns-in-1 c = rw c.in-1.is (bytes_of-one c.args.bytes.now c.args.value c.in-1.is)

pub returns-in-2 : goal.returns-in-2
returns-in-2 c = rw c.in-2.is (c.write_u16.ensures ∙ written-whole 2 _ c.args.bytes.now c.in-2.is ∙ bytes_of-two c.args.value)

pub returns-in-4 : goal.returns-in-4
returns-in-4 c = rw c.in-4.is (c.write_u32.ensures ∙ written-whole 4 _ c.args.bytes.now c.in-4.is ∙ bytes_of-four c.args.value)

pub returns-in_default : goal.returns-in_default
returns-in_default c = let e : length c.args.bytes.now ≡ 8 = grind (arith, c.requires, c.in_default) in rw e (c.write_u64.ensures ∙ written-whole 8 c.args.value c.args.bytes.now e)
