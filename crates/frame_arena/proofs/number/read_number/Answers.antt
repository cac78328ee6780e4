use Rattle.std.proofs.Common.{◌≡◌, ◌∙◌, length, arith}
use Rattle.frame_arena.proofs.Numbers.{little_number-all, number_of-one}
use Rattle.frame_arena.proofs.number.read_number.Goals as goal

pub returns-in-1 : goal.returns-in-1
returns-in-1 c = c.from.ensures ∙ number_of-one c.args.bytes.now c.in-1.is

pub returns-in-2 : goal.returns-in-2
returns-in-2 c = c.from-in-2.ensures ∙ c.read_u16.ensures ∙ little_number-all 2 c.args.bytes.now c.in-2.is

pub returns-in-4 : goal.returns-in-4
returns-in-4 c = c.from-in-4.ensures ∙ c.read_u32.ensures ∙ little_number-all 4 c.args.bytes.now c.in-4.is

pub returns-in_default : goal.returns-in_default
returns-in_default c = let e : length c.args.bytes.now ≡ 8 = grind (arith, c.requires, c.in_default) in c.read_u64.ensures ∙ little_number-all 8 c.args.bytes.now e
