-- The rules that a program may break, by the numbers of their refusals; docs/VERIFIER.md says what each is.
use Rattle.std.specs.Prelude.{ℕ}

abbrev pub bad_length : ℕ
bad_length = 1

abbrev pub unknown_opcode : ℕ
unknown_opcode = 2

abbrev pub bad_field : ℕ
bad_field = 3

abbrev pub bad_register : ℕ
bad_register = 4

abbrev pub cut_wide : ℕ
cut_wide = 5

abbrev pub back_jump : ℕ
back_jump = 11

abbrev pub jump_out : ℕ
jump_out = 12

abbrev pub falls_off : ℕ
falls_off = 13

abbrev pub unset_register : ℕ
unset_register = 14

abbrev pub wrong_kind : ℕ
wrong_kind = 15

abbrev pub outside_context : ℕ
outside_context = 16

abbrev pub outside_stack : ℕ
outside_stack = 17

abbrev pub unset_stack : ℕ
unset_stack = 18

abbrev pub outside_map : ℕ
outside_map = 19

abbrev pub misaligned : ℕ
misaligned = 20

abbrev pub null_not_checked : ℕ
null_not_checked = 21

abbrev pub frame_written : ℕ
frame_written = 22

abbrev pub unknown_helper : ℕ
unknown_helper = 23

abbrev pub unknown_map : ℕ
unknown_map = 24

abbrev pub pointer_leaks : ℕ
pointer_leaks = 25
