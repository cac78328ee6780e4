-- The numbers of the refusals that a host or a `check` can answer. No other number is a refusal's.
use Rattle.std.specs.Prelude.{ℕ, Bool, ◌==◌, ◌||◌}
use Rattle.host_types.specs.Rules.{bad_length, unknown_opcode, bad_field, bad_register, cut_wide, back_jump, jump_out, falls_off, unset_register, wrong_kind, null_not_checked, frame_written, pointer_leaks, outside_context, outside_stack, unset_stack, outside_map, misaligned, unknown_helper, unknown_map}

-- what is wrong with an instruction alone, or with the text's length
abbrev pub is_of_text : ℕ → Bool
is_of_text n = n == bad_length || (n == unknown_opcode || (n == bad_field || (n == bad_register || n == cut_wide)))

-- where an instruction may lead
abbrev pub is_of_jump : ℕ → Bool
is_of_jump n = n == back_jump || (n == jump_out || n == falls_off)

-- which registers and kinds of values an instruction may take
abbrev pub is_of_value : ℕ → Bool
is_of_value n = n == unset_register || (n == wrong_kind || (n == null_not_checked || (n == frame_written || n == pointer_leaks)))

-- which bytes an instruction may read and write
abbrev pub is_of_access : ℕ → Bool
is_of_access n = n == outside_context || (n == outside_stack || (n == unset_stack || (n == outside_map || n == misaligned)))

-- which helpers and maps there are
abbrev pub is_of_call : ℕ → Bool
is_of_call n = n == unknown_helper || n == unknown_map

-- what the shapes of a host and of maps, options, sizes and memory may be
abbrev pub is_of_limits : ℕ → Bool
is_of_limits n = n == 32 || (n == 33 || (n == 39 || (n == 40 || n == 41)))

-- which frames are free, and which pages share one
abbrev pub is_of_frames : ℕ → Bool
is_of_frames n = n == 31 || n == 44

-- which tenants, maps, elements, programs and runs there are
abbrev pub is_of_tenants : ℕ → Bool
is_of_tenants n =
    n == 34 || (n == 35 || (n == 36 || (n == 37 || (n == 38 || (n == 42 || (n == 43 || n == 45))))))

-- a refusal by this number can be answered
abbrev pub is_answered : ℕ → Bool
is_answered n =
    is_of_text n || (is_of_jump n || (is_of_value n || (is_of_access n
    || (is_of_call n || (is_of_limits n || (is_of_frames n || is_of_tenants n))))))
