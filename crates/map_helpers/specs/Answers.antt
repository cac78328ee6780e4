-- The crate's errors and flags by their numbers.
use Rattle.std.specs.Prelude.{ℕ, ◌==◌, if◌then◌else◌, Option, Some, None}
use Rattle.host_types.specs.Helpers.{no_exist, exist, e2big, eexist, einval, failed}
use Rattle.map_helpers.specs.declared.answer.HelperError.{HelperError}
use Rattle.map_helpers.specs.declared.answer.HelperError.TheVariants.{TooBig, Exists, Invalid}
use Rattle.map_helpers.specs.declared.answer.UpdateFlag.{UpdateFlag}
use Rattle.map_helpers.specs.declared.answer.UpdateFlag.TheVariants.{Any, NoExist, Exist}

abbrev pub error_number : HelperError → ℕ
error_number TooBig = e2big
error_number Exists = eexist
error_number Invalid = einval

-- the answer of a helper that may refuse
abbrev pub refusal_answer : Option HelperError → ℕ
refusal_answer None = 0
refusal_answer (Some error) = failed (error_number error)

-- the flag with a number
abbrev pub flag_of : ℕ → Option UpdateFlag
flag_of flags =
    if flags == 0 then Some Any else (
    if flags == no_exist then Some NoExist else (
    if flags == exist then Some Exist else None))
