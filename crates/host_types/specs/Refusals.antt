-- The numbers and names of the refusals, as docs/HOST.md lists them.
use Rattle.std.specs.Prelude.{ℕ, nat_le, List, [], ◌++◌, if◌then◌else◌, ◌==◌, codes, decimal}
use Rattle.host_types.specs.Rules.{bad_length, unknown_opcode, bad_field, bad_register, cut_wide, back_jump, jump_out, falls_off, unset_register, wrong_kind, outside_context, outside_stack, unset_stack, outside_map, misaligned, null_not_checked, frame_written, unknown_helper, unknown_map, pointer_leaks}
use Rattle.host_types.specs.declared.fault.Fault.{Fault}
use Rattle.host_types.specs.declared.fault.Fault.TheVariants.{Program, NoFrames, TooManyMaps, BadShape, NoMap, NoElement, Busy, NoRun, NoProgram, BadContext, BadOption, OutOfMemory, BadTenant, InUse, PagesShared, TooManyPrograms}

-- the word that is printed for a rule's number; another number is that of want of memory
abbrev pub rule_name : ℕ → List ℕ
rule_name n =
    if n == bad_length then codes "BadLength" else (
    if n == unknown_opcode then codes "UnknownOpcode" else (
    if n == bad_field then codes "BadField" else (
    if n == bad_register then codes "BadRegister" else (
    if n == cut_wide then codes "CutWide" else (
    if n == back_jump then codes "BackJump" else (
    if n == jump_out then codes "JumpOut" else (
    if n == falls_off then codes "FallsOff" else (
    if n == unset_register then codes "UnsetRegister" else (
    if n == wrong_kind then codes "WrongKind" else (
    if n == outside_context then codes "OutsideContext" else (
    if n == outside_stack then codes "OutsideStack" else (
    if n == unset_stack then codes "UnsetStack" else (
    if n == outside_map then codes "OutsideMap" else (
    if n == misaligned then codes "Misaligned" else (
    if n == null_not_checked then codes "NullNotChecked" else (
    if n == frame_written then codes "FrameWritten" else (
    if n == unknown_helper then codes "UnknownHelper" else (
    if n == unknown_map then codes "UnknownMap" else (
    if n == pointer_leaks then codes "PointerLeaks" else codes "OutOfMemory")))))))))))))))))))

abbrev pub fault_number : Fault → ℕ
fault_number (Program refused) = refused.number
fault_number (NoFrames need have) = 31
fault_number TooManyMaps = 32
fault_number BadShape = 33
fault_number NoMap = 34
fault_number NoElement = 35
fault_number Busy = 36
fault_number NoRun = 37
fault_number NoProgram = 38
fault_number BadContext = 39
fault_number BadOption = 40
fault_number OutOfMemory = 41
fault_number BadTenant = 42
fault_number InUse = 43
fault_number PagesShared = 44
fault_number TooManyPrograms = 45

abbrev pub fault_name : Fault → List ℕ
fault_name (Program refused) = rule_name refused.number
fault_name (NoFrames need have) = codes "NoFrames"
fault_name TooManyMaps = codes "TooManyMaps"
fault_name BadShape = codes "BadShape"
fault_name NoMap = codes "NoMap"
fault_name NoElement = codes "NoElement"
fault_name Busy = codes "Busy"
fault_name NoRun = codes "NoRun"
fault_name NoProgram = codes "NoProgram"
fault_name BadContext = codes "BadContext"
fault_name BadOption = codes "BadOption"
fault_name OutOfMemory = codes "OutOfMemory"
fault_name BadTenant = codes "BadTenant"
fault_name InUse = codes "InUse"
fault_name PagesShared = codes "PagesShared"
fault_name TooManyPrograms = codes "TooManyPrograms"

-- the slot of a program's refusal, or the frames that were needed and there
abbrev pub detail_text : Fault → List ℕ
detail_text (Program refused) = if nat_le refused.number pointer_leaks then codes " at " ++ decimal refused.slot else []
detail_text (NoFrames need have) = codes " need " ++ decimal need ++ codes " have " ++ decimal have
detail_text fault = []

-- a refusal as it is printed: its number, its name and its detail
abbrev pub refusal_text : Fault → List ℕ
refusal_text fault = codes "refused " ++ decimal (fault_number fault) ++ codes " " ++ fault_name fault ++ detail_text fault
