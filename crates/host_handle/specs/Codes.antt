-- What a call returns and writes of its answer. What the answer doesn't speak of is as it was.
use Rattle.std.specs.Prelude.{ℕ, List, length, ◌==◌, if◌then◌else◌, Bool, true, false, Option, Some, None, Result, Ok, Err}
use Rattle.host_types.specs.declared.fault.Fault.{Fault}
use Rattle.host_types.specs.declared.fault.Fault.TheVariants.{Program as Unaccepted, NoFrames}
use Rattle.host_types.specs.Refusals.{fault_number}
use Rattle.host_types.specs.declared.options.Opt.{Opt}
use Rattle.host_types.specs.declared.options.Opt.TheVariants.{PagesToScan, Run, UseZeroPages, MaxPageSharing}
use Rattle.host_core.specs.declared.reply.Reply.TheVariants.{Map, Program, Stepped, Ended, Value, Counters as AreCounters, Refused}
use Rattle.host_handle.specs.declared.answer.Answer.{Answer}
use Rattle.host_handle.specs.declared.answer.Answer.TheVariants.{Closed, Replied}
use Rattle.host_handle.specs.declared.structs.BpfHostCounters.{BpfHostCounters}
use Rattle.host_handle.specs.declared.structs.BpfHostRefused.{BpfHostRefused}
use Rattle.host_handle.specs.declared.structs.BpfHostRun.{BpfHostRun}

-- the number that a call returns
abbrev pub call_code : Answer → ℕ
call_code Closed = 100
call_code (Replied (Refused fault)) = fault_number fault
call_code (Replied reply) = 0

-- the number of a map that was made
abbrev pub new_map_number : Answer → ℕ → ℕ
new_map_number (Replied (Map number)) old = number
new_map_number answer old = old

-- the number of a program that was loaded
abbrev pub new_program_number : Answer → ℕ → ℕ
new_program_number (Replied (Program number)) old = number
new_program_number answer old = old

-- what a run returned that ended, and how many steps it made
abbrev pub run_written : Answer → BpfHostRun → BpfHostRun
run_written (Replied (Ended number steps)) old = record { ret = number; steps = steps }
run_written answer old = old

-- the counters that were answered
abbrev pub counters_written : Answer → BpfHostCounters → BpfHostCounters
counters_written (Replied (AreCounters counters)) old = record {
  full_scans = counters.full_scans;
  pages_shared = counters.pages_shared;
  pages_sharing = counters.pages_sharing;
  pages_unshared = counters.pages_unshared;
  pages_volatile = counters.pages_volatile;
  ksm_zero_pages = counters.ksm_zero_pages;
  stable_node_chains = counters.stable_node_chains;
  stable_node_dups = counters.stable_node_dups;
  frames_free = counters.frames_free;
}
counters_written answer old = old

-- the slot of a program's refusal, or the frames that are needed and that may be had
abbrev pub fault_written : Fault → BpfHostRefused → BpfHostRefused
fault_written (Unaccepted refusal) old = record old { slot = refusal.slot }
fault_written (NoFrames need have) old = record old { need = need; have = have }
fault_written fault old = old

-- what a refusal says beside its number
abbrev pub refused_written : Answer → BpfHostRefused → BpfHostRefused
refused_written (Replied (Refused fault)) old = fault_written fault old
refused_written answer old = old

-- the value that was read, where there is just room for it
abbrev pub value_copied : Answer → List ℕ → List ℕ
value_copied (Replied (Value bytes)) old = if length bytes == length old then bytes else old
value_copied answer old = old

-- the number that a lookup returns: 102 where the value has another length
abbrev pub lookup_code : Answer → List ℕ → ℕ
lookup_code (Replied (Value bytes)) old = if length bytes == length old then 0 else 102
lookup_code answer old = call_code answer

-- the number of a lookup that had so much room
abbrev pub copied_code : Result ℕ Fault → ℕ → ℕ
copied_code (Ok size) room = if size == room then 0 else 102
copied_code (Err fault) room = fault_number fault

-- whether a run ended, where its last step was no refusal
abbrev pub ended_written : Answer → Bool → Bool
ended_written (Replied (Ended number steps)) old = true
ended_written (Replied Stepped) old = false
ended_written answer old = old

-- the option with a number
abbrev pub option_of : ℕ → Option Opt
option_of number =
    if number == 0 then Some PagesToScan else (
    if number == 1 then Some Run else (
    if number == 2 then Some UseZeroPages else (
    if number == 3 then Some MaxPageSharing else None)))
