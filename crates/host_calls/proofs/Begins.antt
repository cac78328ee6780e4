-- Why a run doesn't begin: what admission says of the memory, said of the program and of the frames reported.
use Rattle.host_types.specs.declared.fault.Fault.{Fault}
use Rattle.host_types.specs.declared.fault.Fault.TheVariants.{NoFrames}
use Rattle.host_types.specs.Tenant.{TenantPart}
use Rattle.page_table.specs.State.{MemoryState}
use Rattle.verifier.specs.Verified.{Accepted}
use Rattle.admission.specs.Refusals.{RefusesFrames}
use Rattle.admission.specs.Reserve.{needed_from}
use Rattle.host_calls.specs.Calls.{NamesHave}
use Rattle.host_calls.specs.Programs.{RefusesBegin}

module _ (memory : MemoryState) (v : Accepted) (owned : TenantPart) where
  pub begin_refused : (fault : Fault) → RefusesFrames memory (needed_from v owned 0) fault → RefusesBegin v owned fault
  begin_refused (NoFrames need have) (is_need, is_have, less) = (is_need, less)
  begin_refused fault impossible = absurd impossible

  pub begin_answered : (fault : Fault) → RefusesFrames memory (needed_from v owned 0) fault → NamesHave memory fault
  begin_answered (NoFrames need have) (is_need, is_have, less) = is_have
  begin_answered fault impossible = absurd impossible
