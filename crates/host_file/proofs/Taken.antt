-- Commands that are looked at one after the other.
use Rattle.std.proofs.Common.{◌+◌, ◌<◌, ◌≤◌, ℕ, List, length, take, slice_index_or, subst, All}
use Rattle.std.proofs.lemmas.List.{take_all}
use Rattle.std.proofs.lemmas.List.Elements.{All-more}
use Rattle.host_file.specs.declared.command.Command.{Command}
use Rattle.host_file.specs.Served.{IsServedCommand}

pub one_more_served : (tenants : ℕ) (commands : List Command) (number : ℕ) (d : Command) → number < length commands
    → All (IsServedCommand tenants) (take number commands) → IsServedCommand tenants (slice_index_or commands number d)
    → All (IsServedCommand tenants) (take (number + 1) commands)
one_more_served tenants commands number d there served one = All-more (IsServedCommand tenants) commands number d there served one

pub all_served : (tenants : ℕ) (commands : List Command) (number : ℕ) → length commands ≤ number
    → All (IsServedCommand tenants) (take number commands) → All (IsServedCommand tenants) commands
all_served tenants commands number past served = subst (All (IsServedCommand tenants)) (take_all number commands past) served
