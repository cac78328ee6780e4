-- The counters of merging, by the names of Linux's KSM manual; their exact values are this project's own.
use Rattle.std.specs.Prelude.{ℕ, ◌+◌, ◌-◌, ◌==◌, nat_lt, bytes_eq, if◌then◌else◌, List, [], ◌∷◌, ◌++◌, length, map, sum_by, Option}
use Rattle.host_types.specs.declared.status.Status.{Status}
use Rattle.host_types.specs.declared.status.Status.TheVariants.{Volatile, Waiting}
use Rattle.host_types.specs.Sharing.{Sharing, PageState}
use Rattle.host_types.specs.Unmerging.{members, counted_by}
use Rattle.host_types.specs.Visits.{Contents, group_bytes}

-- one for a page that waits for another one of its bytes
abbrev pub one_if_waiting : Status → ℕ
one_if_waiting Waiting = 1
one_if_waiting other = 0

-- one for a page that changed since it was visited last
abbrev pub one_if_volatile : Status → ℕ
one_if_volatile Volatile = 1
one_if_volatile other = 0

abbrev pub unshared_at : Option PageState → ℕ
unshared_at page = counted_by one_if_waiting page

abbrev pub volatile_at : Option PageState → ℕ
volatile_at page = counted_by one_if_volatile page

-- how many frames pages share
abbrev pub pages_shared : Sharing → ℕ
pages_shared sharing = length sharing.groups

-- how many more pages share them
unfoldable pub pages_sharing : Sharing → ℕ
pages_sharing sharing = members sharing - length sharing.groups

-- how many pages have bytes of their own, and wait
unfoldable pub pages_unshared : Sharing → ℕ
pages_unshared sharing = sum_by unshared_at sharing.pages

-- how many pages change too fast to be merged
unfoldable pub pages_volatile : Sharing → ℕ
pages_volatile sharing = sum_by volatile_at sharing.pages

-- the bytes of each group's pages, in order of creation
unfoldable pub group_contents : Contents → Sharing → List (List ℕ)
group_contents contents sharing = map (group_bytes contents) sharing.groups

-- how often bytes occur among some contents
unfoldable pub times_among : List ℕ → List (List ℕ) → ℕ
times_among bytes all = sum_by (λ other. if bytes_eq other bytes then 1 else 0) all

-- how many of some contents occur twice or more among all
unfoldable pub repeated_among : List (List ℕ) → List (List ℕ) → ℕ
repeated_among all some = sum_by (λ bytes. if nat_lt 1 (times_among bytes all) then 1 else 0) some

-- how many of some contents, which stand after others, occur there just once: each is the second of its bytes
unfoldable pub seconds_following : List (List ℕ) → List (List ℕ) → ℕ
seconds_following before [] = 0
seconds_following before (bytes ∷ following) =
    (if times_among bytes before == 1 then 1 else 0) + seconds_following (before ++ bytes ∷ []) following

-- how many contents have two groups or more: so many groups are the second one of their bytes
abbrev pub stable_node_chains : Contents → Sharing → ℕ
stable_node_chains contents sharing = seconds_following [] (group_contents contents sharing)

-- how many groups such contents have
abbrev pub stable_node_dups : Contents → Sharing → ℕ
stable_node_dups contents sharing = repeated_among (group_contents contents sharing) (group_contents contents sharing)
