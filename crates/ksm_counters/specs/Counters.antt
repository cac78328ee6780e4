-- All counters at once, and their lines.
use Rattle.std.specs.Prelude.{ℕ, List, [], ◌∷◌, ◌++◌, codes, decimal}
use Rattle.host_types.specs.Counters.{pages_shared, pages_sharing, pages_unshared, pages_volatile, stable_node_chains, stable_node_dups}
use Rattle.host_types.specs.Sharing.{Sharing, frames_free}
use Rattle.host_types.specs.Unmerging.{zero_pages}
use Rattle.host_types.specs.Visits.{Contents}
use Rattle.ksm_counters.specs.declared.numbers.Counters.{Counters}

-- the counters of a state of sharing, of the pages' bytes and of so many frames
abbrev pub counters_of : ℕ → Contents → Sharing → Counters
counters_of frames contents sharing =
    record {
      pages_shared = pages_shared sharing;
      pages_sharing = pages_sharing sharing;
      pages_unshared = pages_unshared sharing;
      pages_volatile = pages_volatile sharing;
      full_scans = sharing.full_scans;
      ksm_zero_pages = zero_pages sharing;
      stable_node_chains = stable_node_chains contents sharing;
      stable_node_dups = stable_node_dups contents sharing;
      frames_free = frames_free frames sharing;
    }

-- the line of a counter, and what comes after it
abbrev pub line_before : List ℕ → ℕ → List ℕ → List ℕ
line_before name value rest = name ++ codes " " ++ decimal value ++ 10 ∷ rest

-- a line for each counter
abbrev pub counters_text : Counters → List ℕ
counters_text counters =
    line_before (codes "pages_shared") counters.pages_shared (
    line_before (codes "pages_sharing") counters.pages_sharing (
    line_before (codes "pages_unshared") counters.pages_unshared (
    line_before (codes "pages_volatile") counters.pages_volatile (
    line_before (codes "full_scans") counters.full_scans (
    line_before (codes "ksm_zero_pages") counters.ksm_zero_pages (
    line_before (codes "stable_node_chains") counters.stable_node_chains (
    line_before (codes "stable_node_dups") counters.stable_node_dups (
    line_before (codes "frames_free") counters.frames_free []))))))))
