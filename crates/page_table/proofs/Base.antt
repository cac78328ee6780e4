-- The words and lemmas, of the standard library, of the crates below and of this crate, that its proofs use.
pub use Rattle.std.proofs.Common.{◌≡◌, ◌≢◌, ◌∙◌, ⊎_elim, ℕ, zero, suc, ◌+◌, ◌<◌, ◌≤◌, ◌==◌, Bool, false, if◌then◌else◌, List, [], ◌∷◌, length, slice_index_or, slice_set, Some, None, option_map, refl, sym, ap, subst, arith, ◌-◌, true, drop, Option, IsSome, IfSome, is_some, ◌&&◌, nat_lt, map, filter, take, unwrap_or, ◌⊎◌, inl, inr, not, sum_by, ◌*◌, ◌++◌, replicate, append_assoc, nat_le, IsSomeAnd, ◌↔◌, ◌/◌, ◌%◌, All, AllPairs, bytes_eq, find, is_none, position, min, ◌||◌, vec_capacity, rules, MatchOption}
pub use Rattle.std.proofs.Math.ListN.{get_or-map}
pub use Rattle.std.proofs.Math.Seq.{map-set_same, take-append_seam, take-set-lt, take-append-add}
pub use Rattle.std.proofs.lemmas.Bool.Decides.{nat_tests, eqb_tells}
pub use Rattle.std.proofs.lemmas.Fn.{filter_same}
pub use Rattle.std.proofs.lemmas.Grind.{common_steps}
pub use Rattle.std.proofs.lemmas.List.{set_past, get_or-set_same, get_or-set_other, length-set, get_or_default, map-set, get_or-drop, length-drop, get_or_past, length-take-le, length-take, length-append, length-replicate, set-append_right, append-nil, take-append-drop, replicate-append-replicate, take-replicate, drop-replicate, length-map, ext_get_or, get_or-take, set-get_or, nil_from_length, get_or-replicate, drop_at, take_at, drop-append-le, take-append-le, drop-drop, drop-set-lt, drop-set-add, take-set-le, map-append, get_or_append_left, get_or-append-add, set-set}
pub use Rattle.std.proofs.lemmas.List.Elements.{All-tail, filter-append, All-nil, All-cons, All-head, All-append, All-take, All-drop, All-filter, filter_passes}
pub use Rattle.std.proofs.lemmas.List.Folds.{sum_by-replicate}
pub use Rattle.std.proofs.lemmas.List.Kept.{AllPairs-cons, AllPairs-filter}
pub use Rattle.std.proofs.lemmas.List.Sums.{sum_by_more, sum_by-set, sum_by-cons, length-filter, sum_by-append, sum_by-take-drop, sum_by-le, get_or-le-sum_by, sum_by_push}
pub use Rattle.std.proofs.lemmas.Map.Text.{is_eq-slice_cmp}
pub use Rattle.std.proofs.lemmas.Map.Views.{any-filter_same}
pub use Rattle.std.proofs.lemmas.Slice.Eq.{bytes_eq-Decides}
pub use Rattle.std.specs.List.{list_any, range_with_len, concat, position_or_len}
pub use Rattle.std.specs.Ordering.{is_eq}
pub use Rattle.std.specs.declared.cmp.Ordering.TheVariants.{Less}
pub use Rattle.frame_arena.proofs.Pages.{length-zero_page}
pub use Rattle.frame_arena.proofs.Parts.{with_part-same, part_of-drop, part_of-first, with_part-append, take-with_part, with_part-whole, drop-with_part_before, part-range, put_mid-with_part}
pub use Rattle.frame_arena.specs.Counted.{CountedPages}
pub use Rattle.frame_arena.specs.Pages.{page_at, IsPage}
pub use Rattle.host_types.proofs.Lists.{length-with_part, map-replicate, length-part_of, part-with_part_same}
pub use Rattle.host_types.proofs.Next.{next-after, next-none, next-here}
pub use Rattle.host_types.proofs.Pages.{replicate-zero_page}
pub use Rattle.host_types.proofs.Pinned.{fit-own, fit-by}
pub use Rattle.host_types.proofs.Unmerging.{broken-own}
pub use Rattle.host_types.proofs.Without.{without-length, times-gone, times-kept, some_kept}
pub use Rattle.host_types.specs.Counters.{unshared_at, volatile_at}
pub use Rattle.host_types.specs.Memory.{map_at, FlatMap, FlatMaps}
pub use Rattle.host_types.specs.Pages.{zero_page, map_index_of, page_index_of}
pub use Rattle.host_types.specs.Pins.{PinsFit, is_pinned, pinned, released}
pub use Rattle.host_types.specs.Shapes.{IsShape, byte_len_of}
pub use Rattle.host_types.specs.Sharing.{new_page, Sharing, PageState, state_at, is_shared_page, broken_page, with_status, left_by, is_shared, is_in_company, is_among, without, cost_of, own_frame, waiting_without}
pub use Rattle.host_types.specs.Tenant.{part_dropped, IsFlatMap, AreFlatMaps, TenantPart}
pub use Rattle.host_types.specs.Unmerging.{zeros_at, SharesNothing}
pub use Rattle.host_types.specs.Visits.{is_mergeable, with_page, waiting_outside, ended_at, next_from, is_partner, look_from, one_more, is_open}
pub use Rattle.host_types.specs.declared.options.Options.{Options}
pub use Rattle.host_types.specs.declared.shape.Page.{Page}
pub use Rattle.host_types.specs.declared.shape.Shape.{Shape}
pub use Rattle.host_types.specs.declared.status.Status.{Status}
pub use Rattle.host_types.specs.declared.status.Status.TheVariants.{New, Grouped, Zero, Volatile, Waiting}
pub use Rattle.page_table.specs.Changes.{zero_map, part_created, OtherTenantsUnchanged, AreMapsKeptBut, KeepsSettings, IsPageOf, IsOwn, MayChange, MayMerge, AreKept, with_pins, IsNotWaiting, frame_of_group, open_frame, contents_now, pages_of_map, map_written, part_written, partner_index, HadFingerprint}
pub use Rattle.page_table.specs.Limits.{page_count, AreLimits}
pub use Rattle.page_table.specs.Pins.{pinned_among, ArePinsOf}
pub use Rattle.page_table.specs.Reads.{is_frame, ReadsAs, AreGroups, AreMerged, HasPage, status_at, has_both, free_frames}
pub use Rattle.page_table.specs.State.{MemoryState, free_of, have_of, unreserved_tenant, bytes_of_map, frame_at, free_number}
pub use Rattle.page_table.specs.Table.{TableState, CountsState, IsTable, IsGroup, IsSound, AreCountsOf, times, one_if_zero, entry_at, state_of, states_of, is_on, used_by, sharing_of, marked, IsEntry, IsAlone, LiesRight, IsOwnAt, AreCounts, frames_of, flat_of, ArePages, ArePagesOf, entry_content, AreOwnKeptOutside, IsPageAt, waiting_of, new_pass, joined_on, AreMaps, IsTreeOf, forgets, AreOthersKept, is_open_frame, AreNumbered, groups_in, AreOwnKept, GroupsState}
pub use Rattle.page_table.specs.Tallies.{IsTally, shared_at}
pub use Rattle.page_table.specs.View.{IsAhead, IsMemory, is_listed, AreWaiters, IsPass, IsWaiter, is_at_or_before, OnlyRunsPin}
pub use Rattle.page_table.specs.declared.entry.Entry.{Entry}
pub use Rattle.page_table.specs.declared.pass.Pass.{Pass}
pub use Rattle.page_table.specs.declared.tenant.Tenant.{Tenant}
pub use Rattle.stable_tree.proofs.Counting.{chains-few, dups-fit}
pub use Rattle.stable_tree.proofs.Removing.{filter-absent, has-itself}
pub use Rattle.stable_tree.proofs.Sorting.{filter-chain, filter-no_chain}
pub use Rattle.stable_tree.specs.Groups.{Groups, IsChain, has, content, order, many_in, dups_in, IsSorted, groups_at}
pub use Rattle.unstable_tree.specs.WaitingList.{is_match, WaitingList}
pub use Rattle.unstable_tree.specs.declared.tree.Waiter.{Waiter}
unfoldable pub use Rattle.host_types.specs.Bytes.{part_of, with_part}
unfoldable pub use Rattle.host_types.specs.Counters.{times_among, repeated_among, seconds_following, group_contents}
unfoldable pub use Rattle.host_types.specs.Pages.{page_bytes}
unfoldable pub use Rattle.host_types.specs.Pins.{broken_for_run, unpinned_from}
unfoldable pub use Rattle.host_types.specs.Sharing.{broken, pages_broken, paired, zeroed, break_cost, cost_from, gone, gone_from, frames_free, joined_by}
unfoldable pub use Rattle.host_types.specs.Unmerging.{unmerged, members, zero_pages, unmerge_need}
unfoldable pub use Rattle.host_types.specs.Visits.{first_mergeable, dropped, moved_on, contents_in, waits, group_bytes, has_open, join_first, joined, changed}
unfoldable pub use Rattle.page_table.specs.Changes.{with_new_pages}
unfoldable pub use Rattle.page_table.specs.State.{part, new_memory}
unfoldable pub use Rattle.page_table.specs.Table.{contents_of, groups_of, pages_on, indices_on, own_pages, break_frames, maps_of}
unfoldable pub use Rattle.page_table.specs.View.{view_of}
unfoldable pub use Rattle.stable_tree.specs.Groups.{chains_among, dups_among}

-- which of two numbers is the greater one
pub ordered : (a b : ℕ) → (a < b) ⊎ (b ≤ a)
ordered a b = grind arith

pub is_same : (a b : ℕ) → (a ≡ b) ⊎ (a ≢ b)
is_same a b = grind arith
