-- The lemmas that other crates cite, passed on from one place. Declares nothing.
pub use Rattle.spec_image.proofs.Lists.{TellsApart, all_append, all_left, all_right, not_first, same_head, same_tail}
pub use Rattle.spec_image.proofs.Lists.{times-cons, times_here, times_later}
pub use Rattle.spec_image.proofs.Names.{name_exact, name_total}
pub use Rattle.spec_image.proofs.MapLaws.{apart, at_itself, entries-empty, entries-insert, entries_sorted, get-empty}
pub use Rattle.spec_image.proofs.MapLaws.{get-entries, get-insert, get-insert_other, get-insert_same, get-remove_is}
pub use Rattle.spec_image.proofs.MapLaws.{get-remove_other, get-removed, insert-insert_same, insert-removed}
pub use Rattle.spec_image.proofs.MapLaws.{insert_same, not_tied, remove-insert_same, same_entries_map, same_map}
pub use Rattle.spec_image.proofs.MapLaws.{same_or_other, size-empty, some_none, some_same, tied}
pub use Rattle.spec_image.proofs.MapLists.{EachOnce-from_map, EachOnce-map, EachOnce-sorted, contains-found}
pub use Rattle.spec_image.proofs.MapLists.{each_entry, each_in_entries, entries-from_sorted, entries-map_values}
pub use Rattle.spec_image.proofs.MapLists.{find-append_both, find-contains, find_first, find_tail_none, found_holds}
pub use Rattle.spec_image.proofs.MapLists.{from_entries_push, get-from_entries, get-holds, get-map_values}
pub use Rattle.spec_image.proofs.MapLists.{keys-map_values, map_values-insert, map_values-map_values}
pub use Rattle.spec_image.proofs.MapLists.{map_values-remove, mapped-from_entries, values-map_values}
pub use Rattle.spec_image.proofs.MapSums.{at-le-sum, empty_of_size, no_length, size-from_entries, size-insert_new}
pub use Rattle.spec_image.proofs.MapSums.{size-insert_over, size-map_values, size-remove, sum-empty, sum-insert}
pub use Rattle.spec_image.proofs.MapSums.{sum-insert_new, sum-insert_over, sum-map_values, sum-remove, sum-values}
pub use Rattle.spec_image.proofs.MapSums.{sum_entries-empty, sum_entries-insert_new, sum_entries-remove}
pub use Rattle.spec_image.proofs.MapSums.{sum_entries_le, times-append, times_head, times_other, total-append}
pub use Rattle.spec_image.proofs.MapSums.{total-map, total_zero, two-le-sum, two-le-sum_entries}
pub use Rattle.spec_image.proofs.MapEdits.{EachOnce-around, EachOnce-push, EachOnce-without, from_entries_alike}
pub use Rattle.spec_image.proofs.MapEdits.{from_entries_around, from_entries_moved, from_entries_replaced}
pub use Rattle.spec_image.proofs.MapEdits.{from_entries_without}
pub use Rattle.spec_image.proofs.Chains.{block_same, directory_kept, head-numbers}
pub use Rattle.spec_image.proofs.ChainEdits.{HasLast, all_around, all_without, has_last, items-append}
pub use Rattle.spec_image.proofs.Versions.{body_kept, prime_ext_same, prime_same, retrieved_same, version_kept}
pub use Rattle.spec_image.proofs.DiskMaps.{bits_kept_off, directory_part, file_apart, file_part, fixed_below}
pub use Rattle.spec_image.proofs.DiskMaps.{home_same, log_ignored, master_apart, none_below, once, quiet, quiet_bits}
pub use Rattle.spec_image.proofs.DiskMaps.{quota_bound, stands_same}
pub use Rattle.spec_image.proofs.Settled.{length-targets, settled_same}
pub use Rattle.spec_image.proofs.QuietLaws.{each_times}
pub use Rattle.spec_image.proofs.Layouts.{layout_is, layouts_agree, settled_in_any, settled_layout, stands_in_any}
pub use Rattle.spec_image.proofs.HomeChanges.{homes_raised}
pub use Rattle.spec_image.proofs.WalkLaws.{all_runs-append, all_times, find_front, flat-append}
pub use Rattle.spec_image.proofs.WalkLaws.{none_front, once_front, undamaged_at, walk_le, walk_of_chain}
pub use Rattle.spec_image.proofs.Excluded.{IsMappedFile, file_named, image, no_bad_block, zero_free}
pub use Rattle.spec_image.proofs.ExcludedFiles.{fault_excludes, no_bad_version, no_fault}
pub use Rattle.spec_image.proofs.BitCounts.{below_none, below_sum, below_times, runs-le}
pub use Rattle.spec_image.proofs.FoundMaps.{directory_reaches, directory_whole, map_mapped, map_reaches, map_stands}
pub use Rattle.spec_image.proofs.MapParts.{found-le-sum}
pub use Rattle.spec_image.proofs.VersionEdits.{version_rewritten}
pub use Rattle.spec_image.proofs.FileChanges.{published, removed, renamed_across, renamed_within}
pub use Rattle.spec_image.proofs.DirectoryChanges.{directory_made, directory_protected, directory_removed}
pub use Rattle.spec_image.proofs.ChangedFiles.{files_protected, files_renamed_across, files_renamed_within}
pub use Rattle.spec_image.proofs.ChangedFiles.{files_without}
pub use Rattle.spec_image.proofs.PlaceLaws.{directory_of_file, file_at-limited, found_with_directory, found_with_file}
pub use Rattle.spec_image.proofs.PlaceLaws.{found_without_directory, found_without_file, keeps_insert, keeps_limited}
pub use Rattle.spec_image.proofs.PlaceLaws.{keeps_with_file, keeps_without_directory, keeps_without_file, some_is}
pub use Rattle.spec_image.proofs.PlaceLaws.{stays_with_directory, stays_with_file, stays_without_directory}
pub use Rattle.spec_image.proofs.PlaceLaws.{stays_without_file}
pub use Rattle.spec_image.proofs.SpliceLaws.{below_or_not, length-splice, splice-inside, splice-outside}
