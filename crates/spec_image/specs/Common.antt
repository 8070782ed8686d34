-- The definitions that other crates cite, passed on from one place. Declares nothing.
pub use Rattle.spec_image.specs.Maps.{EachOnce, FinMap, from_entries, keys, map_values, sum_entries, sum_over, times}
pub use Rattle.spec_image.specs.Maps.{total, values}
unfoldable pub use Rattle.spec_image.specs.Maps.{empty, entries, get, insert, remove, size}
pub use Rattle.spec_image.specs.Files.{Directory, File, Files, Place, files_limited, map_directory, map_files}
pub use Rattle.spec_image.specs.Files.{name_cmp, with_quota}
pub use Rattle.spec_image.specs.Costs.{blocks_of, cost_of_blocks, cost_of_directory, cost_of_files, directory_cost}
pub use Rattle.spec_image.specs.Costs.{growth, version_cost}
pub use Rattle.spec_image.specs.Regions.{IsVolumeSize, log_images, log_start, space_start, table_blocks, table_start}
pub use Rattle.spec_image.specs.Home.{SpecHome, IsHome, IsHomeCopy, IsLayout, filser_word, home_block}
pub use Rattle.spec_image.specs.Log.{AreImages, IsGateOpen, IsLog, IsSettled, IsTarget, log_header, log_word}
pub use Rattle.spec_image.specs.Log.{open_gate, targets, with_puts}
pub use Rattle.spec_image.specs.Table.{bit_in, bit_of, fixed, table_bit}
pub use Rattle.spec_image.specs.Directories.{SpecFileEntry, IsDirectory, IsFileEntry, IsFilled, IsMasterEntry}
pub use Rattle.spec_image.specs.Directories.{IsSpelled}
pub use Rattle.spec_image.specs.Directories.{SpecMasterEntry, Node, directory_block, file_words, first_of, items}
pub use Rattle.spec_image.specs.Directories.{master_word, master_words, numbers}
pub use Rattle.spec_image.specs.Retrieval.{AreExtensions, Extension, HasBody, IsMode, IsPrime, IsRetrieved, IsRun}
pub use Rattle.spec_image.specs.Retrieval.{SpecPrime, SpecRun, all_runs, count_up, date_limit, extension_block}
pub use Rattle.spec_image.specs.Retrieval.{extension_half, extension_numbers, extension_word, first_extension}
pub use Rattle.spec_image.specs.Retrieval.{most_blocks, pointer, prime_block, prime_of, prime_word, run_blocks}
pub use Rattle.spec_image.specs.Stands.{DiskMap, HasMap, IsMapped, IsVersion, IsWhole, SettledStands, Stands}
pub use Rattle.spec_image.specs.Stands.{StoredDirectory, StoredFile, blocks_of_file, directory_of, entry_of, files_of}
pub use Rattle.spec_image.specs.Stands.{home_of, place_of, quota_limit, reaches, reaches_in_directory}
pub use Rattle.spec_image.specs.Stands.{reaches_in_file}
pub use Rattle.spec_image.specs.Quiet.{DifferInFree}
pub use Rattle.spec_image.specs.Counts.{sum_below}
pub use Rattle.spec_image.specs.Blocks.{AgreeOn, head_or_zero}
pub use Rattle.spec_image.specs.Walks.{IsDirectoryNamed, IsFileNamed, IsMasterWalk, IsPrimeRead, LeadsAlong, LeadsOn}
pub use Rattle.spec_image.specs.Faults.{HasFault, HasName, InSpace, IsBadBlock, IsBadHome, IsBadLog, IsBadMasterBlock}
pub use Rattle.spec_image.specs.Faults.{IsBadRetrieval, IsBadVersion, IsDirectoryRead, IsFileRead, IsMasterEntryOf}
pub use Rattle.spec_image.specs.Faults.{IsNotVolume, IsSettledFault, IsWrongTable, ReadDirectory, ReadFile}
pub use Rattle.spec_image.specs.Faults.{RunsInSpace, StartFault, empty_later, entry_outside, key_again, malformed}
pub use Rattle.spec_image.specs.Faults.{next_outside, short, times_in_directory, times_in_file, walked}
pub use Rattle.spec_image.specs.ReadFindings.{IsChainRead, found_directory, found_map}
pub use Rattle.spec_image.specs.Changes.{IsFileChain, IsMasterChain, TableFollows, bare_directory, entries_of}
pub use Rattle.spec_image.specs.Changes.{file_put, file_removed, in_layout, in_place_of, primes_of, reaches_in_found}
pub use Rattle.spec_image.specs.Changes.{with_directory, without_directory}
pub use Rattle.spec_image.specs.Published.{SpecVersion, attributes, file_at, file_in, same_place, with_file}
pub use Rattle.spec_image.specs.Published.{with_file_in}
pub use Rattle.spec_image.specs.Published.{with_protection, without_file, without_file_in, without_serials}
pub use Rattle.spec_image.specs.Splices.{block_start, length_after, splice, words_from}
pub use Rattle.spec_image.specs.Layouts.{Pack, SettledStandsOn, StandsOn, layout_number, pack_in, pack_of}
unfoldable pub use Rattle.spec_image.specs.Layouts.{layout_of}
pub use Rattle.spec_image.specs.Codes.{number_of}
