-- The definitions that proofs and other crates cite, passed on from one place. Declares nothing.
pub use Rattle.volume.specs.Facts.{Facts, facts_of, known_facts}
pub use Rattle.volume.specs.DiskAnswers.{DiskAnswer, KeepsDisk, ReadsDisk}
pub use Rattle.volume.specs.FileRead.{IsDamagedData, IsDataRefusal, IsFileFound, IsFileRefusal, IsOtherPlace}
pub use Rattle.volume.specs.FileRead.{IsReachedTwice, IsVersionRefusal}
pub use Rattle.volume.specs.FileLaws.{facts_found}
pub use Rattle.volume.specs.Homes.{IsBare, IsFound, IsFoundInSpace, IsInitBlock, IsNoCopy, bare_map, bit_below}
pub use Rattle.volume.specs.Homes.{SaysSize, fresh_bit, fresh_words, holds_words, home_in, zero_words}
pub use Rattle.volume.specs.CurrentMap.{Before, IsBooked, MatchesMap, AgreesOnDirectory, AgreesOnFile, AgreesOnMap}
pub use Rattle.volume.specs.CurrentMap.{IsNamed}
pub use Rattle.volume.specs.CurrentMap.{IsWholeDirectory, IsWholeMap, IsWholeVersion, CurrentMap, CurrentDirectory}
pub use Rattle.volume.specs.CurrentMap.{CurrentVersion}
pub use Rattle.volume.specs.CurrentMap.{blocks_reached, cost_before, cost_of_directory, cost_of_known, cost_of_version}
pub use Rattle.volume.specs.CurrentMap.{given_up, known_reaches, prime_in, reaches_in_entries, reaches_in_known}
pub use Rattle.volume.specs.FaultsFound.{IsBadFileChain, IsBadFileOf, IsFaultOfDirectories, IsFaultOfDirectory}
pub use Rattle.volume.specs.FaultsFound.{IsFaultOfFile, IsFaultOfFiles, IsInChain, IsTableRefusal, NamesInSpace}
pub use Rattle.volume.specs.FaultsFound.{Refuses, SettledRefuses, error_of_chain}
pub use Rattle.volume.specs.Found.{AreDirectoriesRead, AreFilesRead, IsAdded, IsDirectoryFound, IsEntryRead}
pub use Rattle.volume.specs.Found.{IsKnownVersion, IsMapFound, IsMarkedFile, IsOnlySpace, IsRightFor, IsWrongFor}
pub use Rattle.volume.specs.MemoryValues.{file_view, known_directory, known_of, known_version, master_view}
pub use Rattle.volume.specs.Rest.{AreDated, HasSomeBody, IsAtRest, IsSoundMemory, IsSoundVolume, KeepsEachWritten}
pub use Rattle.volume.specs.Rest.{KeepsRead, KeepsWritten, RestsAt, StandsForOneOf, StandsLike, StandsLikeBefore}
pub use Rattle.volume.specs.Queries.{IsFileAnswer, IsLine, IsListError, IsLookAnswer, IsNamedVersion, IsPlainRefusal}
pub use Rattle.volume.specs.Queries.{IsShown, line, protection_answer, room_of}
pub use Rattle.volume.specs.MakeDir.{IsAligned, IsEntered, IsMade, PutsTable, TakesBlocks, Uses, bare_known}
pub use Rattle.volume.specs.MakeDir.{chain_growth, entry_made, files_made, fresh_list, map_made, put_in_use}
pub use Rattle.volume.specs.MakeDir.{released, taken, with_booked}
pub use Rattle.volume.specs.DeleteDir.{HasEntries, IsDirectoryRemoved, IsEmptyAt, RemovesDirectory}
pub use Rattle.volume.specs.DeleteDir.{directory_removed, less_master}
pub use Rattle.volume.specs.MemoryMap.{AreStanding, AreWaiting, IsApart, IsCurrent, IsCurrentAt, IsFirstRead, IsKeyed}
pub use Rattle.volume.specs.MemoryMap.{IsWholeMemory, IsWholePending, MemoryMap, as_known, as_written, cost_beyond}
pub use Rattle.volume.specs.MemoryMap.{creates}
pub use Rattle.volume.specs.MemoryMap.{current_reaches, entry_reaches, growths, pinned_cost, pinned_reaches, is_create}
pub use Rattle.volume.specs.MemoryMap.{is_creation, pending_at, pending_cost, pending_reaches, slot}
pub use Rattle.volume.specs.LiveMemory.{memory_of, known_at, live_directory}
pub use Rattle.volume.specs.PutWords.{HasNoPlace, IsReady, Regrown, Regrows}
pub use Rattle.volume.specs.PinVersion.{BeginsWithFile, IsFilePinned, IsKeyOf, IsNoFile, IsPinAnswer, IsReadable}
pub use Rattle.volume.specs.PinVersion.{IsVersionOf, version_under}
pub use Rattle.volume.specs.BeginVersion.{IsBefore, IsBeginRefusal, IsBegun, IsDirectoryOf, IsMisfit, begin_cost, begun}
pub use Rattle.volume.specs.BeginVersion.{begun_prime, begun_version, entries_with, is_absent, is_update, kept_blocks}
pub use Rattle.volume.specs.BeginVersion.{no_words, shared_body, shared_prime, version_before}
pub use Rattle.volume.specs.PublishVersion.{ClearsBits, Entered, HasOtherKey, IsEnded, IsEntryPut, IsPlaced}
pub use Rattle.volume.specs.PublishVersion.{IsPublished}
pub use Rattle.volume.specs.PublishVersion.{IsPublishedMemory, IsSupplied, MakesCurrent, Marks, MayRetire, PutsInUse}
pub use Rattle.volume.specs.PublishVersion.{Retires, SetsBits, TakesPlaces, added, before, file_of, files_published}
pub use Rattle.volume.specs.PublishVersion.{files_put_in, live_left}
pub use Rattle.volume.specs.Places.{prime_at}
pub use Rattle.volume.specs.States.{VolumeState}
pub use Rattle.volume.specs.Claims.{claims, claims_at}
pub use Rattle.volume.specs.CopyImage.{AreCopied, ArePartlyCopied, HomesComeLast, IsCopyStep, copied}
pub use Rattle.volume.specs.DeleteFile.{IsEntryRemoved, IsRemoved, RemovesFile, files_removed, files_without}
pub use Rattle.volume.specs.RenameFile.{Arrives, GivesUpEntry, HasFile, HasNoRoom, IsEntryRenamed, IsFreeFor}
pub use Rattle.volume.specs.RenameFile.{IsMoveRefusal, IsMovedAcross, IsMovedWithin, IsPrimeMoved, MayArrive}
pub use Rattle.volume.specs.RenameFile.{MayGiveUpEntry, MovesAcross, MovesWithin, entries_there, file_in}
pub use Rattle.volume.specs.RenameFile.{file_protected, files_moved, files_moved_as}
pub use Rattle.volume.specs.HomeBlocks.{HasHomesFrom, KeepsHomes}
pub use Rattle.volume.specs.PrimeBlocks.{IsFilePrime, file_prime}
pub use Rattle.volume.specs.Quotas.{HasNoQuota, IsFirstQuota, IsFirstQuotaBlock}
pub use Rattle.volume.specs.MigrateVolume.{AreCopies, IsHomeBlock, IsMigrated, IsTold, RaisedLike, RaisedLikeBefore}
pub use Rattle.volume.specs.MigrateVolume.{StandsOrRaised, home_puts}
pub use Rattle.volume.specs.Charges.{IsCharged, IsLimited, IsOver, IsTooLong, LimitsDirectory, Outgrows}
pub use Rattle.volume.specs.Charges.{charge_answer, quota_in_memory, quota_in_files, quota_in_word, rise, used_by}
pub use Rattle.volume.specs.Charges.{word_limited, writes_in}
pub use Rattle.volume.specs.Edits.{ChangesFiles, DeviceAnswer, IsCommitted, IsEdited, IsWrittenBy, KeepsHomeCopies}
pub use Rattle.volume.specs.Turns.{numbered_entry, numbered_version, placed_known, turn_view}
