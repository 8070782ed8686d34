-- The definitions that proofs and other crates cite, passed on from one place. Declares nothing.
pub use Rattle.imagefile.specs.File.{Bytes, FileFails, FileKeeps, FilePasses, FileState, FileSyncs, FileWrites}
pub use Rattle.imagefile.specs.File.{Inside, MayRemain, Remains, SameFile}
unfoldable pub use Rattle.imagefile.specs.File.{window}
pub use Rattle.imagefile.specs.Image.{HasTooManyBlocks, IsImageSize, block_content, block_length, image_contents}
pub use Rattle.imagefile.specs.Image.{image_state, other_form, spelled_blocks, wide_content}
unfoldable pub use Rattle.imagefile.specs.Image.{are_words, first_words}
pub use Rattle.imagefile.specs.ImageLaws.{image_counts_now, image_fails, image_keeps, image_only_now}
pub use Rattle.imagefile.specs.ImageLaws.{image_reaches_back, image_syncs, image_writes, image_writes_run}
pub use Rattle.imagefile.specs.ImageLaws.{window-same}
pub use Rattle.imagefile.specs.Measured.{IsCutImage, IsImageOf, IsNoCutImage, IsNoImage}
pub use Rattle.imagefile.specs.ImageDisk.{blocks_of, form_of}
pub use Rattle.imagefile.specs.Buffer.{AreHeld, HeldBytes, HeldTwice, IsHeld}
pub use Rattle.imagefile.specs.BufferedFile.{buffered_file}
pub use Rattle.imagefile.specs.Memory.{FileLeaves, FileMemory, FileMoment, HasRoom, IsFileReplayed, Step, Synced}
pub use Rattle.imagefile.specs.Memory.{Wrote, after_step, after_steps, begun, bytes_synced, bytes_written, memory_of}
pub use Rattle.imagefile.specs.Memory.{memory_state, moment_at, moment_now, sync_refused, write_refused}
unfoldable pub use Rattle.imagefile.specs.Memory.{bytes_in, put, spelled}
pub use Rattle.imagefile.specs.MemoryLaws.{only_now, reaches_back}
pub use Rattle.imagefile.specs.Host.{the_first_of, unknown_file, with_failures}
pub use Rattle.imagefile.specs.HostFile.{calls_of, failure_of, failures_of, known_size_of}
pub use Rattle.imagefile.specs.Calls.{Call, Read, SeekEnd, SeekStart, Sync, Write, answer, calls_code, came}
pub use Rattle.imagefile.specs.CallMade.{spelled_call}
pub use Rattle.imagefile.specs.HostCalls.{file_of, history_of}
pub use Rattle.imagefile.specs.Unseen.{Unseen, left_by, size_of, unseen_code}
pub use Rattle.imagefile.specs.AssumedImage.{assumed_in}
pub use Rattle.imagefile.specs.Recorded.{AsksAt, BeginsAt, GoesTo, IsHonestRecord, after_calls, bytes_after, moved}
pub use Rattle.imagefile.specs.Recorded.{recorded, words_asked_at}
unfoldable pub use Rattle.imagefile.specs.Recorded.{is_inside}
pub use Rattle.imagefile.specs.Answered.{HostCall, IsInFile, Measure, ReadAt, SyncAll, WriteAt, answered}
pub use Rattle.imagefile.specs.RecordedLaws.{recorded_counts_now, recorded_only_now, recorded_reaches_back}
pub use Rattle.imagefile.specs.SeekingFile.{system_of, unseen_of}
pub use Rattle.imagefile.specs.Streams.{IsNoStream}
pub use Rattle.imagefile.specs.Began.{BeganAs, BeganCut, begun_image}
pub use Rattle.imagefile.specs.Outcomes.{HasCause, IsPastAll, Looked, LookedAndSynced, Measured, Outcome}
pub use Rattle.imagefile.specs.Outcomes.{move_outcome, size_outcome, sync_outcome}
pub use Rattle.imagefile.specs.Endings.{EndsSo}
