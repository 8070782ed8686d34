-- The definitions that proofs and other crates cite, re-exported from one place. Declares nothing.
pub use Rattle.monitor.specs.Replies.{IsListRefusal, deposit_of, examine_of, reset_answer}
pub use Rattle.monitor.specs.Sides.{UnderKeys, Writing, channel_of, input_of, job_of, jobs_of, keys_of, kind_of}
pub use Rattle.monitor.specs.Sides.{new_job, no_jobs, output_of, pins_of, reader_of, readers, readers_in, reset_job}
pub use Rattle.monitor.specs.Sides.{side_of, sides, sides_in, state_of, within}
pub use Rattle.monitor.specs.States.{MonitorState}
pub use Rattle.monitor.specs.Serves.{AreKeyed, ArePlaced, AreReading, HasReaders, IsReader, IsSide, IsState}
pub use Rattle.monitor.specs.Serves.{IsTimely, IsWriting, Serves, present}
pub use Rattle.monitor.specs.CloseSides.{Closes, OnlyDrops}
pub use Rattle.monitor.specs.Rows.{ClosesSide, IsOldOrNew, IsRow, KeepsReading, KeepsSides, improper_at, opened_at}
pub use Rattle.monitor.specs.Rows.{publishes_at, rings_opened}
pub use Rattle.monitor.specs.FoundPlaces.{IsAnswer, IsKnown, IsPrimeAt, allowed, begin_answer_at, begun_as, file_begun}
pub use Rattle.monitor.specs.FoundPlaces.{found_file, found_in, kind_for, protection_for}
pub use Rattle.monitor.specs.EnterFile.{IsEnterAnswer, IsEntering, entered_kind, side_entered}
pub use Rattle.monitor.specs.Calls.{IsLight, KeepsCore}
pub use Rattle.monitor.specs.WriteOut.{FindsNone, HasOutgoing, IsAtOutput, IsBarred, IsOther, IsOtherSide, IsOut}
pub use Rattle.monitor.specs.WriteOut.{Puts, buffer_put, moved, outgoing_at, words_listed}
pub use Rattle.monitor.specs.MakeDir.{IsAbsent, IsCrowded, IsRefusedBy, asked_owner}
pub use Rattle.monitor.specs.MakeDir.{directory_protection_asked, early_answer}
pub use Rattle.monitor.specs.Lists.{IsListAnswer, reply_of, unpublished_by}
pub use Rattle.monitor.specs.PublishOutput.{CrashesAsRow, HasPublished, IsPublishRow, IsPublishing, MayPublish}
pub use Rattle.monitor.specs.PublishOutput.{PublishesBy, StillStands, last_at}
pub use Rattle.monitor.specs.Deposits.{DepositsBy}
pub use Rattle.monitor.specs.Events.{CallCrashes, IsDecided, IsIdle, IsLightEvent, IsNoCall, OfCall}
pub use Rattle.monitor.specs.Readers.{AreBooked, ArePinned, AreRead, IsPinnedAs, IsVersionRead, readers_of}
pub use Rattle.monitor.specs.Runs.{AreStopped, FailsOnce, HasStarted, IsAlong, ServesFiles, TellsFault}
pub use Rattle.monitor.specs.Moments.{BodyIsRead, FoundIsRead, HoldsStill, ReadsItsBody, ReadsWhatWasFound, RunsBy}
pub use Rattle.monitor.specs.Moments.{RunsThrough, StandsNow, last_of, read_by, read_of}
pub use Rattle.monitor.specs.LookupAnswers.{HasShortFacts, IsInputOf, IsLookupAnswer, IsLookupRefusal, IsReadAnswer}
pub use Rattle.monitor.specs.LookupAnswers.{digit_for, named_in, read_answer}
pub use Rattle.monitor.specs.LookupFile.{IsHolding, IsLookedUp, IsLookingUp, IsLookupRow, looking}
pub use Rattle.monitor.specs.ReadIn.{Asked, Ingoing, IsAtInput, IsIn, LeavesRead, areas_asked, asked_at}
pub use Rattle.monitor.specs.ReadIn.{buffer_asked, handle_read, names_none, read_on}
pub use Rattle.monitor.specs.Refusals.{IsRefused, refused_with, with_code}
pub use Rattle.monitor.specs.Promises.{IsAmong, IsCallReady, IsServing, ServesAlways, ServesJob}
pub use Rattle.monitor.specs.RenewPin.{HoldsPublished, LetsGo, Renews}
pub use Rattle.monitor.specs.UpdateFile.{IsUpdateOf, IsUpdating, allowed_update, first_block, update_answer_at}
pub use Rattle.monitor.specs.UpdateFile.{update_kind, updating, updating_kind, updating_side}
pub use Rattle.monitor.specs.CloseChannel.{both_closed, closed_in, left_open, output_closed, rings_closed}
pub use Rattle.monitor.specs.DeleteDir.{IsKeptBy, IsNowhere, IsRemovable, IsThere, is_kept_from}
pub use Rattle.monitor.specs.SetQuota.{IsDenied, IsLimitable, asked_quota, charge_told}
pub use Rattle.monitor.specs.RenameFrom.{CloseAfter, IsChangeAnswer, allowed_change, asked_protection}
pub use Rattle.monitor.specs.RenameFrom.{change_answer, changed_job, changed_reply, changes_file, input_closed}
pub use Rattle.monitor.specs.RenameFrom.{is_other, may_become, with_input_closed}
pub use Rattle.monitor.specs.RenameTo.{allowed_arrival, arrival_answer, is_kept_out}
pub use Rattle.monitor.specs.Changed.{ChangesJob, IsInside, IsPart, areas_closed, areas_emptied, areas_filled}
pub use Rattle.monitor.specs.Changed.{areas_for, areas_named, areas_of, areas_opened, areas_set_up, clipped}
pub use Rattle.monitor.specs.Changed.{header_area, in_core, on_open}
