-- The definitions that proofs and other crates cite, passed on from one place. Declares nothing.
pub use Rattle.commands.specs.PartialLines.{IsPartialLine, KeepsLine, line_list, line_of, text_line}
pub use Rattle.commands.specs.ParsedCommands.{Fits}
pub use Rattle.commands.specs.Characters.{is_other_than}
pub use Rattle.commands.specs.Machines.{ActsBy, AlwaysStands, AreShown, CountsFailures, GoesBy, IsAlongActs}
pub use Rattle.commands.specs.Machines.{IsAnswered, IsListed, KeepsPack, Machine}
pub use Rattle.commands.specs.PlanSteps.{AreTyped, FinishesPlan, HasDone, HasShown, HasTyped, FollowsPlan, Tells}
pub use Rattle.commands.specs.PlanSteps.{followed}
pub use Rattle.commands.specs.Languages.{LineSays}
pub use Rattle.commands.specs.Streams.{AreWholeLines, Finished, HasNoFeed, IsNumberedTranscript, IsServedScript}
pub use Rattle.commands.specs.Streams.{IsServedSession, IsServedTranscript, spoken}
pub use Rattle.commands.specs.Sessions.{AddsText, BreaksOff, Closed, Ends, EndsWell, FitsIn, IsParsedLine, LineActs}
pub use Rattle.commands.specs.Sessions.{IsBreak}
pub use Rattle.commands.specs.Sessions.{IsFlushed, IsGivenUp, LineDone, Script, Session, SoFar, CommandDone, StepsOn}
pub use Rattle.commands.specs.Sessions.{LinesServed}
pub use Rattle.commands.specs.Sessions.{ReplyWritten, WritesText}
pub use Rattle.commands.specs.Transfers.{AreAsked, Carries, Checked, Delivery, Errand, IsUnread, Performs, Survey}
pub use Rattle.commands.specs.Transfers.{TellsMisfit, absent, delete_plan, fresh, if_absent, put_plan_as, put_plan_new}
pub use Rattle.commands.specs.Transfers.{looks_for, makes_way, no_room}
pub use Rattle.commands.specs.Outcomes.{AreReadOf, DeliveriesKeepFiles, DeliveriesMakeFiles, ErrandsShowFiles}
pub use Rattle.commands.specs.Outcomes.{ExportsShowFiles, ImportsMakeFiles, IsExportOf, IsFree, IsStored, IsStoredNew}
pub use Rattle.commands.specs.Monitors.{machine_of}
pub use Rattle.commands.specs.EventTexts.{Begins, FieldsSay, IsBehind, with_one, with_two}
pub use Rattle.commands.specs.Files.{AreLetters, IsFileName, IsOwnerName}
pub use Rattle.commands.specs.DayTexts.{AreDayFirst, AreDayParts, AreYearFirst, IsAtHyphen, IsDayText, IsDecimal}
pub use Rattle.commands.specs.DayTexts.{IsHyphened, IsMonthName}
pub use Rattle.commands.specs.Reasons.{BeginsNoFile, HasWords, IsInputReason, IsMisfit, IsTooLong, capped, counts}
pub use Rattle.commands.specs.Reasons.{feeds, mark, most_bytes, numbered, numbered_after, reason_of, words_said}
pub use Rattle.commands.specs.Import.{Imported, labels, said_behind}
pub use Rattle.commands.specs.Export.{ComesBack, Exports, ExportsWords, HasBytes, HasEntries, HasExported}
pub use Rattle.commands.specs.Export.{HasWordsRead, IsExport, IsFirstFor, SaysWords, asks_for, encodings_for}
pub use Rattle.commands.specs.Export.{entries_answered, export_plan}
