-- The definitions that proofs and other crates cite, passed on from one place. Declares nothing.
pub use Rattle.filser.specs.Hosts.{HostFacts, IsKept, IsMadeLike, IsMadePlain, IsOpened, IsOwn}
pub use Rattle.filser.specs.Requests.{Asks, AsksFor, HasDate, HasForm, HasLayout, HasNumber, HasOwned, HasOwner}
pub use Rattle.filser.specs.Requests.{HasText, InRange, IsAsked, IsAskedSearch, IsAt, IsDateNumber, IsEncoding}
pub use Rattle.filser.specs.Requests.{IsExisting, IsExportTask, IsFaultIn, IsImportTask, IsListedPlace, IsMistaken}
pub use Rattle.filser.specs.Requests.{IsNamedFile, IsOneEncoding, IsSalvageTask, IsStyle, IsTask, IsUsage, IsWrong}
pub use Rattle.filser.specs.Requests.{LacksDate, LacksOwned, NamesDate, NamesEncoding, NamesFile, NamesNoDate}
pub use Rattle.filser.specs.Requests.{NamesOwner, NamesSearch, SaysDate, Spells}
pub use Rattle.filser.specs.Requests.{encoding_flag, image_named, new_named, sources_named, task_name}
pub use Rattle.filser.specs.Statuses.{status_code}
pub use Rattle.filser.specs.Refusals.{converted_text, refusal_code, refusal_text, start_text}
pub use Rattle.filser.specs.Outputs.{fault_of_count, fault_of_flush, fault_of_write}
pub use Rattle.filser.specs.Lines.{IsBegun, IsLine, Puts, message_text}
pub use Rattle.filser.specs.Endings.{AreMistaken, AskToSee, AsksForHelp, EndsUnasked}
pub use Rattle.filser.specs.HostFaults.{Covers, forbids_errors, forbids_output}
pub use Rattle.filser.specs.Streams.{AreNeeded, IsMissing, IsStreamAt, IsStreamOf, LeadApart, LeadToOne}
pub use Rattle.filser.specs.ServedDisks.{IsEnding, IsGivenBack, IsRefusedBy, IsSearched, IsServed, IsStarted}
pub use Rattle.filser.specs.ServedDisks.{IsTurnedDown, IsUnserved, machine_over}
pub use Rattle.filser.specs.Tasks.{access_of, Attends, IsFirstMoment}
pub use Rattle.filser.specs.Views.{Views}
pub use Rattle.filser.specs.Denials.{IsCleared, IsDeviceFault, IsExplained, IsNoCutImage, IsNoDisk, IsNoImage}
pub use Rattle.filser.specs.Denials.{IsUnfilled, IsUnfit, IsUnlocked, IsUnmade, IsUnopened, of_host}
pub use Rattle.filser.specs.FreeStreams.{BarsErrors, BarsOutput, SparesErrors, SparesNamed, SparesOutput}
pub use Rattle.filser.specs.Permits.{MovesIfServed, acts_of}
pub use Rattle.filser.specs.Images.{HasNoDisk, IsCopied, IsCopyFault, IsCopyRun, IsCut, IsDenied, IsDeniedCut}
pub use Rattle.filser.specs.Images.{IsEmptyVolume, IsFaultOf, IsFresh, IsLeftAlone, IsNameTaken, IsNewDisk}
pub use Rattle.filser.specs.Images.{IsNoNewDisk, IsNotMade, IsOnBoth, IsOnCopy, IsOnFresh, IsOnImage, IsOnNew}
pub use Rattle.filser.specs.Images.{IsOnSource, IsTaken, IsTaskRun, IsWhole}
pub use Rattle.filser.specs.Migrations.{IsKeptBack, IsMigration, IsMigrationRefused, IsMigrationRun, IsOnMigrated}
pub use Rattle.filser.specs.Migrations.{IsRaised}
pub use Rattle.filser.specs.ImportRuns.{IsImportRun, IsOnImported}
pub use Rattle.filser.specs.ExportRuns.{IsExportedFrom, IsOnExported}
pub use Rattle.filser.specs.SalvageRuns.{AreAllFound, AreExact, AreFound, ArePartFound, IsCopySalvaged, IsNoCopy}
pub use Rattle.filser.specs.SalvageRuns.{IsOnSalvaged, IsPartSalvaged, IsSalvagedFrom, IsSaved, IsUncopied}
pub use Rattle.filser.specs.SalvageRuns.{IsUnsurveyed, named_only, start_error}
pub use Rattle.filser.specs.Runs.{AreReportsSpared, AreWordsSpared, HoldsOfImages, HoldsOfNamed, IsApart, IsHandled}
pub use Rattle.filser.specs.Runs.{IsLed, IsLedBy, IsRequestRun, PrintsOnly, WasRun}
