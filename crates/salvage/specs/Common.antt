-- The definitions that proofs and other crates cite, re-exported from one place. Declares nothing.
pub use Rattle.salvage.specs.Copies.{AreCopies, AreLengths, IsCopyOf, IsSaid, IsSizeOf, copy_findings, failed_by}
pub use Rattle.salvage.specs.Copies.{AreSaid, HasHome, IsCopyAt, IsMadeAt, finding_if, held_to, size_by}
pub use Rattle.salvage.specs.Chains.{AreApartFrom, AreChains, AreMarkedTo, AreWalked, IsChainBlock, IsChainShared}
pub use Rattle.salvage.specs.Chains.{IsClosed, IsFileWalked, IsLink, IsMasterWalked, IsMetAgain, IsUnmet, IsWalked}
pub use Rattle.salvage.specs.Chains.{of_directory, of_master}
pub use Rattle.salvage.specs.Extensions.{AreOwned, HasOwners, IsAfter, IsExtension, IsExtensionLink, IsOwnedAgain}
pub use Rattle.salvage.specs.Extensions.{IsPrimeLink}
pub use Rattle.salvage.specs.FreeBlocks.{IsFreeBlock, IsSearched, IsUntold, MayBeUsed, TellsBits}
pub use Rattle.salvage.specs.Saved.{AreAlone, AreApart, FitsDisk, IsAmong, IsInPlace, IsItsOwn, IsNamedRead}
pub use Rattle.salvage.specs.Saved.{IsPrimeAt, IsRead, IsWholeFile, blocks_of, claims, place_in}
pub use Rattle.salvage.specs.BlockCounts.{AreClaimed, CountTo}
pub use Rattle.salvage.specs.Findings.{Concerns, ConcernsUnnamed, IsDamagedAt, IsFaultAt, IsFaultOf, IsFaultOfChain}
pub use Rattle.salvage.specs.Findings.{IsCrowded, IsCrowdedAt, IsEarlier, IsFaultOfDirectory, IsFaultOfMaster}
pub use Rattle.salvage.specs.Findings.{IsFaultOfStart, IsFinding, IsStartFault}
pub use Rattle.salvage.specs.Surveys.{AreAllSaved, AreChainsTold, AreTheFiles, IsDirectoryLoss, IsFileSaved, IsLostBy}
pub use Rattle.salvage.specs.Surveys.{AreJudgedAs, IsDamaged, IsFull, IsSavedAs, IsSurveyed, IsTold, IsUnread}
pub use Rattle.salvage.specs.Surveys.{IsUnreadable}
pub use Rattle.salvage.specs.Trees.{AreAdded, AreBySize, AreKept, AreMarked, ArePlaced, AreTaken, IsFullBy, IsScanned}
pub use Rattle.salvage.specs.Trees.{IsTree}
pub use Rattle.salvage.specs.TreeRead.{AreApartChains, AreOwners, IsChainRefusal, IsIn, IsKept, IsNamedIn, IsNoFault}
pub use Rattle.salvage.specs.TreeRead.{IsReadTo}
pub use Rattle.salvage.specs.TreeRead.{IsToldDirectory}
pub use Rattle.salvage.specs.TreeRead.{IsToldFile, MayRefuse}
pub use Rattle.salvage.specs.TakenFiles.{IsAlone, IsDoubted, IsDoubtful, IsGood, IsSpoiled, IsUndamaged, IsVerdict}
pub use Rattle.salvage.specs.TakenFiles.{Judges, loss_of, told_of, uses}
unfoldable pub use Rattle.salvage.specs.TakenFiles.{AreJudged}
pub use Rattle.salvage.specs.ScannedBlocks.{AreFound, AreFree, AreLoaded, IsCandidate, IsReadAt, IsReported, IsWanted}
