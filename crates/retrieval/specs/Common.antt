-- The definitions that proofs and other crates cite, re-exported from one place. Declares nothing.
pub use Rattle.retrieval.specs.Modes.{mode_number}
pub use Rattle.retrieval.specs.Primes.{IsRewritten, with_length}
pub use Rattle.retrieval.specs.Versions.{VersionState, with_blocks}
pub use Rattle.retrieval.specs.Pointers.{ArePointers, run_of, runs_of}
pub use Rattle.retrieval.specs.Runs.{AreKept, BlocksState, IsAtOffset, behind, blocks_of_runs, ends_of, in_front}
pub use Rattle.retrieval.specs.Runs.{longest_runs, pair_of, pairs_of, part_blocks, ribs_of}
pub use Rattle.retrieval.specs.Heads.{IsAttributes, IsExtensionHead, IsPrimeHead, prime_front}
pub use Rattle.retrieval.specs.RibWords.{SpellsExtension, SpellsPrime}
pub use Rattle.retrieval.specs.VersionRead.{Extends, Follows, IsBadExtension, IsBadPrime, IsReadAs, IsReadTo}
pub use Rattle.retrieval.specs.VersionRead.{IsStandingVersion, IsStarted, IsVersionAt, Overfills}
pub use Rattle.retrieval.specs.VersionWrite.{AreApart, GrowsBy, IsFixed, Takes, extensions_of, rib_count}
pub use Rattle.retrieval.specs.Bodies.{AddsFree, AreWhole, IsOwn, KeepsOwn, StandsAt}
pub use Rattle.retrieval.specs.WordPlaces.{AtPlace, HoldsNew, IsEdge, IsEdgeBlock, IsNewBlock, IsPartlyPlaced}
pub use Rattle.retrieval.specs.WordPlaces.{StandAlone, Stays, unchanged_word}
pub use Rattle.retrieval.specs.PrimeWords.{IsPrimeOf}
