-- The definitions that proofs and other crates cite, re-exported from one place. Declares nothing.
pub use Rattle.directory.specs.Chains.{ChainState, IsChain, IsOn, chain_code, nodes_of, viewed}
pub use Rattle.directory.specs.ChainLaws.{bare_on, chain_items, chain_read, chain_stands, chain_weaker, items_of}
pub use Rattle.directory.specs.ChainLaws.{master_chain, numbers_of, on_kept}
pub use Rattle.directory.specs.ChainRead.{Adds, AreGood, IsBadAt, IsBadChain, IsBadWords, IsTwiceInChain, IsWholeChain}
pub use Rattle.directory.specs.ChainRead.{ReadsOn, SpellsBlock, SpellsEntries}
pub use Rattle.directory.specs.Spares.{HasPlaces, IsFull, IsSpareFor, KeyList}
pub use Rattle.directory.specs.Indexes.{AreGathered, AreRising, Compares, HasKeyAt, IsGap, IsIndex, IsInserted}
pub use Rattle.directory.specs.Indexes.{IsLeft, Precedes, order_to}
pub use Rattle.directory.specs.Edits.{IsReserve, Places, PutsChain, StandsAt, TakesBlock, block_put, block_words}
pub use Rattle.directory.specs.Edits.{inserted, last_first, removed, renamed}
