-- The definitions that proofs and other crates cite, re-exported from one place. Declares nothing.
pub use Rattle.changeset.specs.Puts.{AreDistinct, IsPutIn, most_puts, replaced}
pub use Rattle.changeset.specs.Crashes.{AllOrNone, ArePending, IsGate, IsGateOrLog, IsInLog, IsLost, IsRecovered}
pub use Rattle.changeset.specs.Crashes.{IsShut, SettlesAs, SettlesLike, SettlesLikeBefore, SyncsFirst}
pub use Rattle.changeset.specs.Reads.{IsNextTarget, OnlyReads}
pub use Rattle.changeset.specs.Rest.{AtRest, Ignores, SettlesTo, commit_leaves, commit_rest, like_settles}
pub use Rattle.changeset.specs.Rest.{quiet_leaves, quiet_rest, quiet_stands, recover_leaves, recover_rest}
pub use Rattle.changeset.specs.Rest.{rest_settles, transaction_leaves}
pub use Rattle.changeset.specs.PutLaws.{all_behind, all_replaced, distinct_behind, distinct_replaced, length-replaced}
pub use Rattle.changeset.specs.PutLaws.{replaced-new, replaced_here, replaced_later, some_or_none, targets-behind}
pub use Rattle.changeset.specs.PutLaws.{targets-replaced, times_head, times_tail, with_puts-replaced, with_puts_here}
pub use Rattle.changeset.specs.PutLaws.{with_puts_later}
